-- The search of a checked table serves the walk of its system: from the record at a place a call is refused for its budget or its list
-- and changes nothing, or it is a call on the walk.
use Rattle.std.specs.Prelude.{Ok, Err}
use mathlib.Core.Path.{◌≡◌, refl, ap, ◌∙◌}
use mathlib.Core.Bool.{Bool, true, false}
use mathlib.Core.Logic.{◌⊎◌, inl, inr}
use mathlib.Core.List.{List}
use Prim.Native.Nat.{ℕ, ◌+◌, ◌^◌, ◌≤◌, ◌<◌}
use native.Mathlib.Omega.{arith}
use lib.Dec.{eqb}
use lib.ListN.{length}
use borrow.Author.Tests.{ne_eqb, eqb-false}
use Rattle.refusals.specs.declared.Refusal.TheVariants as refusal
use Rattle.refusals.specs.Refusal.{Verdict, refuse, after, done}
use Rattle.walks.specs.Calls.{Trail, points_in, report_of, list_after}
use Rattle.walks.specs.Runs.{Request, Reply, away_with, ran_by, Asks, Serves, Willing}
use Rattle.walks.specs.declared.Report.{Report}
use Rattle.given.specs.Given.{Given, Checked}
use Rattle.opening.specs.declared.Record.{Record}
use Rattle.opening.specs.Opened.{opened_at}
use Rattle.outcomes.specs.Search.{trail_behind, answer_from}
use Rattle.demand.specs.Session.{told_of, call_of}
use Rattle.outcomes.proofs.VerdictLaw.{asked, verdict_opened}

-- what a call gives back, by the verdict
abbrev reply_from : Verdict → Record → Report → Record → List ℕ → List ℕ → Reply Record
reply_from v r w s k l = record { told = told_of (answer_from v (record { answer = Ok w; «record» = s })); state = after v r s; list = after v k l }

-- the verdict on a request, by what is asked of its budget and of its list
asked_by : (q : Request) (x y : Bool) → eqb q.budget 0 ≡ x → eqb (length q.list) 0 ≡ y
    → asked q.budget q.list ≡ refuse x refusal.Budget (refuse y refusal.List done)
asked_by q x y b c = ap (λ (z : Bool). refuse z refusal.Budget (refuse (eqb (length q.list) 0) refusal.List done)) b
    ∙ ap (λ (z : Bool). refuse x refusal.Budget (refuse z refusal.List done)) c

module _ (g : Given) (ok : Checked g) where
  abbrev T : Trail
  T = trail_behind g

  call_by : (p : ℕ) (q : Request) (v : Verdict) → p ≤ 3 ^ g.n → asked q.budget q.list ≡ v
      → call_of g (opened_at g p) q
      ≡ reply_from v (opened_at g p) (report_of T q.budget (length q.list) p) (opened_at g (p + points_in T q.budget (length q.list) p)) q.list (list_after T q.budget p q.list)
  unfolding call_of opened_at
  call_by p q v h e =
      ap (λ (v : Verdict). reply_from v (opened_at g p) (report_of T q.budget (length q.list) p) (opened_at g (p + points_in T q.budget (length q.list) p)) q.list (list_after T q.budget p q.list))
      (verdict_opened g p q.budget q.list ok h ∙ e)

  -- a request that asks for something runs
  pub willing : Willing T (opened_at g) (call_of g)
  unfolding trail_behind
  willing p q h a =
      call_by p q done h (asked_by q false false (ne_eqb q.budget 0 (λ z. omega (arith, a.budget))) (ne_eqb (length q.list) 0 (λ z. omega (arith, a.room))))

  pub serves : Serves T (opened_at g) (call_of g)
  unfolding trail_behind
  serves p q h = go (eqb q.budget 0) (eqb (length q.list) 0) refl refl
    where
      above : (x : ℕ) → (x ≡ 0 → ⊥) → 0 < x
      above x h = omega arith

      go : (x y : Bool) → eqb q.budget 0 ≡ x → eqb (length q.list) 0 ≡ y
          → (call_of g (opened_at g p) q ≡ away_with (opened_at g p) q) ⊎ (Asks q × (call_of g (opened_at g p) q ≡ ran_by T (opened_at g) p q))
      go true y b c = inl (call_by p q (Err refusal.Budget) h (asked_by q true y b c))
      go false true b c = inl (call_by p q (Err refusal.List) h (asked_by q false true b c))
      go false false b c =
          let a : Asks q = record { budget = above q.budget (eqb-false _ _ b); room = above (length q.list) (eqb-false _ _ c) } in
          inr (a, willing p q h a)
