-- What opening answers, by the verdict on the table.
use Rattle.std.specs.Prelude.{Ok, Err}
use mathlib.Core.Path.{◌≡◌, refl, sym, ap, ◌∙◌}
use mathlib.Core.Bool.{Bool}
use Prim.Native.Nat.{ℕ, ◌^◌, ◌≤◌, ◌<◌}
use lib.Dec.{ltb}
use borrow.Author.Tests.{lt-ltb, le-ltb}
use Rattle.refusals.specs.declared.Refusal.{Refusal}
use Rattle.refusals.specs.declared.Refusal.TheVariants as refusal
use Rattle.refusals.specs.Refusal.{Verdict, code_of, refuse, done}
use Rattle.given.specs.Given.{Given, table_verdict, Checked}
use Rattle.given.proofs.TableLaw.{checked_next, refused_first}
use Rattle.opening.specs.declared.Record.{Record}
use Rattle.opening.specs.Opened.{Opened, opened_at, opened_by, opened_code, record_of, refused_open, open_verdict, open_of}

-- ---- an answer, taken apart
abbrev verdict_of : Opened → Verdict
verdict_of (Ok r) = done
verdict_of (Err f) = Err f

verdict_told : (v : Verdict) (r : Record) → verdict_of (opened_by v r) ≡ v
verdict_told (Ok _) r = refl
verdict_told (Err f) r = refl

pub opened_err : (v : Verdict) (x : Record) (f : Refusal) → opened_by v x ≡ Err f → v ≡ Err f
opened_err v x f e = sym (verdict_told v x) ∙ ap verdict_of e

pub opened_ok : (v : Verdict) (x r : Record) → opened_by v x ≡ Ok r → (v ≡ done) × (r ≡ x)
opened_ok v x r e =
    let d : v ≡ done = sym (verdict_told v x) ∙ ap verdict_of e in
    (d, sym (ap record_of e) ∙ ap (λ (v : Verdict). record_of (opened_by v x)) d)

module _ (g : Given) (p : ℕ) where
  -- the answer that goes with a verdict
  abbrev with : Verdict → Opened
  with v = opened_by v (opened_at g p)

  pub open_refused : (f : Refusal) → table_verdict g done ≡ Err f → refused_open f ≡ open_of g p
  open_refused f e = sym (ap with (refused_first g f (refuse (ltb (3 ^ g.n) p) refusal.Range done) e))

  -- a checked table is refused for its place alone
  module _ (ok : Checked g) where
    place_left : open_verdict g p ≡ refuse (ltb (3 ^ g.n) p) refusal.Range done
    place_left = checked_next g (refuse (ltb (3 ^ g.n) p) refusal.Range done) ok

    pub open_out : 3 ^ g.n < p → refused_open refusal.Range ≡ open_of g p
    open_out h = sym (ap with (place_left ∙ ap (λ (b : Bool). refuse b refusal.Range done) (lt-ltb (3 ^ g.n) p h)))

    pub verdict_done : p ≤ 3 ^ g.n → open_verdict g p ≡ done
    verdict_done h = place_left ∙ ap (λ (b : Bool). refuse b refusal.Range done) (le-ltb (3 ^ g.n) p h)

    pub open_done : (r : Record) → p ≤ 3 ^ g.n → r ≡ opened_at g p → Ok r ≡ open_of g p
    open_done r h o = ap (λ (r : Record). opened_by done r) o ∙ sym (ap with (verdict_done h))

  -- the number that an answer tells is the verdict's
  pub open_number : opened_code (open_of g p) ≡ code_of (open_verdict g p)
  open_number = told (open_verdict g p)
    where
      told : (v : Verdict) → opened_code (with v) ≡ code_of v
      told (Ok _) = refl
      told (Err f) = refl

  -- an answer's record where nothing is refused
  pub opened_record : Checked g → p ≤ 3 ^ g.n → record_of (open_of g p) ≡ opened_at g p
  opened_record ok h = ap (λ (v : Verdict). record_of (with v)) (verdict_done ok h)
