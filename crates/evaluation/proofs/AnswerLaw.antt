-- The tests of an evaluation, one after the other, are document 01's order of refusals.
use Rattle.std.specs.Prelude.{Ok, Err}
use mathlib.Core.Path.{◌≡◌, refl, ap, ◌∙◌}
use mathlib.Core.Bool.{Bool}
use mathlib.Core.List.{List}
use Prim.Native.Nat.{ℕ, ◌^◌, ◌≤◌, ◌<◌}
use lib.Dec.{leb}
use borrow.Author.Tests.{le-leb, lt-leb}
use Rattle.refusals.specs.declared.Refusal.{Refusal}
use Rattle.refusals.specs.declared.Refusal.TheVariants.{Range}
use Rattle.refusals.specs.Refusal.{Verdict, code_of, refuse, done}
use Rattle.trits.specs.declared.Vector.{Vector}
use Rattle.tables.specs.Answers.{Evaluated}
use Rattle.tables.specs.Answers.{checked_then, point_verdict, valued, evaluated_code, evaluated_words, words_from, TellsOf}
use Rattle.tables.proofs.AnswerLaw.{entries_refused, entries_passed}

-- an evaluation tells document 01's number and values
tells_by : (v : Verdict) (w : Vector) → (evaluated_code (valued v w) ≡ code_of v) × (evaluated_words (valued v w) ≡ words_from v w)
tells_by (Ok _) w = (refl, refl)
tells_by (Err r) w = (refl, refl)

pub tells_of : (u : Verdict) (w : Vector) (r : Evaluated) → r ≡ valued u w → TellsOf u w r
tells_of u w r e =
    let k = tells_by u w in
    record { number = ap evaluated_code e ∙ k.0; values = ap evaluated_words e ∙ k.1 }

-- evaluation of a table of N entries whose value at x is w, case by case
module _ (N n m : ℕ) (t : List ℕ) (x : ℕ) (w : Vector) where
  pub value_refused : (r : Refusal) → checked_then N n m t done ≡ Err r → valued (point_verdict N n m t x) w ≡ Err r
  value_refused r e = ap (λ (v : Verdict). valued v w) (entries_refused N n m t r (refuse (leb (3 ^ n) x) Range done) e)

  pub value_outside : checked_then N n m t done ≡ done → 3 ^ n ≤ x → valued (point_verdict N n m t x) w ≡ Err Range
  value_outside e h =
      ap (λ (v : Verdict). valued v w)
      (entries_passed N n m t (refuse (leb (3 ^ n) x) Range done) e ∙ ap (λ (b : Bool). refuse b Range done) (le-leb (3 ^ n) x h))

  pub value_inside : checked_then N n m t done ≡ done → x < 3 ^ n → valued (point_verdict N n m t x) w ≡ Ok w
  value_inside e h =
      ap (λ (v : Verdict). valued v w)
      (entries_passed N n m t (refuse (leb (3 ^ n) x) Range done) e ∙ ap (λ (b : Bool). refuse b Range done) (lt-leb (3 ^ n) x h))
