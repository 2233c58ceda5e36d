-- Each verdict from the tests that the code makes, and the answer that goes with it.
use Rattle.std.specs.Prelude.{Ok, Err}
use mathlib.Core.Path.{◌≡◌, refl, sym, ap, ap₂, ◌∙◌}
use Prim.Native.Nat.{ℕ, ◌^◌, ◌<◌, ◌≤◌}
use lib.Dec.{leb}
use borrow.Author.Tests.{le-leb, lt-leb, leb-false}
use Rattle.refusals.specs.declared.Refusal.TheVariants.{Range}
use Rattle.refusals.specs.Refusal.{Verdict, done}
use Rattle.refusals.specs.Limits.{Unknowns}
use Rattle.refusals.proofs.RefusalLaw.{done_test, unknowns_next, unknowns_done}
use Rattle.gray.specs.Answers.{convert_verdict, point_from, place_from, told, point_told, place_told}

-- what an answer tells is what its verdict tells
pub point_told_lem : (v : Verdict) (x : ℕ) → point_told (point_from v x) ≡ told v x
point_told_lem (Ok _) x = refl
point_told_lem (Err r) x = refl

pub place_told_lem : (v : Verdict) (p : ℕ) → place_told (place_from v p) ≡ told v p
place_told_lem (Ok _) p = refl
place_told_lem (Err r) p = refl

-- both promises of an answer, from its verdict and its value
pub point_meets : (v w : Verdict) (x y : ℕ) → w ≡ v → y ≡ x → (point_from v y ≡ point_from w x) × (point_told (point_from v y) ≡ told w x)
point_meets v w x y e f =
    let s : point_from v y ≡ point_from w x = ap₂ (λ (u : Verdict) (z : ℕ). point_from u z) (sym e) f in
    (s, ap point_told s ∙ point_told_lem w x)

pub place_meets : (v w : Verdict) (x y : ℕ) → w ≡ v → y ≡ x → (place_from v y ≡ place_from w x) × (place_told (place_from v y) ≡ told w x)
place_meets v w x y e f =
    let s : place_from v y ≡ place_from w x = ap₂ (λ (u : Verdict) (z : ℕ). place_from u z) (sym e) f in
    (s, ap place_told s ∙ place_told_lem w x)

-- what is known of n and x once nothing is refused
pub done_so : (n x : ℕ) → convert_verdict n x ≡ done → Unknowns n × (x < 3 ^ n)
done_so n x e =
    let w = unknowns_done n _ e in
    let t = done_test (leb (3 ^ n) x) Range done (sym (unknowns_next n _ w) ∙ e) in
    (w, leb-false (3 ^ n) x t)
