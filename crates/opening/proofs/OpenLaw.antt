-- The record of a checked table made of its parts.
use mathlib.Core.Path.{◌≡◌, ap, ◌∙◌}
use mathlib.Core.List.{List}
use Prim.Native.Nat.{ℕ, ◌-◌, ◌<◌}
use Rattle.trits.specs.declared.Vector.{Vector}
use lib.ListN.{replicate}
use Rattle.trits.specs.Trit.{of_trits}
use Rattle.gray.specs.Numbers.{point_digit}
use Rattle.polynomials.specs.Poly.{value_of}
use Rattle.tables.specs.Words.{Table, poly_at, coefficients_of}
use Rattle.tables.proofs.RoundLaw.{coefficients_table}
use Rattle.given.specs.Given.{quadratic, cubic}
use Rattle.given.specs.Slots.{value_at, slots_at, seconds_at}
use Rattle.opening.specs.Opened.{opened_at}
use Rattle.opening.specs.Parts.{Slots}
use Rattle.opening.proofs.SystemLaw.{value_here, slots_of}
use Rattle.given.proofs.SlotLaw.{seconds_two}
use Rattle.cubic_opening.specs.declared.Stood.{Stood}
use Rattle.cubic_opening.specs.Parts.{At}

-- the record, from its parts
pub opened_is : (n m : ℕ) (t : List ℕ) (p : ℕ) (v : Vector) (s : List Vector) (x : ℕ → ℕ)
    → ((k : ℕ) → k < n → x k ≡ point_digit 3 (p - 1) k)
    → v ≡ of_trits m (λ e. value_of (poly_at n (coefficients_of n m t) e) n x)
    → Slots n (coefficients_of n m t) (p - 1) s
    → record { n = n; m = m; place = record { 0 = p }; value = v; slots = s; seconds = replicate 420 0 } ≡ opened_at (quadratic n m t) p
unfolding opened_at
opened_is n m t p v s x h e w =
    let e1 = e ∙ value_here n m t (p - 1) x h in
    let e2 = slots_of n m t (p - 1) s w in
    let e3 = seconds_two n m t (p - 1) in
    λ i. record { n = n; m = m; place = record { 0 = p }; value = e1 i; slots = e2 i; seconds = e3 i }

-- the same from what the calls say: d is what was written, q the latest place
pub opened_from : (n m : ℕ) (t d : List ℕ) (p q : ℕ) (v : Vector) (s : List Vector) (x : ℕ → ℕ)
    → d ≡ coefficients_of n m t → q ≡ p - 1
    → ((k : ℕ) → k < n → x k ≡ point_digit 3 q k)
    → ((j : ℕ) → Table n j d → v ≡ of_trits j (λ e. value_of (poly_at n d e) n x))
    → Slots n d q s
    → record { n = n; m = m; place = record { 0 = p }; value = v; slots = s; seconds = replicate 420 0 } ≡ opened_at (quadratic n m t) p
opened_from n m t d p q v s x e l h g w =
    let a : Table n m d = rw e (coefficients_table n m t) in
    opened_is n m t p v s x (λ k i. h k i ∙ ap (λ (y : ℕ). point_digit 3 y k) l)
    (g m a ∙ ap (λ (c : List ℕ). of_trits m (λ e. value_of (poly_at n c e) n x)) e) (rw (← e, ← l) w)

-- in degree 3, from what is worked out for the latest place q
pub opened_three : (n m : ℕ) (t : List ℕ) (p q : ℕ) (r : Stood) → q ≡ p - 1 → At (cubic n m t) q r
    → record { n = n; m = m; place = record { 0 = p }; value = r.value; slots = r.slots; seconds = r.seconds } ≡ opened_at (cubic n m t) p
unfolding opened_at
opened_three n m t p q r e h =
    let e1 = h.value ∙ ap (value_at (cubic n m t)) e in
    let e2 = h.slots ∙ ap (λ (x : ℕ). slots_at (cubic n m t) x 0 20) e in
    let e3 = h.seconds ∙ ap (λ (x : ℕ). seconds_at (cubic n m t) x 0 20) e in
    λ i. record { n = n; m = m; place = record { 0 = p }; value = e1 i; slots = e2 i; seconds = e3 i }
