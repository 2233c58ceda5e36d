-- The test of two records decides whether they are equal.
use mathlib.Core.Path.{◌≡◌, refl, sym, ap, ap₂, ◌∙◌}
use mathlib.Core.Bool.{Bool, true, false, ◌&&◌}
use mathlib.Core.Logic.{◌↔◌}
use mathlib.Core.List.{List, [], ◌∷◌}
use Prim.Native.Nat.{ℕ, zero, suc}
use native.Mathlib.Omega.{arith}
use lib.Dec.{eqb}
use lib.Pointwise.{pointwise}
use lib.ListN.{length, replicate}
use borrow.Author.Tests.{eqb-true, eq-eqb}
use Rattle.trits.specs.declared.Vector.{Vector}
use Rattle.trits.proofs.Bits.{and_left, and_right}
use Rattle.given.specs.declared.Degree.TheVariants.{Two, Three}
use Rattle.opening.specs.declared.First.{First}
use Rattle.opening.specs.declared.Record.{Record}
use Rattle.opening.specs.First.{all_zero, first_of, whole_of}
use Rattle.outcomes.specs.Search.{same_vector, same_list, same_record}
use Rattle.outcomes.specs.First.{same_first}

self : (x : ℕ) → eqb x x ≡ true
self x = eq-eqb x x refl

both : (a b : Bool) → a ≡ true → b ≡ true → (a && b) ≡ true
both true b p q = q
both false b p q = p

pub vector_same : (a b : Vector) → same_vector a b ≡ true → a ≡ b
vector_same a b h = λ i. record { high = highs i; low = lows i }
  where
    highs : a.high ≡ b.high
    highs = eqb-true _ _ (and_left (eqb a.high b.high) (eqb a.low b.low) h)

    lows : a.low ≡ b.low
    lows = eqb-true _ _ (and_right (eqb a.high b.high) (eqb a.low b.low) h)

pub vector_self : (a : Vector) → same_vector a a ≡ true
vector_self a = both (eqb a.high a.high) (eqb a.low a.low) (self a.high) (self a.low)

-- lists of what a test tells apart
module _ {A : Type 0} (same : A → A → Bool) where
  pub list_same : ((x y : A) → same x y ≡ true → x ≡ y) → (vs ws : List A) → same_list same vs ws ≡ true → vs ≡ ws
  unfolding same_list
  list_same is [] [] h = refl
  list_same is [] (w ∷ ws) h = absurd (mathlib.Core.Bool.false≢true h)
  list_same is (v ∷ vs) [] h = absurd (mathlib.Core.Bool.false≢true h)
  list_same is (v ∷ vs) (w ∷ ws) h =
      ap₂ (λ (x : A) (xs : List A). x ∷ xs) (is v w (and_left (same v w) (same_list same vs ws) h))
      (list_same is vs ws (and_right (same v w) (same_list same vs ws) h))

  pub list_self : ((x : A) → same x x ≡ true) → (vs : List A) → same_list same vs vs ≡ true
  unfolding same_list
  list_self is [] = refl
  list_self is (v ∷ vs) = both (same v v) (same_list same vs vs) (is v) (list_self is vs)

module _ (r s : Record) where
  t1 : Bool
  t1 = eqb r.n s.n

  t2 : Bool
  t2 = eqb r.m s.m

  t3 : Bool
  t3 = eqb r.place.0 s.place.0

  t4 : Bool
  t4 = same_vector r.value s.value

  t5 : Bool
  t5 = same_list same_vector r.slots s.slots

  t6 : Bool
  t6 = same_list eqb r.seconds s.seconds

  pub record_same : same_record r s ≡ true → r ≡ s
  unfolding same_record t1 t2 t3 t4 t5 t6
  record_same h =
      let h5 = and_left (t1 && t2 && t3 && t4 && t5) t6 h in
      let h4 = and_left (t1 && t2 && t3 && t4) t5 h5 in
      let h3 = and_left (t1 && t2 && t3) t4 h4 in
      let h2 = and_left (t1 && t2) t3 h3 in
      let e1 : r.n ≡ s.n = eqb-true _ _ (and_left t1 t2 h2) in
      let e2 : r.m ≡ s.m = eqb-true _ _ (and_right t1 t2 h2) in
      let e3 : r.place.0 ≡ s.place.0 = eqb-true _ _ (and_right (t1 && t2) t3 h3) in
      let e4 : r.value ≡ s.value = vector_same _ _ (and_right (t1 && t2 && t3) t4 h4) in
      let e5 : r.slots ≡ s.slots = list_same same_vector vector_same _ _ (and_right (t1 && t2 && t3 && t4) t5 h5) in
      let e6 : r.seconds ≡ s.seconds = list_same eqb eqb-true _ _ (and_right (t1 && t2 && t3 && t4 && t5) t6 h) in
      λ i. record { n = e1 i; m = e2 i; place = record { 0 = e3 i }; value = e4 i; slots = e5 i; seconds = e6 i }

pub record_self : (r : Record) → same_record r r ≡ true
unfolding same_record
record_self r =
    both _ _ (both _ _ (both _ _ (both _ _ (both _ _ (self r.n) (self r.m)) (self r.place.0)) (vector_self r.value)) (list_self same_vector vector_self r.slots))
    (list_self eqb self r.seconds)

pub record_iff : (r s : Record) → (same_record r s ≡ true) ↔ (r ≡ s)
record_iff r s = (record_same r s, λ e. ap (same_record r) (sym e) ∙ record_self r)

-- ---- what `==` asks of two lists, and of two first parts
pub lists_told : {A : Type 0} (same : A → A → Bool) (vs ws : List A) → pointwise same vs ws ≡ same_list same vs ws
unfolding same_list
lists_told same [] [] = refl
lists_told same [] (w ∷ ws) = refl
lists_told same (v ∷ vs) [] = refl
lists_told same (v ∷ vs) (w ∷ ws) = ap (λ (z : Bool). same v w && z) (lists_told same vs ws)

in_turn : (a b c d e : Bool) → (a && (b && (c && (d && e)))) ≡ (a && b && c && d && e)
in_turn true true true true e = refl
in_turn true true true false e = refl
in_turn true true false d e = refl
in_turn true false c d e = refl
in_turn false b c d e = refl

pub first_told : (f o : First)
    → (eqb f.n o.n && (eqb f.m o.m && (eqb f.place.0 o.place.0 && (same_vector f.value o.value && pointwise same_vector f.slots o.slots)))) ≡ same_first f o
unfolding same_first
first_told f o =
    in_turn (eqb f.n o.n) (eqb f.m o.m) (eqb f.place.0 o.place.0) (same_vector f.value o.value) (pointwise same_vector f.slots o.slots)
    ∙ ap (λ (z : Bool). eqb f.n o.n && eqb f.m o.m && eqb f.place.0 o.place.0 && same_vector f.value o.value && z) (lists_told same_vector f.slots o.slots)

-- ---- a record in two parts
and_true : (x : Bool) → (x && true) ≡ x
and_true true = refl
and_true false = refl

-- in degree 2 the first parts decide
pub two_same : (f o : First) (x : Record) → whole_of Two o [] ≡ x → same_first f o ≡ same_record (whole_of Two f []) x
unfolding same_record same_first
two_same f o x e =
    sym (and_true (same_first f o)) ∙ ap (λ (z : Bool). same_first f o && z) (sym (list_self eqb self (replicate 420 0))) ∙ ap (same_record (whole_of Two f [])) e

-- in degree 3 the second slots do, too
module _ (f : First) (s : List ℕ) (o x : Record) (e : o ≡ x) where
  three_same : (same_first f (first_of o) && same_list eqb s o.seconds) ≡ same_record (whole_of Three f s) x
  unfolding same_record same_first
  three_same = ap (same_record (whole_of Three f s)) e

  pub three_first : same_first f (first_of o) ≡ false → false ≡ same_record (whole_of Three f s) x
  three_first h = sym (ap (λ (z : Bool). z && same_list eqb s o.seconds) h) ∙ three_same

  pub three_seconds : same_first f (first_of o) ≡ true → same_list eqb s o.seconds ≡ same_record (whole_of Three f s) x
  three_seconds h = sym (ap (λ (z : Bool). z && same_list eqb s o.seconds) h) ∙ three_same

-- ---- words that are all zero
pub zeros_same : (s : List ℕ) (k : ℕ) → length s ≡ k → same_list eqb s (replicate k 0) ≡ all_zero s
unfolding same_list all_zero
zeros_same [] zero e = refl
zeros_same [] (suc k) e = absurd (omega (arith, e))
zeros_same (x ∷ s) zero e = absurd (omega (arith, e))
zeros_same (x ∷ s) (suc k) e = ap (λ (z : Bool). eqb x 0 && z) (zeros_same s k (omega (arith, e)))

pub zeros_are : (s : List ℕ) → all_zero s ≡ true → s ≡ replicate (length s) 0
unfolding all_zero
zeros_are [] h = refl
zeros_are (x ∷ s) h = ap₂ (λ (y : ℕ) (t : List ℕ). y ∷ t) (eqb-true x 0 (and_left (eqb x 0) (all_zero s) h)) (zeros_are s (and_right (eqb x 0) (all_zero s) h))

pub zeros_all : (k : ℕ) → all_zero (replicate k 0) ≡ true
unfolding all_zero
zeros_all zero = refl
zeros_all (suc k) = zeros_all k
