-- Degree said by differences: a function of points whose differences of order k are all 0 modulo q.
use mathlib.Core.Path.{◌≡◌}
use Prim.Native.Nat.{ℕ, zero, suc, ◌+◌, ◌-◌, ◌*◌, ◌<◌, ◌≤◌}
use native.Mathlib.Nat.{add-zero, zero-add}
use native.Mathlib.Omega.{arith}
use Rattle.residues.specs.Sums.{sum}
use Rattle.residues.proofs.ModLaw.{Cong, crefl, cof, csym, ◌⨾◌, cadd, cmul, cminus}

-- a function of points, and its difference in the direction v
abbrev pub Fun : Type 0
Fun = (ℕ → ℕ) → ℕ

abbrev pub plus : (ℕ → ℕ) → (ℕ → ℕ) → ℕ → ℕ
plus x v k = x k + v k

abbrev pub delta : ℕ → (ℕ → ℕ) → Fun → Fun
delta q v h x = h (plus x v) + (q - 1) * h x

abbrev pub Flat : ℕ → ℕ → Fun → Type 0
Flat q zero h = (x : ℕ → ℕ) → Cong q (h x) 0
Flat q (suc k) h = (v : ℕ → ℕ) → Flat q k (delta q v h)

abbrev pub Ext : ℕ → Fun → Type 0
Ext q h = (x y : ℕ → ℕ) → ((k : ℕ) → Cong q (x k) (y k)) → Cong q (h x) (h y)

module _ (q : ℕ) (pos : 0 < q) where
  pub delta_like : (g h : Fun) (v : ℕ → ℕ) → ((x : ℕ → ℕ) → Cong q (g x) (h x)) → (x : ℕ → ℕ) → Cong q (delta q v g x) (delta q v h x)
  delta_like g h v s x = cadd (s (plus x v)) (cmul (crefl (q - 1)) (s x))

  pub flat_same : (k : ℕ) (h g : Fun) → ((x : ℕ → ℕ) → Cong q (h x) (g x)) → Flat q k h → Flat q k g
  flat_same zero h g e f = λ x. csym (e x) ⨾ f x
  flat_same (suc k) h g e f = λ v. flat_same k (delta q v h) (delta q v g) (λ x. cadd (e (plus x v)) (cmul (crefl (q - 1)) (e x))) (f v)

  pub flat_none : (k : ℕ) (h : Fun) → ((x : ℕ → ℕ) → Cong q (h x) 0) → Flat q k h
  flat_none zero h e = e
  flat_none (suc k) h e = λ v. flat_none k (delta q v h) (λ x. cadd (e (plus x v)) (cmul (crefl (q - 1)) (e x)) ⨾ cof (none (q - 1)))
    where
      none : (a : ℕ) → 0 + a * 0 ≡ 0
      none a = omega arith

  pub flat_le : (k j : ℕ) (h : Fun) → k ≤ j → Flat q k h → Flat q j h
  flat_le zero j h l f = flat_none j h f
  flat_le (suc k) zero h l f = absurd (omega arith)
  flat_le (suc k) (suc j) h l f = λ v. flat_le k j (delta q v h) (omega arith) (f v)

  pub flat_add : (k : ℕ) (f g : Fun) → Flat q k f → Flat q k g → Flat q k (λ x. f x + g x)
  flat_add zero f g s t = λ x. cadd (s x) (t x)
  flat_add (suc k) f g s t =
      λ v. flat_same k (λ x. delta q v f x + delta q v g x) (delta q v (λ x. f x + g x)) (λ x. cof (turn (f (plus x v)) (g (plus x v)) (f x) (g x) (q - 1)))
      (flat_add k (delta q v f) (delta q v g) (s v) (t v))
    where
      turn : (a b c d r : ℕ) → a + r * c + (b + r * d) ≡ a + b + r * (c + d)
      turn a b c d r = omega arith

  pub ext_delta : (h : Fun) (v : ℕ → ℕ) → Ext q h → Ext q (delta q v h)
  ext_delta h v e x y s = cadd (e (plus x v) (plus y v) (λ k. cadd (s k) (crefl (v k)))) (cmul (crefl (q - 1)) (e x y s))

  -- a point moved by an affine map
  pub flat_affine : (A L : (ℕ → ℕ) → ℕ → ℕ) → ((x v : ℕ → ℕ) (i : ℕ) → Cong q (A (plus x v) i) (A x i + L v i))
      → (k : ℕ) (h : Fun) → Ext q h → Flat q k h → Flat q k (λ x. h (A x))
  flat_affine A L s zero h e f = λ x. f (A x)
  flat_affine A L s (suc k) h e f =
      λ v. flat_same k (λ x. delta q (L v) h (A x)) (delta q v (λ x. h (A x))) (λ x. cadd (e (plus (A x) (L v)) (A (plus x v)) (λ i. csym (s x v i))) (crefl ((q - 1) * h (A x))))
      (flat_affine A L s k (delta q (L v) h) (ext_delta h (L v) e) (f (L v)))

  pub flat_shift : (w : ℕ → ℕ) (k : ℕ) (h : Fun) → Ext q h → Flat q k h → Flat q k (λ x. h (plus x w))
  flat_shift w k h e f = flat_affine (λ x. plus x w) (λ v. v) (λ x v i. cof (swap (x i) (v i) (w i))) k h e f
    where
      swap : (a b c : ℕ) → a + b + c ≡ a + c + b
      swap a b c = omega arith

  pub ext_shift : (w : ℕ → ℕ) (h : Fun) → Ext q h → Ext q (λ x. h (plus x w))
  ext_shift w h e x y s = e (plus x w) (plus y w) (λ k. cadd (s k) (crefl (w k)))

  leibniz : (F F' G G' : ℕ) → Cong q ((F' + (q - 1) * F) * G' + F * (G' + (q - 1) * G)) (F' * G' + (q - 1) * (F * G))
  leibniz F F' G G' =
      cof (ring F F' G G' (q - 1)) ⨾ cadd (crefl (F' * G' + (q - 1) * (F * G))) (cminus q pos (F * G')) ⨾ cof (add-zero _)
    where
      ring : (F F' G G' r : ℕ) → (F' + r * F) * G' + F * (G' + r * G) ≡ F' * G' + r * (F * G) + (F * G' + r * (F * G'))
      ring F F' G G' r = omega arith

  -- degrees add up
  pub flat_times : (c a b : ℕ) (f g : Fun) → a + b ≤ c → Ext q g → Flat q a f → Flat q (suc b) g → Flat q c (λ x. f x * g x)
  flat_times c zero b f g l e s t = flat_none c (λ x. f x * g x) (λ x. cmul (s x) (crefl (g x)) ⨾ cof (none (g x)))
    where
      none : (y : ℕ) → 0 * y ≡ 0
      none y = omega arith
  flat_times zero (suc a) b f g l e s t = absurd (omega arith)
  flat_times (suc c) (suc a) zero f g l e s t =
      λ v. flat_same c (λ x. delta q v f x * g (plus x v) + f x * delta q v g x) (delta q v (λ x. f x * g x)) (λ x. leibniz (f x) (f (plus x v)) (g x) (g (plus x v)))
      (flat_add c (λ x. delta q v f x * g (plus x v)) (λ x. f x * delta q v g x)
      (flat_times c a 0 (delta q v f) (λ x. g (plus x v)) (omega arith) (ext_shift v g e) (s v) (flat_shift v 1 g e t))
      (flat_none c (λ x. f x * delta q v g x) (λ x. cmul (crefl (f x)) (t v x) ⨾ cof (none (f x)))))
    where
      none : (y : ℕ) → y * 0 ≡ 0
      none y = omega arith
  flat_times (suc c) (suc a) (suc b) f g l e s t =
      λ v. flat_same c (λ x. delta q v f x * g (plus x v) + f x * delta q v g x) (delta q v (λ x. f x * g x)) (λ x. leibniz (f x) (f (plus x v)) (g x) (g (plus x v)))
      (flat_add c (λ x. delta q v f x * g (plus x v)) (λ x. f x * delta q v g x)
      (flat_times c a (suc b) (delta q v f) (λ x. g (plus x v)) (omega arith) (ext_shift v g e) (s v) (flat_shift v (suc (suc b)) g e t))
      (flat_times c (suc a) b f (delta q v g) (omega arith) (ext_delta g v e) s (t v)))

  pub flat_const : (c : ℕ) → Flat q 1 (λ x. c)
  flat_const c = λ v x. cminus q pos c

  pub flat_digit : (i : ℕ) → Flat q 2 (λ x. x i)
  flat_digit i = λ v w x. cadd (moved (x i + w i) (v i)) (cmul (crefl (q - 1)) (moved (x i) (v i))) ⨾ cminus q pos (v i)
    where
      turn : (y v r : ℕ) → y + v + r * y ≡ y + r * y + v
      turn y v r = omega arith

      moved : (y v : ℕ) → Cong q (y + v + (q - 1) * y) v
      moved y v = cof (turn y v (q - 1)) ⨾ cadd (cminus q pos y) (crefl v) ⨾ cof (zero-add v)

  pub flat_sum : (n k : ℕ) (h : ℕ → Fun) → ((i : ℕ) → Flat q k (h i)) → Flat q k (λ x. sum n (λ i. h i x))
  unfolding sum
  flat_sum zero k h f = flat_none k (λ x. 0) (λ x. crefl 0)
  flat_sum (suc n) k h f = flat_add k (λ x. sum n (λ i. h i x)) (h n) (flat_sum n k h f) (f n)

  pub ext_digit : (i : ℕ) → Ext q (λ x. x i)
  ext_digit i x y s = s i
