-- The change of an unknown at a point, as the code sums it: a term for each unknown.
use mathlib.Core.Path.{◌≡◌, sym, ap, ◌∙◌}
use mathlib.Core.List.{List}
use Prim.Native.Nat.{ℕ, ◌+◌, ◌*◌, ◌%◌, ◌≤◌, ◌<◌}
use native.Mathlib.Nat.{mod-eq_of_lt}
use native.Mathlib.Numerals.{add-one}
use native.Mathlib.Omega.{arith}
use Rattle.residues.specs.Sums.{sum}
use Rattle.residues.proofs.SumLaw.{sum_ext, sum_zero}
use Rattle.trits.specs.declared.Vector.{Vector}
use Rattle.trits.specs.Trit.{trit, Legal, Holds, none}
use Rattle.trits.specs.Words.{Added, Scaled}
use Rattle.trits.proofs.LegalLaw.{trit_lt, trit_none, legal_none}
use Rattle.polynomials.specs.Poly.{slope, diff}
use Rattle.polynomials.proofs.PolyLaw.{slope_self, slope_above, slope_below}
use Rattle.tables.specs.Monomials.{count_of, index_of}
use Rattle.tables.specs.Words.{entry, Table, poly_at}
use Rattle.tables.proofs.IndexLaw.{index_lt}
use Rattle.trits.proofs.HoldLaw.{holds_ext, holds_add, holds_times}

-- a legal vector holds its own trits
pub holds_own : {m : ℕ} (v : Vector) → Legal m v → Holds m (trit v) v
holds_own v l = record { legal = l; each = λ e h. sym (mod-eq_of_lt (trit_lt v e)) }

module _ (n m : ℕ) (c : List ℕ) (w : Table n m c) where
  -- what the entries of a coefficient table hold
  pub quad_holds : (i j : ℕ) → i ≤ j → j < n → Holds m (λ e. (poly_at n c e).quad i j) (entry c (index_of n i j))
  unfolding poly_at
  quad_holds i j h l = holds_own (entry c (index_of n i j)) (w.legal _ (index_lt n i j h l))

  pub lin_holds : (i : ℕ) → i < n → Holds m (λ e. (poly_at n c e).lin i) (entry c (1 + i))
  unfolding poly_at count_of
  lin_holds i h = holds_own (entry c (1 + i)) (w.legal (1 + i) (omega arith))

  module _ (b i t : ℕ) (hb : b < n) (hi : i < n) where
    -- no step, no term
    pub term_none : t ≡ 0 → Holds m (λ e. slope (poly_at n c e) b i * t) none
    term_none z = record { legal = legal_none m; each = λ e h. trit_none e ∙ sym (zeroed (slope (poly_at n c e) b i) t z) }
      where
        zeroed : (x t : ℕ) → t ≡ 0 → x * t % 3 ≡ 0
        zeroed x t z = ap (λ (y : ℕ). x * y % 3) z ∙ none_of x
          where
            none_of : (x : ℕ) → x * 0 % 3 ≡ 0
            none_of x = omega arith

    pub term_below : {v r : Vector} → i < b → v ≡ entry c (index_of n i b) → Scaled v t r → Holds m (λ e. slope (poly_at n c e) b i * t) r
    term_below {v} {r} l q s =
        let h : Holds m (λ e. (poly_at n c e).quad i b) v = rw q (quad_holds i b (omega arith) hb) in
        holds_ext (λ e k. ap (λ (x : ℕ). x * t % 3) (sym (slope_below (poly_at n c e) b i l))) (holds_times s h)

    pub term_above : {v r : Vector} → b < i → v ≡ entry c (index_of n b i) → Scaled v t r → Holds m (λ e. slope (poly_at n c e) b i * t) r
    term_above {v} {r} l q s =
        let h : Holds m (λ e. (poly_at n c e).quad b i) v = rw q (quad_holds b i (omega arith) hi) in
        holds_ext (λ e k. ap (λ (x : ℕ). x * t % 3) (sym (slope_above (poly_at n c e) b i l))) (holds_times s h)

    pub term_self : {v u r : Vector} → b ≡ i → v ≡ entry c (index_of n b i) → Added v v u → Scaled u t r → Holds m (λ e. slope (poly_at n c e) b i * t) r
    term_self {v} {u} {r} l q a s =
        let h : Holds m (λ e. (poly_at n c e).quad b i) v = rw q (quad_holds b i (omega arith) hi) in
        holds_ext (λ e k. ap (λ (x : ℕ). x * t % 3) (double ((poly_at n c e).quad b i)
        ∙ ap (λ (x : ℕ). 2 * (poly_at n c e).quad b x) (sym l) ∙ sym (slope_self (poly_at n c e) b) ∙ ap (slope (poly_at n c e) b) l)) (holds_times s (holds_add a h h))
      where
        double : (x : ℕ) → x + x ≡ 2 * x
        double x = omega arith

  -- the sum so far
  pub Sofar : ℕ → (ℕ → ℕ) → ℕ → Vector → Type 0
  Sofar b p i v = Holds m (λ e. (poly_at n c e).lin b + (poly_at n c e).quad b b + sum i (λ k. slope (poly_at n c e) b k * p k)) v

  -- it begins at an unknown before which all steps are 0
  pub sofar_none : (b i : ℕ) (p : ℕ → ℕ) → b < n → {x y v : Vector} → x ≡ entry c (1 + b) → y ≡ entry c (index_of n b b) → Added x y v
      → ((k : ℕ) → k < i → p k ≡ 0) → Sofar b p i v
  unfolding Sofar
  sofar_none b i p h {x} {y} {v} ex ey a z =
      let hx : Holds m (λ e. (poly_at n c e).lin b) x = rw ex (lin_holds b h) in
      let hy : Holds m (λ e. (poly_at n c e).quad b b) y = rw ey (quad_holds b b (omega arith) h) in
      holds_ext (λ e l. ap (λ (z : ℕ). z % 3) (plain ((poly_at n c e).lin b + (poly_at n c e).quad b b) _ (nothing (slope (poly_at n c e) b)))) (holds_add a hx hy)
    where
      plain : (x s : ℕ) → s ≡ 0 → x ≡ x + s
      plain x s e = omega arith

      nothing : (f : ℕ → ℕ) → sum i (λ k. f k * p k) ≡ 0
      nothing f = sum_ext i (λ k. f k * p k) (λ k. f k * 0) (λ k l. ap (λ (u : ℕ). f k * u) (z k l)) ∙ sum_zero i f

  pub sofar_next : (b i t : ℕ) (p : ℕ → ℕ) {v s r : Vector} → t ≡ p i → Sofar b p i v → Holds m (λ e. slope (poly_at n c e) b i * t) s → Added v s r → Sofar b p (i + 1) r
  unfolding Sofar sum
  sofar_next b i t p {v} {s} {r} q hv hs a =
      rw (add-one i) (holds_ext (λ e l. ap (λ (z : ℕ). z % 3) (more _ _ _ _ t (p i) q)) (holds_add a hv hs))
    where
      more : (x y z k t u : ℕ) → t ≡ u → x + y + z + k * t ≡ x + y + (z + k * u)
      more x y z k t u e = ap (λ (w : ℕ). x + y + z + k * w) e ∙ omega arith

  pub sofar_whole : (b : ℕ) (p : ℕ → ℕ) {v : Vector} → Sofar b p n v → Holds m (λ e. diff (poly_at n c e) n b p) v
  unfolding Sofar diff
  sofar_whole b p h = h
