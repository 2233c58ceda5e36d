-- The operations on legal vectors as arithmetic: their trits, the vectors that they are, and the rules of the sum.
use mathlib.Core.Path.{◌≡◌, sym, ap, ap₂, ◌∙◌}
use mathlib.Core.Logic.{by_cases, ◌↔◌}
use Prim.Native.Nat.{ℕ, ◌+◌, ◌*◌, ◌%◌, ◌≤◌, ◌<◌}
use native.Mathlib.Nat.{mul_comm}
use native.Mathlib.Decide.{dec_lt}
use native.Mathlib.Omega.{arith}
use Rattle.trits.specs.declared.Vector.{Vector}
use Rattle.trits.specs.Trit.{trit, Legal, Holds, of_trits, none}
use Rattle.trits.specs.Words.{add_of, negate_of, product_of, times_of}
use Rattle.trits.proofs.LegalLaw.{trit_lt, trit_none, legal_none}
use Rattle.trits.proofs.SumLaw.{meets, negated, multiplied, scaled}
use Rattle.trits.proofs.ExtLaw.{trit_ext, trit_past}
use Rattle.trits.proofs.HoldLaw.{holds_is}

-- vectors of the same trits are equal
pub holds_unique : {m : ℕ} {f : ℕ → ℕ} {r s : Vector} → Holds m f r → Holds m f s → r ≡ s
holds_unique h k = holds_is h ∙ sym (holds_is k)

pub holds_all : {m : ℕ} {f : ℕ → ℕ} {r : Vector} → Holds m f r → ((e : ℕ) → m ≤ e → f e % 3 ≡ 0) → (e : ℕ) → trit r e ≡ f e % 3
holds_all {m} {f} {r} h z e = by_cases (dec_lt e m) (h.each e) (λ n. trit_past r h.legal e (omega arith) ∙ sym (z e (omega arith)))

module _ {m : ℕ} {a b : Vector} (la : Legal m a) (lb : Legal m b) where
  pub add_of_lem : add_of a b ≡ of_trits m (λ e. trit a e + trit b e)
  add_of_lem = holds_is (meets a b m la lb)

  pub product_of_lem : product_of a b ≡ of_trits m (λ e. trit a e * trit b e)
  product_of_lem = holds_is (multiplied a b m la lb)

  pub add_legal : Legal m (add_of a b)
  add_legal = (meets a b m la lb).legal

  pub product_legal : Legal m (product_of a b)
  product_legal = (multiplied a b m la lb).legal

  pub add_trit : (e : ℕ) → trit (add_of a b) e ≡ (trit a e + trit b e) % 3
  add_trit = holds_all (meets a b m la lb) (λ e h. ap₂ (λ (x y : ℕ). (x + y) % 3) (trit_past a la e h) (trit_past b lb e h))

  pub product_trit : (e : ℕ) → trit (product_of a b) e ≡ (trit a e * trit b e) % 3
  product_trit = holds_all (multiplied a b m la lb) (λ e h. ap₂ (λ (x y : ℕ). (x * y) % 3) (trit_past a la e h) (trit_past b lb e h))

module _ {m : ℕ} {v : Vector} (l : Legal m v) where
  pub negate_of_lem : negate_of v ≡ of_trits m (λ e. 2 * trit v e)
  negate_of_lem = holds_is (negated v m l)

  pub negate_legal : Legal m (negate_of v)
  negate_legal = (negated v m l).legal

  pub negate_trit : (e : ℕ) → trit (negate_of v) e ≡ (2 * trit v e) % 3
  negate_trit = holds_all (negated v m l) (λ e h. ap (λ (x : ℕ). (2 * x) % 3) (trit_past v l e h))

  pub times_of_lem : (t : ℕ) → times_of v t ≡ of_trits m (λ e. trit v e * t)
  times_of_lem t = holds_is (scaled v t m l)

  pub times_legal : (t : ℕ) → Legal m (times_of v t)
  times_legal t = (scaled v t m l).legal

  pub times_trit : (t e : ℕ) → trit (times_of v t) e ≡ (trit v e * t) % 3
  times_trit t = holds_all (scaled v t m l) (λ e h. ap (λ (x : ℕ). (x * t) % 3) (trit_past v l e h) ∙ omega arith)

-- the sum of vectors is a commutative group: `none` is its zero, and negation turns a vector round
module _ {m : ℕ} {a b : Vector} (la : Legal m a) (lb : Legal m b) where
  pub add_comm : add_of a b ≡ add_of b a
  add_comm = trit_ext (add_of a b) (add_of b a) (add_legal la lb) (add_legal lb la) (λ e. omega (arith, add_trit la lb e, add_trit lb la e))

  pub product_comm : product_of a b ≡ product_of b a
  product_comm = trit_ext (product_of a b) (product_of b a) (product_legal la lb) (product_legal lb la)
      (λ e. product_trit la lb e ∙ ap (λ (x : ℕ). x % 3) (mul_comm (trit a e) (trit b e)) ∙ sym (product_trit lb la e))

  pub add_assoc : {c : Vector} → Legal m c → add_of (add_of a b) c ≡ add_of a (add_of b c)
  add_assoc {c} lc =
      let lab = add_legal la lb in
      let lbc = add_legal lb lc in
      trit_ext (add_of (add_of a b) c) (add_of a (add_of b c)) (add_legal lab lc) (add_legal la lbc)
      (λ e. omega (arith, add_trit lab lc e, add_trit la lb e, add_trit la lbc e, add_trit lb lc e))

module _ {m : ℕ} {v : Vector} (l : Legal m v) where
  pub add_none : add_of v none ≡ v
  add_none = trit_ext (add_of v none) v (add_legal l (legal_none m)) l (λ e. omega (arith, add_trit l (legal_none m) e, trit_none e, trit_lt v e))

  pub none_add : add_of none v ≡ v
  none_add = add_comm (legal_none m) l ∙ add_none

  pub add_negate : add_of v (negate_of v) ≡ none
  add_negate =
      let n = negate_legal l in
      trit_ext (add_of v (negate_of v)) none (add_legal l n) (legal_none m) (λ e. omega (arith, add_trit l n e, negate_trit l e, trit_none e))

  pub negate_add : add_of (negate_of v) v ≡ none
  negate_add = add_comm (negate_legal l) l ∙ add_negate

-- a legal vector is `none` where all its trits are 0
pub none_iff : {m : ℕ} {v : Vector} → Legal m v → (v ≡ none) ↔ ((e : ℕ) → e < m → trit v e ≡ 0)
none_iff {m} {v} l = (
  (λ p e h. ap (λ (x : Vector). trit x e) p ∙ trit_none e),
  (λ f. trit_ext v none l (legal_none m) (λ e. by_cases (dec_lt e m) (λ h. f e h ∙ sym (trit_none e)) (λ n. trit_past v l e (omega arith) ∙ sym (trit_none e)))),
)
