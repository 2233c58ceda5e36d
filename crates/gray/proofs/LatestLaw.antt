-- The latest move of an unknown, by its digits.
use mathlib.Core.Path.{◌≡◌, refl, sym, ap, ap₂, ◌∙◌}
use mathlib.Core.Logic.{by_cases, ⊎_elim}
use Prim.Native.Nat.{ℕ, zero, suc, ◌+◌, ◌-◌, ◌*◌, ◌/◌, ◌%◌, ◌^◌, ◌<◌, ◌≤◌}
use native.Mathlib.Nat.{div-eq_of_lt, add-zero, mul-one, one-mul, mul-suc, pow-zero, pow-succ', div-one, div-div-eq-div-mul, one-le-pow, mod-eq_of_lt, div-add-mod, mul-div_right}
use native.Mathlib.Decide.{ℕ_discrete}
use native.Mathlib.Omega.{arith}
use Rattle.positions.specs.Positions.{lowest_of, before, last_of, latest}
use Rattle.positions.proofs.LowestLaw.{of_zero, of_other, of_times, of_le}
use Rattle.gray.proofs.GrayLaw.{Stays, Carries, carry, odd}
use Rattle.residues.proofs.SumLaw.{same_self, same_other}

module _ (q : ℕ) (two : 1 < q) where
  pos : 0 < q
  pos = omega arith

  pub before_is : (b y : ℕ) → suc (before q b y) ≡ q ^ b * suc y
  unfolding before
  before_is zero y = sym (one-mul (suc y)) ∙ ap (λ (x : ℕ). x * suc y) (sym (pow-zero q))
  before_is (suc b) y = more q (before q b y) pos ∙ ap (λ (x : ℕ). q * x) (before_is b y) ∙ (left q (q ^ b) (suc y) ∙ ap (λ (x : ℕ). x * suc y) (sym (pow-succ' q b)))
    where
      more : (q x : ℕ) → 0 < q → suc (q * x + (q - 1)) ≡ q * suc x
      more q x h = let e : suc (q * x + (q - 1)) ≡ q * x + q = omega arith in e ∙ sym (mul-suc q x)

      left : (a b c : ℕ) → a * (b * c) ≡ a * b * c
      left a b c = omega arith

  shift : (p b : ℕ) → p / q ^ suc b ≡ p / q / q ^ b
  shift p b = ap (λ (x : ℕ). p / x) (pow-succ' q b) ∙ sym (div-div-eq-div-mul p q (q ^ b))

  whole : (p : ℕ) → p / q ^ 0 ≡ p
  whole p = ap (λ (x : ℕ). p / x) (pow-zero q) ∙ div-one p

  pub last_zero : (x : ℕ) → x % q ≡ 0 → last_of q x ≡ x - 2
  unfolding last_of
  last_zero x e = rw (e, last_of)

  pub last_other : (x : ℕ) → (x % q ≡ 0 → ⊥) → last_of q x ≡ x - 1
  unfolding last_of
  last_other x n = go (x % q) refl
    where
      go : (d : ℕ) → x % q ≡ d → last_of q x ≡ x - 1
      go zero e = absurd (n e)
      go (suc d) e = rw (e, last_of)

  -- a place whose first position is b
  pub record Moves (b p : ℕ) : Type 0 where
    pub is : suc p ≡ q ^ b * suc (p / q ^ b)
    pub digit : suc (p / q ^ b) % q ≡ 0 → ⊥

  pub moves : (b p : ℕ) → lowest_of q (suc p) ≡ b → Moves b p
  moves zero p e =
      let n : suc p % q ≡ 0 → ⊥ = λ z. let h : 0 < suc p = omega arith in omega (arith, of_zero q two (suc p) h z) in
      record {
        is = sym (one-mul (suc p)) ∙ ap₂ (λ (x y : ℕ). x * suc y) (sym (pow-zero q)) (sym (whole p));
        digit = λ z. n (ap (λ (x : ℕ). suc x % q) (sym (whole p)) ∙ z);
      }
  moves (suc b) p e =
      ⊎_elim
      (λ (s : Stays q two p). absurd (omega (arith, of_other q two (suc p) (λ z. omega (arith, s.low)))))
      (λ (s : Carries q two p).
      let h : 0 < suc p = omega arith in
      let o : lowest_of q (suc (p / q)) ≡ b = omega (arith, of_zero q two (suc p) h s.low, ap (lowest_of q) s.part) in
      let m : Moves b (p / q) = moves b (p / q) o in
      record {
        is = up p s.top ∙ ap (λ (x : ℕ). q * x) m.is ∙ left q (q ^ b) (suc (p / q / q ^ b)) ∙ ap₂ (λ (x y : ℕ). x * suc y) (sym (pow-succ' q b)) (sym (shift p b));
        digit = λ z. m.digit (ap (λ (x : ℕ). suc x % q) (sym (shift p b)) ∙ z);
      })
      (carry q two p)
    where
      up : (p : ℕ) → suc (p % q) ≡ q → suc p ≡ q * suc (p / q)
      up p t = omega (arith, div-add-mod p q, mul-suc q (p / q))

      left : (a b c : ℕ) → a * (b * c) ≡ a * b * c
      left a b c = omega arith

  -- the place before it
  pub moves_before : (b p : ℕ) → Moves b p → before q b (p / q ^ b) ≡ p
  moves_before b p m = let e : suc (before q b (p / q ^ b)) ≡ suc p = before_is b (p / q ^ b) ∙ sym m.is in omega arith

  -- and what it leaves
  pub moves_rest : (b p : ℕ) → Moves b p → suc p - q ^ b ≡ q ^ b * (p / q ^ b)
  moves_rest b p m = omega (arith, m.is, mul-suc (q ^ b) (p / q ^ b))

  -- its quotient
  pub moves_part : (b p : ℕ) → Moves b p → last_of q (suc p / q ^ b) ≡ p / q ^ b
  moves_part b p m =
      let e : suc p / q ^ b ≡ suc (p / q ^ b) = ap (λ (x : ℕ). x / q ^ b) m.is ∙ mul-div_right (suc (p / q ^ b)) (one-le-pow b q pos) in
      ap (last_of q) e ∙ last_other (suc (p / q ^ b)) m.digit ∙ omega arith

  -- the others stay
  pub stays : (b p : ℕ) → (b ≡ lowest_of q (suc p) → ⊥) → last_of q (suc p / q ^ b) ≡ last_of q (p / q ^ b)
  stays zero p n =
      by_cases (ℕ_discrete (suc p % q) 0)
      (λ e. ap (last_of q) (whole (suc p)) ∙ last_zero (suc p) e ∙ less p ∙ sym (last_other p (odd q two p e)) ∙ ap (last_of q) (sym (whole p)))
      (λ d. absurd (n (sym (of_other q two (suc p) d))))
    where
      less : (p : ℕ) → suc p - 2 ≡ p - 1
      less p = omega arith
  stays (suc b) p n =
      ⊎_elim
      (λ (s : Stays q two p). ap (last_of q) (shift (suc p) b ∙ ap (λ (x : ℕ). x / q ^ b) s.part ∙ sym (shift p b)))
      (λ (s : Carries q two p).
      let h : 0 < suc p = omega arith in
      let o : lowest_of q (suc p) ≡ suc (lowest_of q (suc (p / q))) = of_zero q two (suc p) h s.low ∙ ap (λ (x : ℕ). suc (lowest_of q x)) s.part in
      ap (last_of q) (shift (suc p) b ∙ ap (λ (x : ℕ). x / q ^ b) s.part) ∙ stays b (p / q) (λ e. n (ap suc e ∙ sym o)) ∙ ap (last_of q) (sym (shift p b)))
      (carry q two p)

  pub latest_self : (b p : ℕ) → lowest_of q (suc p) ≡ b → latest q b (suc p) ≡ suc p
  unfolding latest
  latest_self b p e = rw (e, same_self b, latest)

  pub latest_other : (b p : ℕ) → (b ≡ lowest_of q (suc p) → ⊥) → latest q b (suc p) ≡ latest q b p
  unfolding latest
  latest_other b p n = rw (same_other b (lowest_of q (suc p)) n, latest)

  -- the place before the latest move, by digits
  pub latest_is : (b p : ℕ) → latest q b p - 1 ≡ before q b (last_of q (p / q ^ b))
  unfolding latest
  latest_is b zero =
      let z : 0 / q ^ b ≡ 0 = div-eq_of_lt (one-le-pow b q pos) in
      let e : last_of q (0 / q ^ b) ≡ 0 = ap (last_of q) z ∙ last_zero 0 (mod-eq_of_lt pos) in
      let w : suc (before q b 0) ≡ q ^ b = before_is b 0 ∙ mul-one (q ^ b) in
      let r : q ^ b - 1 ≡ before q b 0 = omega arith in
      r ∙ ap (before q b) (sym e)
  latest_is b (suc p) =
      by_cases (ℕ_discrete b (lowest_of q (suc p)))
      (λ e.
      let m = moves b p (sym e) in
      ap (λ (x : ℕ). x - 1) (latest_self b p (sym e)) ∙ (one p ∙ sym (moves_before b p m)) ∙ ap (before q b) (sym (moves_part b p m)))
      (λ d. ap (λ (x : ℕ). x - 1) (latest_other b p d) ∙ latest_is b p ∙ ap (before q b) (sym (stays b p d)))
    where
      one : (p : ℕ) → suc p - 1 ≡ p
      one p = omega arith

  -- the latest move of b is a move of b, and no later one is
  pub latest_last : (b p r : ℕ) → r ≤ p → 0 < r → lowest_of q r ≡ b → r ≤ latest q b p
  latest_last b zero r l h e = absurd (omega arith)
  latest_last b (suc p) r l h e =
      by_cases (ℕ_discrete b (lowest_of q (suc p)))
      (λ i. let w = latest_self b p (sym i) in omega arith)
      (λ d. let w = latest_other b p d in
      let k : r ≤ latest q b p = latest_last b p r (below d) h e in omega arith)
    where
      below : (b ≡ lowest_of q (suc p) → ⊥) → r ≤ p
      below d = by_cases (ℕ_discrete r (suc p)) (λ i. absurd (d (sym e ∙ ap (lowest_of q) i))) (λ n. omega arith)

  pub latest_move : (b p : ℕ) → lowest_of q (latest q b p) ≡ b
  unfolding latest
  latest_move b zero = ap (lowest_of q) (sym (mul-one (q ^ b))) ∙ of_times q two b 1 (omega arith) ∙ ap (λ (x : ℕ). b + x) (of_other q two 1 (λ z. omega (arith, small))) ∙ add-zero b
    where
      small : 1 % q ≡ 1
      small = mod-eq_of_lt two
  latest_move b (suc p) =
      by_cases (ℕ_discrete b (lowest_of q (suc p)))
      (λ i. ap (lowest_of q) (latest_self b p (sym i)) ∙ sym i)
      (λ d. ap (lowest_of q) (latest_other b p d) ∙ latest_move b p)

  pub latest_start : (b : ℕ) → latest q b 0 ≡ q ^ b
  unfolding latest
  latest_start b = refl

  pub latest_le : (b p : ℕ) → q ^ b ≤ p → latest q b p ≤ p
  latest_le b zero l = absurd (omega (arith, one-le-pow b q pos))
  latest_le b (suc p) l =
      by_cases (ℕ_discrete b (lowest_of q (suc p)))
      (λ i. let w = latest_self b p (sym i) in omega arith)
      (λ d. let w = latest_other b p d in
      let k : latest q b p ≤ p = latest_le b p (below d) in omega arith)
    where
      below : (b ≡ lowest_of q (suc p) → ⊥) → q ^ b ≤ p
      below d = by_cases (ℕ_discrete (q ^ b) (suc p)) (λ i. absurd (d (sym (latest_move b 0) ∙ ap (lowest_of q) (latest_start b ∙ i)))) (λ n. omega arith)

  -- before its first move it is that
  pub latest_first : (b p : ℕ) → p < q ^ b → latest q b p ≡ q ^ b
  latest_first b zero l = latest_start b
  latest_first b (suc p) l =
      by_cases (ℕ_discrete b (lowest_of q (suc p)))
      (λ i. let h : 0 < suc p = omega arith in let w : q ^ b ≤ suc p = rw i (of_le q two (suc p) h) in absurd (omega arith))
      (λ d. latest_other b p d ∙ latest_first b p (omega arith))
