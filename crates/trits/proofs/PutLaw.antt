-- One trit set: a mask clears its bit of both words and a shifted bit goes in its place; and what follows for legal vectors.
use mathlib.Core.Path.{◌≡◌, sym, ap, ap₂, ◌∙◌}
use mathlib.Core.Logic.{by_cases}
use Prim.Native.Nat.{ℕ, suc, ◌+◌, ◌-◌, ◌*◌, ◌/◌, ◌%◌, ◌^◌, ◌≤◌, ◌<◌}
use native.Mathlib.Nat.{mul_assoc, add-zero, mod-eq_of_lt}
use native.Mathlib.Decide.{dec_lt, ℕ_discrete}
use native.Mathlib.Omega.{arith}
use lib.Pow.{shl-shr, shl_exact, pow-add}
use lib.Bits.{bit_and, bit_or, bit_xor, shifted_even, and_mask, and_le_r, and_zero_r, or_zero_r, xor_add_and}
use Rattle.trits.specs.declared.Vector.{Vector}
use Rattle.trits.specs.Trit.{bit, trit, Legal, of_trits}
use Rattle.trits.specs.Words.{Put}
use Rattle.trits.proofs.Bits.{bit_lt, bit_and_lem, bit_or_lem, bit_xor_lem}
use Rattle.trits.proofs.LegalLaw.{bit_shr, bit_low, bit_ext, fit_none, legal_more}
use Rattle.trits.proofs.ExtLaw.{is_of, trit_of, legal_of}

-- bit e + j of a shifted up by e is bit j of a
bit_shl : (a e j : ℕ) → bit (a * 2 ^ e) (e + j) ≡ bit a j
bit_shl a e j = sym (bit_shr (a * 2 ^ e) e j) ∙ ap (λ (x : ℕ). bit x j) (shl-shr a e)

-- and below e there is none
bit_shl_below : (a e k : ℕ) → k < e → bit (a * 2 ^ e) k ≡ 0
bit_shl_below a e k h =
    ap (λ (n : ℕ). bit (a * 2 ^ n) k) e_is
    ∙ ap (λ (n : ℕ). bit n k) (ap (λ (n : ℕ). a * n) (pow-add 2 (suc d) k) ∙ sym (mul_assoc a (2 ^ suc d) (2 ^ k)))
    ∙ ap (bit ((a * 2 ^ suc d) * 2 ^ k)) (sym (add-zero k))
    ∙ bit_shl (a * 2 ^ suc d) k 0
    ∙ bit_low (a * 2 ^ suc d)
    ∙ shifted_even a d
  where
    d : ℕ
    d = e - suc k

    e_is : e ≡ suc d + k
    e_is = omega arith

-- a bit b shifted to e stands at e and nowhere else
module _ (b e : ℕ) (h : b < 2) where
  shifted : bit (b * 2 ^ e) e ≡ b
  shifted = ap (bit (b * 2 ^ e)) (sym (add-zero e)) ∙ bit_shl b e 0 ∙ bit_low b ∙ mod-eq_of_lt h

  elsewhere : (k : ℕ) → (k ≡ e → ⊥) → bit (b * 2 ^ e) k ≡ 0
  elsewhere k n =
      by_cases (dec_lt k e) (λ l. bit_shl_below b e k l)
      (λ l.
      let m : ¬ (k ≡ e) = n in
      let i : k ≡ e + (k - e) = omega arith in
      let j : 1 ≤ k - e = omega arith in
      ap (bit (b * 2 ^ e)) i ∙ bit_shl b e (k - e) ∙ fit_none b 1 h (k - e) j)

-- all w bits set
bit_ones : (w e : ℕ) → e < w → bit (2 ^ w - 1) e ≡ 1
bit_ones w e h =
    let o = shifted 1 e (omega arith) in
    let p : bit_and (1 * 2 ^ e) (2 ^ w - 1) ≡ 1 * 2 ^ e = and_mask (1 * 2 ^ e) w ∙ shl_exact 1 e w (omega arith) (omega arith) in
    let q : bit_and (bit (1 * 2 ^ e) e) (bit (2 ^ w - 1) e) ≡ 1 = sym (bit_and_lem (1 * 2 ^ e) (2 ^ w - 1) e) ∙ ap (λ (x : ℕ). bit x e) p ∙ o in
    omega (arith, and_le_r (bit (1 * 2 ^ e) e) (bit (2 ^ w - 1) e), bit_lt (2 ^ w - 1) e)

-- the complement of a word turns every bit over
not_is : (w x : ℕ) → x < 2 ^ w → 2 ^ w - 1 - x ≡ bit_xor x (2 ^ w - 1)
not_is w x h = omega (arith, xor_add_and x (2 ^ w - 1), and_mask x w ∙ mod-eq_of_lt h)

one_bit : (y : ℕ) → y < 2 → bit_and y 1 ≡ y
one_bit y h = and_mask y 1 ∙ mod-eq_of_lt h

-- the word x with the bit b at e
abbrev put_in : ℕ → ℕ → ℕ → ℕ
put_in x b e = bit_or (bit_and x (2 ^ 64 - 1 - (1 * 2 ^ e) % 2 ^ 64)) ((b * 2 ^ e) % 2 ^ 64)

module _ (x b e : ℕ) (hx : x < 2 ^ 64) (hb : b < 2) (he : e < 64) where
  put_is : put_in x b e ≡ bit_or (bit_and x (bit_xor (1 * 2 ^ e) (2 ^ 64 - 1))) (b * 2 ^ e)
  put_is =
      let s : (1 * 2 ^ e) % 2 ^ 64 ≡ 1 * 2 ^ e = shl_exact 1 e 64 (omega arith) (omega arith) in
      let t : (b * 2 ^ e) % 2 ^ 64 ≡ b * 2 ^ e = shl_exact 1 e 64 hb (omega arith) in
      let l : 1 * 2 ^ e < 2 ^ 64 = omega arith in
      ap₂ (λ (m n : ℕ). bit_or (bit_and x m) n) (ap (λ (y : ℕ). 2 ^ 64 - 1 - y) s ∙ not_is 64 (1 * 2 ^ e) l) t

  -- the bits of that word
  put_bit : (k : ℕ) → bit (put_in x b e) k ≡ bit_or (bit_and (bit x k) (bit_xor (bit (1 * 2 ^ e) k) (bit (2 ^ 64 - 1) k))) (bit (b * 2 ^ e) k)
  put_bit k = ap (λ (y : ℕ). bit y k) put_is ∙ bit_or_lem (bit_and x (bit_xor (1 * 2 ^ e) (2 ^ 64 - 1))) (b * 2 ^ e) k
      ∙ ap (λ (y : ℕ). bit_or y (bit (b * 2 ^ e) k)) (bit_and_lem x (bit_xor (1 * 2 ^ e) (2 ^ 64 - 1)) k ∙ ap (λ (y : ℕ). bit_and (bit x k) y) (bit_xor_lem (1 * 2 ^ e) (2 ^ 64 - 1) k))

  pub put_here : bit (put_in x b e) e ≡ b
  put_here =
      let o = shifted 1 e (omega arith) in
      let a = bit_ones 64 e he in
      let s = shifted b e hb in
      put_bit e ∙ simp (o, a, s, and_zero_r)

  pub put_other : (k : ℕ) → (k ≡ e → ⊥) → bit (put_in x b e) k ≡ bit x k
  put_other k n =
      let o = elsewhere 1 e (omega arith) k n in
      let s = elsewhere b e hb k n in
      put_bit k ∙ by_cases (dec_lt k 64)
      (λ l. let a = bit_ones 64 k l in simp (o, a, s, or_zero_r) (one_bit (bit x k) (bit_lt x k)))
      (λ l. let a = fit_none x 64 hx k (omega arith) in simp (a, s))

module _ (v : Vector) (e t : ℕ) (hh : v.high < 2 ^ 64) (hl : v.low < 2 ^ 64) (he : e < 64) where
  high_lt : (t % 3 + 1) / 2 < 2
  high_lt = omega arith

  low_lt : t % 3 / 2 < 2
  low_lt = omega arith

  pub puts : Put v e t (record { high = put_in v.high ((t % 3 + 1) / 2) e; low = put_in v.low (t % 3 / 2) e })
  puts =
      record {
        high = λ h. put_here v.high _ e hh high_lt he;
        low = λ h. put_here v.low _ e hl low_lt he;
        other_high = put_other v.high _ e hh high_lt he;
        other_low = put_other v.low _ e hl low_lt he;
        past = λ h. absurd (omega arith);
      }

-- two results of one setting are equal
module _ {v : Vector} {e t : ℕ} {r s : Vector} (p : Put v e t r) (q : Put v e t s) where
  same_high : e < 64 → (k : ℕ) → bit r.high k ≡ bit s.high k
  same_high h k = by_cases (ℕ_discrete k e) (λ i. rw i (p.high h ∙ sym (q.high h))) (λ n. p.other_high k n ∙ sym (q.other_high k n))

  same_low : e < 64 → (k : ℕ) → bit r.low k ≡ bit s.low k
  same_low h k = by_cases (ℕ_discrete k e) (λ i. rw i (p.low h ∙ sym (q.low h))) (λ n. p.other_low k n ∙ sym (q.other_low k n))

  equal : e < 64 → r ≡ s
  equal h =
      let u : r.high ≡ s.high = bit_ext r.high s.high (same_high h) in
      let w : r.low ≡ s.low = bit_ext r.low s.low (same_low h) in
      λ i. record { high = u i; low = w i }

  pub put_unique : r ≡ s
  put_unique = by_cases (dec_lt e 64) equal (λ n. p.past (omega arith) ∙ sym (q.past (omega arith)))

-- the trits after one is set
module _ {v : Vector} {e t : ℕ} {r : Vector} (p : Put v e t r) where
  pub put_trit : e < 64 → trit r e ≡ t % 3
  unfolding trit
  put_trit h = omega (arith, p.high h, p.low h)

  pub put_rest : (k : ℕ) → (k ≡ e → ⊥) → trit r k ≡ trit v k
  unfolding trit
  put_rest k n = ap₂ (λ (x y : ℕ). x + y) (p.other_high k n) (p.other_low k n)

  legal_in : {m : ℕ} → e < m → e < 64 → Legal m v → Legal m r
  legal_in {m} h g l =
      record {
        paired = λ k. by_cases (ℕ_discrete k e) (λ i. rw i (omega (arith, p.high g, p.low g))) (λ n. omega (arith, p.other_high k n, p.other_low k n, l.paired k));
        above = λ k j. p.other_high k (λ i. omega arith) ∙ l.above k j;
      }

  -- a legal vector of m trits stays one
  pub put_legal : {m : ℕ} → e < m → Legal m v → Legal m r
  put_legal {m} h l = by_cases (dec_lt e 64) (λ g. legal_in h g l) (λ n. rw (p.past (omega arith)) l)

-- the vector of e trits, with one more set after them, is the vector of e + 1
pub put_next : {e t : ℕ} {r : Vector} (f : ℕ → ℕ) → e < 64 → Put (of_trits e f) e t r → t % 3 ≡ f e % 3 → r ≡ of_trits (suc e) f
put_next {e} {t} {r} f h p i =
    is_of (suc e) f r (put_legal p (omega arith) (legal_more (omega arith) (legal_of e f)))
    (λ k l. by_cases (ℕ_discrete k e) (λ j. rw j (put_trit p h ∙ i)) (λ n. put_rest p k n ∙ trit_of e f k (below k n l)))
  where
    below : (k : ℕ) → (k ≡ e → ⊥) → k < suc e → k < e
    below k n l = let m : ¬ (k ≡ e) = n in omega arith
