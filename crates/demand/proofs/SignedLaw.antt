-- Signed numbers modulo q, without minus signs: c is like r where what c lacks to a natural number goes to the other side.
use mathlib.Core.Path.{◌≡◌, refl, sym, ap, ◌∙◌}
use mathlib.Core.Bool.{Bool, true, false, cond}
use Prim.Native.Nat.{ℕ, zero, suc, ◌+◌, ◌-◌, ◌*◌, ◌%◌, ◌<◌}
use native.Mathlib.Nat.{mod-lt, mod-eq_of_lt}
use native.Mathlib.Omega.{arith}
use lib.Dec.{ltb}
use lib.IntN.{ℤ, pos, negsuc, neg_ℤ, ◌+ℤ◌, ◌*ℤ◌}
use borrow.Author.Tests.{ltb-true, ltb-false}
use Rattle.residues.specs.Residue.{floor_mod}
use Rattle.residues.specs.Sums.{sum}
use Rattle.residues.proofs.ModLaw.{Cong, crefl, cof, csym, ◌⨾◌, cadd, cmul, cdrop, cwhole, cancel}
use Rattle.demand.specs.Rows.{total}

-- c is up c - down c
abbrev up : ℤ → ℕ
up (pos n) = n
up (negsuc n) = 0

abbrev down : ℤ → ℕ
down (pos n) = 0
down (negsuc n) = suc n

up_sub : (a b : ℕ) (x : Bool) → ltb a b ≡ x → up (cond x (negsuc (b - suc a)) (pos (a - b))) + b ≡ a + down (cond x (negsuc (b - suc a)) (pos (a - b)))
up_sub a b true e = let l = ltb-true a b e in omega arith
up_sub a b false e = let l = ltb-false a b e in omega arith

-- sums and products with a natural number
up_add : (c d : ℤ) → up (c +ℤ d) + (down c + down d) ≡ up c + up d + down (c +ℤ d)
up_add (pos a) (pos b) = omega arith
up_add (pos a) (negsuc b) = omega (arith, up_sub a (suc b) (ltb a (suc b)) refl)
up_add (negsuc a) (pos b) = omega (arith, up_sub b (suc a) (ltb b (suc a)) refl)
up_add (negsuc a) (negsuc b) = omega arith

up_neg : (x : ℕ) → up (neg_ℤ (pos x)) ≡ 0
up_neg zero = refl
up_neg (suc x) = refl

down_neg : (x : ℕ) → down (neg_ℤ (pos x)) ≡ x
down_neg zero = refl
down_neg (suc x) = refl

up_mul : (c : ℤ) (x : ℕ) → up (c *ℤ pos x) ≡ up c * x
up_mul (pos a) x = refl
up_mul (negsuc a) x = up_neg (suc a * x) ∙ omega arith

down_mul : (c : ℤ) (x : ℕ) → down (c *ℤ pos x) ≡ down c * x
down_mul (pos a) x = omega arith
down_mul (negsuc a) x = down_neg (suc a * x)

module _ (q : ℕ) (some : 0 < q) where
  -- c is r modulo q
  pub record Like (c : ℤ) (r : ℕ) : Type 0 where
    pub is : Cong q (up c) (r + down c)

  pub like_none : Like (pos 0) 0
  like_none = record { is = crefl 0 }

  pub like_add : {c d : ℤ} {r s : ℕ} → Like c r → Like d s → Like (c +ℤ d) (r + s)
  like_add {c} {d} {r} {s} h k =
      record {
        is = cancel some (down c + down d)
            (cof (up_add c d) ⨾ cadd (cadd h.is k.is) (crefl (down (c +ℤ d))) ⨾ cof (turn r s (down c) (down d) (down (c +ℤ d))));
      }
    where
      turn : (r s a b e : ℕ) → r + a + (s + b) + e ≡ r + s + e + (a + b)
      turn r s a b e = omega arith

  pub like_mul : {c : ℤ} {r : ℕ} (x : ℕ) → Like c r → Like (c *ℤ pos x) (r * x)
  like_mul {c} {r} x h =
      record { is = cof (up_mul c x) ⨾ cmul h.is (crefl x) ⨾ cof (over r (down c) x ∙ ap (λ (y : ℕ). r * x + y) (sym (down_mul c x))) }
    where
      over : (r a x : ℕ) → (r + a) * x ≡ r * x + a * x
      over r a x = omega arith

  pub like_sum : (n : ℕ) (h : ℕ → ℤ) (k : ℕ → ℕ) → ((i : ℕ) → i < n → Like (h i) (k i)) → Like (total n h) (sum n k)
  unfolding total sum
  like_sum zero h k f = like_none
  like_sum (suc n) h k f = like_add (like_sum n h k (λ i l. f i (omega arith))) (f n (omega arith))

  -- the floor remainder is such a number, and the only one below q
  pub like_floor : (c : ℤ) → Like c (floor_mod q c)
  like_floor (pos n) = record { is = csym (cdrop n) ⨾ cof (plain (n % q)) }
    where
      plain : (x : ℕ) → x ≡ x + 0
      plain x = omega arith
  like_floor (negsuc n) =
      record { is = csym (cwhole 0 1) ⨾ cof (whole (n % q) (mod-lt n some)) ⨾ cadd (crefl (q - 1 - n % q)) (cadd (crefl 1) (cdrop n) ⨾ cof (next n)) }
    where
      whole : (x : ℕ) → x < q → 0 + q * 1 ≡ q - 1 - x + (1 + x)
      whole x h = omega arith

      next : (n : ℕ) → 1 + n ≡ suc n
      next n = omega arith

  pub floor_lt : (c : ℤ) → floor_mod q c < q
  floor_lt (pos n) = mod-lt n some
  floor_lt (negsuc n) = omega arith

  pub floor_is : (c : ℤ) (r : ℕ) → Like c r → floor_mod q c ≡ r % q
  floor_is c r h = sym (mod-eq_of_lt (floor_lt c)) ∙ (cancel some (down c) (csym (like_floor c).is ⨾ h.is)).same
