-- `floor_mod` is the floor remainder, and there is no other: a quotient of the wrong sign would change the sign of the number.
use mathlib.Core.Path.{◌≡◌, sym, ap, ◌∙◌}
use Prim.Native.Nat.{ℕ, zero, suc, ◌+◌, ◌-◌, ◌*◌, ◌/◌, ◌%◌, ◌<◌}
use native.Mathlib.Nat.{div-add-mod, mod-lt, mod-eq_of_lt, mul-add-mod_self_left}
use native.Mathlib.Omega.{arith}
use lib.IntN.{ℤ, pos, negsuc, nat_abs, ◌+ℤ◌, ◌*ℤ◌, pos-ne-negsuc}
use borrow.Author.Tests.{lt-ltb}
use Rattle.residues.specs.Residue.{Remainder, floor_mod, Reduced}

-- what stands below a multiple of q that is not above -q
below : (q a r : ℕ) → r < q → (pos q *ℤ negsuc a) +ℤ pos r ≡ negsuc (q * a + (q - 1 - r))
below zero a r h = absurd (omega arith)
below (suc p) a r h = simp (more, lt-ltb _ _ less) (ap negsuc is)
  where
    more : suc p * suc a ≡ suc (suc p * a + p)
    more = omega arith

    less : r < suc (suc p * a + p)
    less = omega arith

    is : suc (suc p * a + p) - suc r ≡ suc p * a + (suc p - 1 - r)
    is = omega arith

module _ {q : ℕ} (z : 0 < q) where
  pub floor_right : (c : ℤ) → Remainder q c (floor_mod q c)
  floor_right (pos n) = record { small = mod-lt n z; quotient = pos (n / q); whole = ap pos (sym (div-add-mod n q)) }
  floor_right (negsuc n) =
      let l = mod-lt n z in
      let back : q - 1 - (q - 1 - n % q) ≡ n % q = omega arith in
      let small : q - 1 - n % q < q = omega arith in
      record {
        small = small;
        quotient = negsuc (n / q);
        whole = ap negsuc (sym (ap (λ (x : ℕ). q * (n / q) + x) back ∙ div-add-mod n q)) ∙ sym (below q (n / q) (q - 1 - n % q) small);
      }

  -- a remainder by any quotient
  at : (c k : ℤ) (r : ℕ) → r < q → c ≡ (pos q *ℤ k) +ℤ pos r → r ≡ floor_mod q c
  at (pos n) (pos a) r h e = sym (ap (λ (x : ℕ). x % q) (ap nat_abs e) ∙ mul-add-mod_self_left q a r ∙ mod-eq_of_lt h)
  at (pos n) (negsuc a) r h e = absurd (pos-ne-negsuc _ _ (e ∙ below q a r h))
  at (negsuc n) (pos a) r h e = absurd (pos-ne-negsuc _ _ (sym e))
  at (negsuc n) (negsuc a) r h e =
      let n-is : suc n ≡ suc (q * a + (q - 1 - r)) = ap nat_abs (e ∙ below q a r h) in
      let n-in : n ≡ q * a + (q - 1 - r) = omega arith in
      let l : q - 1 - r < q = omega arith in
      let m : n % q ≡ q - 1 - r = ap (λ (x : ℕ). x % q) n-in ∙ mul-add-mod_self_left q a (q - 1 - r) ∙ mod-eq_of_lt l in
      omega arith

  pub remainder_is : {c : ℤ} {r : ℕ} → Remainder q c r → r ≡ floor_mod q c
  remainder_is {c} {r} h = at c h.quotient r h.small h.whole

  pub remainder_unique : {c : ℤ} {r s : ℕ} → Remainder q c r → Remainder q c s → r ≡ s
  remainder_unique h k = remainder_is h ∙ sym (remainder_is k)

-- for an equation with `floor_mod` the rest is known
pub reduced : {c : ℤ} {r : ℕ} → r ≡ floor_mod 3 c → Reduced c r
reduced {c} {r} e = record { computed = e; remainder = rw e (floor_right three c) }
  where
    three : 0 < 3
    three = omega arith
