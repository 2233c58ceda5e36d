-- The table of differences without minus signs, and that table and coefficients give back each other.
use mathlib.Core.Path.{◌≡◌, refl, sym, ap, ◌∙◌}
use Prim.Native.Nat.{ℕ, zero, suc, ◌+◌, ◌-◌, ◌*◌, ◌%◌, ◌<◌}
use native.Mathlib.Omega.{arith}
use Rattle.polynomials.specs.Poly.{Poly, prev, table_of, prev_of, back_of}
use Rattle.residues.proofs.ModLaw.{Cong, crefl, cof, csym, ◌⨾◌, cdrop, cadd, cmul, cancel, cminus}
use Rattle.residues.proofs.SumLaw.{same_self, same_other}

module _ (q : ℕ) (two : 1 < q) where
  pos : 0 < q
  pos = omega arith

  -- a sum with minus b, and b
  off : (a b : ℕ) → Cong q ((a + (q - 1) * b) % q + b) a
  off a b = cadd (cdrop (a + (q - 1) * b)) (crefl b) ⨾ cof (swap a b ((q - 1) * b)) ⨾ cadd (crefl a) (cminus q pos b) ⨾ cof (none a)
    where
      swap : (a b c : ℕ) → a + c + b ≡ a + (b + c)
      swap a b c = omega arith

      none : (a : ℕ) → a + 0 ≡ a
      none a = omega arith

  pub table_lin : (f : Poly) (i : ℕ) → Cong q ((table_of q f).lin i + prev f i) (f.lin i + f.quad i i)
  unfolding table_of
  table_lin f i = off (f.lin i + f.quad i i) (prev f i)

  pub same_is : (f : Poly) (i : ℕ) → (table_of q f).quad i i ≡ (2 * f.quad i i + (q - 1) * prev f i) % q
  unfolding table_of
  same_is f i = rw (same_self i, table_of)

  pub other_is : (f : Poly) (i j : ℕ) → (i ≡ j → ⊥) → (table_of q f).quad i j ≡ (f.quad i j + 2 * f.quad i i + 2 * ((q - 1) * prev f i)) % q
  unfolding table_of
  other_is f i j n = rw (same_other i j n, table_of)

  pub table_same : (f : Poly) (i : ℕ) → Cong q ((table_of q f).quad i i + prev f i) (2 * f.quad i i)
  table_same f i = cof (ap (λ (x : ℕ). x + prev f i) (same_is f i)) ⨾ off (2 * f.quad i i) (prev f i)

  pub table_other : (f : Poly) (i j : ℕ) → (i ≡ j → ⊥) → Cong q ((table_of q f).quad i j + 2 * prev f i) (f.quad i j + 2 * f.quad i i)
  table_other f i j n =
      cof (ap (λ (x : ℕ). x + 2 * prev f i) (other_is f i j n ∙ ap (λ (x : ℕ). (f.quad i j + 2 * f.quad i i + x) % q) (swap (q - 1) (prev f i))))
      ⨾ off (f.quad i j + 2 * f.quad i i) (2 * prev f i)
    where
      swap : (r x : ℕ) → 2 * (r * x) ≡ r * (2 * x)
      swap r x = omega arith

  module _ (half : ℕ) (halves : Cong q (2 * half) 1) where
    pub back_same : (t : Poly) (i : ℕ) → (back_of q half t).quad i i ≡ half * (t.quad i i + prev_of q t i) % q
    unfolding back_of
    back_same t i = rw (same_self i, back_of)

    pub back_other : (t : Poly) (i j : ℕ) → (i ≡ j → ⊥) → (back_of q half t).quad i j ≡ (t.quad i j + prev_of q t i + (q - 1) * t.quad i i) % q
    unfolding back_of
    back_other t i j n = rw (same_other i j n, back_of)

    prev_back_lem : (t : Poly) (i : ℕ) → prev (back_of q half t) i ≡ prev_of q t i
    unfolding prev prev_of
    prev_back_lem t zero = refl
    prev_back_lem t (suc i) = back_other t i (suc i) (λ e. omega arith)

    -- the other side of the same equations
    other_off : (t : Poly) (i j : ℕ) → (i ≡ j → ⊥) → Cong q ((back_of q half t).quad i j + t.quad i i) (t.quad i j + prev_of q t i)
    other_off t i j n = cof (ap (λ (x : ℕ). x + t.quad i i) (back_other t i j n)) ⨾ off (t.quad i j + prev_of q t i) (t.quad i i)

    same_twice : (t : Poly) (i : ℕ) → Cong q (2 * (back_of q half t).quad i i) (t.quad i i + prev_of q t i)
    same_twice t i =
        cof (ap (λ (x : ℕ). 2 * x) (back_same t i)) ⨾ cmul (crefl 2) (cdrop (half * (t.quad i i + prev_of q t i)))
        ⨾ cof (move half (t.quad i i + prev_of q t i)) ⨾ cmul halves (crefl (t.quad i i + prev_of q t i)) ⨾ cof (one (t.quad i i + prev_of q t i))
      where
        move : (h x : ℕ) → 2 * (h * x) ≡ 2 * h * x
        move h x = omega arith

        one : (x : ℕ) → 1 * x ≡ x
        one x = omega arith

    lin_half : (t : Poly) (i : ℕ) → Cong q ((back_of q half t).lin i + half * (t.quad i i + prev_of q t i)) (t.lin i + prev_of q t i)
    unfolding back_of
    lin_half t i = off (t.lin i + prev_of q t i) (half * (t.quad i i + prev_of q t i))

    lin_off : (t : Poly) (i : ℕ) → Cong q ((back_of q half t).lin i + (back_of q half t).quad i i) (t.lin i + prev_of q t i)
    lin_off t i = cadd (crefl ((back_of q half t).lin i)) (cof (back_same t i) ⨾ cdrop (half * (t.quad i i + prev_of q t i))) ⨾ lin_half t i

    -- a table, its coefficients, and their table
    pub table_back_lin : (t : Poly) (i : ℕ) → Cong q ((table_of q (back_of q half t)).lin i) (t.lin i)
    table_back_lin t i = cancel pos (prev_of q t i) (cof (ap (λ (x : ℕ). (table_of q (back_of q half t)).lin i + x) (sym (prev_back_lem t i))) ⨾ table_lin (back_of q half t) i ⨾ lin_off t i)

    pub table_back_same : (t : Poly) (i : ℕ) → Cong q ((table_of q (back_of q half t)).quad i i) (t.quad i i)
    table_back_same t i = cancel pos (prev_of q t i) (cof (ap (λ (x : ℕ). (table_of q (back_of q half t)).quad i i + x) (sym (prev_back_lem t i))) ⨾ table_same (back_of q half t) i ⨾ same_twice t i)

    pub table_back_other : (t : Poly) (i j : ℕ) → (i ≡ j → ⊥) → Cong q ((table_of q (back_of q half t)).quad i j) (t.quad i j)
    table_back_other t i j n =
        cancel pos (2 * prev_of q t i) (cof (ap (λ (x : ℕ). (table_of q (back_of q half t)).quad i j + 2 * x) (sym (prev_back_lem t i))) ⨾ table_other (back_of q half t) i j n
        ⨾ cadd (crefl _) (same_twice t i) ⨾ cof (left ((back_of q half t).quad i j) (t.quad i i) (prev_of q t i)) ⨾ cadd (other_off t i j n) (crefl (prev_of q t i))
        ⨾ cof (right (t.quad i j) (prev_of q t i)))
      where
        left : (a b c : ℕ) → a + (b + c) ≡ a + b + c
        left a b c = omega arith

        right : (a c : ℕ) → a + c + c ≡ a + 2 * c
        right a c = omega arith

    -- coefficients, their table, and its coefficients
    other_at : (f : Poly) (i j : ℕ) → (i ≡ j → ⊥) → Cong q (prev_of q (table_of q f) i) (prev f i) → Cong q ((back_of q half (table_of q f)).quad i j) (f.quad i j)
    other_at f i j n e =
        let t = table_of q f in
        cancel pos (t.quad i i + prev f i)
        (cof (left ((back_of q half t).quad i j) (t.quad i i) (prev f i)) ⨾ cadd (other_off t i j n ⨾ cadd (crefl (t.quad i j)) e) (crefl (prev f i))
        ⨾ cof (right (t.quad i j) (prev f i)) ⨾ table_other f i j n ⨾ cadd (crefl (f.quad i j)) (csym (table_same f i)))
      where
        left : (a b c : ℕ) → a + (b + c) ≡ a + b + c
        left a b c = omega arith

        right : (a c : ℕ) → a + c + c ≡ a + 2 * c
        right a c = omega arith

    prev_table : (f : Poly) (i : ℕ) → Cong q (prev_of q (table_of q f) i) (prev f i)
    unfolding prev prev_of
    prev_table f zero = crefl 0
    prev_table f (suc i) = cof (sym (back_other (table_of q f) i (suc i) (λ e. omega arith))) ⨾ other_at f i (suc i) (λ e. omega arith) (prev_table f i)

    pub back_table_other : (f : Poly) (i j : ℕ) → (i ≡ j → ⊥) → Cong q ((back_of q half (table_of q f)).quad i j) (f.quad i j)
    back_table_other f i j n = other_at f i j n (prev_table f i)

    undouble : (a b : ℕ) → Cong q (2 * a) (2 * b) → Cong q a b
    undouble a b h = csym (whole a) ⨾ cof (turn half a) ⨾ cmul (crefl half) h ⨾ csym (cof (turn half b)) ⨾ whole b
      where
        turn : (h a : ℕ) → 2 * h * a ≡ h * (2 * a)
        turn h a = omega arith

        one : (x : ℕ) → 1 * x ≡ x
        one x = omega arith

        whole : (a : ℕ) → Cong q (2 * half * a) a
        whole a = cmul halves (crefl a) ⨾ cof (one a)

    pub back_table_same : (f : Poly) (i : ℕ) → Cong q ((back_of q half (table_of q f)).quad i i) (f.quad i i)
    back_table_same f i = undouble _ _ (same_twice (table_of q f) i ⨾ cadd (crefl _) (prev_table f i) ⨾ table_same f i)

    pub back_table_lin : (f : Poly) (i : ℕ) → Cong q ((back_of q half (table_of q f)).lin i) (f.lin i)
    back_table_lin f i =
        let t = table_of q f in
        cancel pos ((back_of q half t).quad i i) (lin_off t i ⨾ cadd (crefl _) (prev_table f i) ⨾ table_lin f i ⨾ cadd (crefl (f.lin i)) (csym (back_table_same f i)))
