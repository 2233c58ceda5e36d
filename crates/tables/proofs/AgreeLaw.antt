-- Polynomials that agree modulo q on the monomials of n unknowns have tables and coefficients that agree there: no formula reaches outside.
use mathlib.Core.Path.{◌≡◌}
use mathlib.Core.Logic.{by_cases}
use Prim.Native.Nat.{ℕ, zero, suc, ◌-◌, ◌*◌, ◌≤◌, ◌<◌}
use native.Mathlib.Decide.{ℕ_discrete}
use native.Mathlib.Omega.{arith}
use Rattle.residues.proofs.ModLaw.{Cong, crefl, cof, csym, ◌⨾◌, cdrop, cadd, cmul}
use Rattle.polynomials.specs.Poly.{Poly, prev, table_of, prev_of, back_of}
use Rattle.polynomials.proofs.TableLaw.{same_is, other_is, back_same, back_other, table_back_lin, table_back_same, table_back_other, back_table_lin, back_table_same, back_table_other}
use Rattle.tables.specs.Monomials.{count_of, nth}
use Rattle.tables.proofs.MonomialLaw.{nth_related}

pub record Agree (q n : ℕ) (f g : Poly) : Type 0 where
  pub const : Cong q f.const g.const
  pub lin : (i : ℕ) → i < n → Cong q (f.lin i) (g.lin i)
  pub quad : (i j : ℕ) → i ≤ j → j < n → Cong q (f.quad i j) (g.quad i j)

pub agree_sym : {q n : ℕ} {f g : Poly} → Agree q n f g → Agree q n g f
agree_sym a = record { const = csym a.const; lin = λ i h. csym (a.lin i h); quad = λ i j h l. csym (a.quad i j h l) }

pub agree_trans : {q n : ℕ} {f g h : Poly} → Agree q n f g → Agree q n g h → Agree q n f h
agree_trans a b =
    record { const = a.const ⨾ b.const; lin = λ i h. a.lin i h ⨾ b.lin i h; quad = λ i j h l. a.quad i j h l ⨾ b.quad i j h l }

-- at each number below the count
pub agree_nth : (q n : ℕ) (f g : Poly) → Agree q n f g → (k : ℕ) → k < count_of n → Cong q (nth n f k) (nth n g k)
agree_nth q n f g a = nth_related (Cong q) n f g a.const a.lin a.quad

module _ (q : ℕ) (two : 1 < q) (n : ℕ) (f g : Poly) (a : Agree q n f g) where
  prev_agree : (i : ℕ) → i < n → Cong q (prev f i) (prev g i)
  unfolding prev
  prev_agree zero h = crefl 0
  prev_agree (suc i) h = a.quad i (suc i) (omega arith) h

  same_agree : (i : ℕ) → i < n → Cong q ((table_of q f).quad i i) ((table_of q g).quad i i)
  same_agree i h =
      cof (same_is q two f i) ⨾ cdrop _ ⨾ cadd (cmul (crefl 2) (a.quad i i (omega arith) h)) (cmul (crefl (q - 1)) (prev_agree i h))
      ⨾ csym (cof (same_is q two g i) ⨾ cdrop _)

  other_agree : (i j : ℕ) → (i ≡ j → ⊥) → i ≤ j → j < n → Cong q ((table_of q f).quad i j) ((table_of q g).quad i j)
  other_agree i j d h l =
      let k : i < n = omega arith in
      cof (other_is q two f i j d) ⨾ cdrop _
      ⨾ cadd (cadd (a.quad i j h l) (cmul (crefl 2) (a.quad i i (omega arith) k))) (cmul (crefl 2) (cmul (crefl (q - 1)) (prev_agree i k)))
      ⨾ csym (cof (other_is q two g i j d) ⨾ cdrop _)

  pub table_agree : Agree q n (table_of q f) (table_of q g)
  unfolding table_of
  table_agree =
      record {
        const = cdrop f.const ⨾ a.const ⨾ csym (cdrop g.const);
        lin = λ i h. cdrop _ ⨾ cadd (cadd (a.lin i h) (a.quad i i (omega arith) h)) (cmul (crefl (q - 1)) (prev_agree i h)) ⨾ csym (cdrop _);
        quad = λ i j h l. by_cases (ℕ_discrete i j) (λ e. rw (← e) (same_agree i (omega arith))) (λ d. other_agree i j d h l);
      }

  prev_of_agree : (i : ℕ) → i < n → Cong q (prev_of q f i) (prev_of q g i)
  unfolding prev_of
  prev_of_agree zero h = crefl 0
  prev_of_agree (suc i) h =
      cdrop _
      ⨾ cadd (cadd (a.quad i (suc i) (omega arith) h) (prev_of_agree i (omega arith))) (cmul (crefl (q - 1)) (a.quad i i (omega arith) (omega arith)))
      ⨾ csym (cdrop _)

  module _ (half : ℕ) (halves : Cong q (2 * half) 1) where
    back_same_agree : (i : ℕ) → i < n → Cong q ((back_of q half f).quad i i) ((back_of q half g).quad i i)
    back_same_agree i h =
        cof (back_same q two half halves f i) ⨾ cdrop _ ⨾ cmul (crefl half) (cadd (a.quad i i (omega arith) h) (prev_of_agree i h))
        ⨾ csym (cof (back_same q two half halves g i) ⨾ cdrop _)

    back_other_agree : (i j : ℕ) → (i ≡ j → ⊥) → i ≤ j → j < n → Cong q ((back_of q half f).quad i j) ((back_of q half g).quad i j)
    back_other_agree i j d h l =
        let k : i < n = omega arith in
        cof (back_other q two half halves f i j d) ⨾ cdrop _
        ⨾ cadd (cadd (a.quad i j h l) (prev_of_agree i k)) (cmul (crefl (q - 1)) (a.quad i i (omega arith) k))
        ⨾ csym (cof (back_other q two half halves g i j d) ⨾ cdrop _)

    pub back_agree : Agree q n (back_of q half f) (back_of q half g)
    unfolding back_of
    back_agree =
        record {
          const = cdrop f.const ⨾ a.const ⨾ csym (cdrop g.const);
          lin = λ i h.
              cdrop _
              ⨾ cadd (cadd (a.lin i h) (prev_of_agree i h)) (cmul (crefl (q - 1)) (cmul (crefl half) (cadd (a.quad i i (omega arith) h) (prev_of_agree i h))))
              ⨾ csym (cdrop _);
          quad = λ i j h l. by_cases (ℕ_discrete i j) (λ e. rw (← e) (back_same_agree i (omega arith))) (λ d. back_other_agree i j d h l);
        }

-- the round trips, as agreements
module _ (q : ℕ) (two : 1 < q) (half : ℕ) (halves : Cong q (2 * half) 1) (n : ℕ) (f : Poly) where
  pub back_of_table : Agree q n (back_of q half (table_of q f)) f
  unfolding back_of table_of
  back_of_table =
      record {
        const = cdrop _ ⨾ cdrop _;
        lin = λ i h. back_table_lin q two half halves f i;
        quad = λ i j h l. by_cases (ℕ_discrete i j) (λ e. rw (← e) (back_table_same q two half halves f i)) (λ d. back_table_other q two half halves f i j d);
      }

  pub table_of_back : Agree q n (table_of q (back_of q half f)) f
  unfolding back_of table_of
  table_of_back =
      record {
        const = cdrop _ ⨾ cdrop _;
        lin = λ i h. table_back_lin q two half halves f i;
        quad = λ i j h l. by_cases (ℕ_discrete i j) (λ e. rw (← e) (table_back_same q two half halves f i)) (λ d. table_back_other q two half halves f i j d);
      }
