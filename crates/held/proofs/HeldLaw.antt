-- What is held, from place to place, for values of any kind: telescoping. Nothing here looks at a point or a polynomial.
use mathlib.Core.Path.{◌≡◌, refl, sym, ap, ap₂, ◌∙◌}
use mathlib.Core.Bool.{Bool, true, false, ◌&&◌}
use mathlib.Core.List.{List, [], ◌∷◌, ◌++◌}
use Prim.Native.Nat.{ℕ, zero, suc, ◌+◌, ◌-◌, ◌*◌, ◌^◌, ◌<◌, ◌≤◌}
use native.Mathlib.Nat.{add-zero}
use native.Mathlib.Omega.{arith}
use lib.Dec.{eqb}
use lib.ListN.{length, take, length-append}
use lib.Seq.{take-append_seam}
use borrow.Author.Tests.{eqb-true, eq-eqb}
use Rattle.residues.proofs.Every.{and_left, and_right}
use Rattle.residues.proofs.ModLaw.{Cong, crefl, cof, csym, ◌⨾◌, cadd, cminus}
use Rattle.positions.specs.Positions.{lowest_of, positions}
use Rattle.positions.proofs.LowestLaw.{of_le}
use Rattle.positions.proofs.PositionLaw.{positions_none, positions_next}
use Rattle.held.specs.Held.{begins, first_of, latest_of, change, held}

pub either : {P : Type 0} (t : Bool) → (t ≡ true → P) → (t ≡ false → P) → P
either true yes-case no-case = yes-case refl
either false yes-case no-case = no-case refl

-- ---- lists that begin with others
pub begins_append : (L ps : List ℕ) → begins L (L ++ ps) ≡ true
unfolding begins
begins_append [] ps = refl
begins_append (b ∷ L) ps = ap₂ ◌&&◌ (eq-eqb b b refl) (begins_append L ps)

pub begins_snoc : (L : List ℕ) (c : ℕ) (ps : List ℕ) → begins (L ++ c ∷ []) (L ++ c ∷ ps) ≡ true
unfolding begins
begins_snoc [] c ps = ap₂ ◌&&◌ (eq-eqb c c refl) refl
begins_snoc (b ∷ L) c ps = ap₂ ◌&&◌ (eq-eqb b b refl) (begins_snoc L c ps)

pub begins_self : (L : List ℕ) → begins L L ≡ true
unfolding begins
begins_self [] = refl
begins_self (b ∷ L) = ap₂ ◌&&◌ (eq-eqb b b refl) (begins_self L)

pub begins_take : (L ps : List ℕ) → begins L ps ≡ true → take (length L) ps ≡ L
unfolding begins
begins_take [] ps e = refl
begins_take (b ∷ L) [] e = absurd (let z : ◌≡◌ {A = ℕ} 0 1 = cc in omega arith)
begins_take (b ∷ L) (c ∷ ps) e =
    ap₂ (λ (x : ℕ) (l : List ℕ). x ∷ l) (sym (eqb-true b c (and_left (eqb b c) (begins L ps) e))) (begins_take L ps (and_right (eqb b c) (begins L ps) e))

pub begins_length : (L ps : List ℕ) → begins L ps ≡ true → length L ≤ length ps
unfolding begins
begins_length [] ps e = omega arith
begins_length (b ∷ L) [] e = absurd (let z : ◌≡◌ {A = ℕ} 0 1 = cc in omega arith)
begins_length (b ∷ L) (c ∷ ps) e = let l = begins_length L ps (and_right (eqb b c) (begins L ps) e) in omega arith

pub take_begins : (k : ℕ) (ps : List ℕ) → begins (take k ps) ps ≡ true
unfolding begins
take_begins zero ps = refl
take_begins (suc k) [] = refl
take_begins (suc k) (b ∷ ps) = ap₂ ◌&&◌ (eq-eqb b b refl) (take_begins k ps)

module _ (q : ℕ) (two : 1 < q) where
  pos : 0 < q
  pos = omega arith

  -- ---- the first place that begins with L
  pub first_le : (L : List ℕ) (t : ℕ) → begins L (positions q t) ≡ true → first_of q L ≤ t
  unfolding first_of begins
  first_le [] t e = omega arith
  first_le (b ∷ L) zero e =
      let z : begins (b ∷ L) [] ≡ true = rw (positions_none q two) at e in
      absurd (let w : ◌≡◌ {A = ℕ} 0 1 = cc in omega arith)
  first_le (b ∷ L) (suc t) e =
      let h : 0 < suc t = omega arith in
      let l = lowest_of q (suc t) in
      let f : begins (b ∷ L) (l ∷ positions q (suc t - q ^ l)) ≡ true = rw (positions_next q two (suc t) h) at e in
      let i : b ≡ l = eqb-true b l (and_left (eqb b l) (begins L (positions q (suc t - q ^ l))) f) in
      let r : first_of q L ≤ suc t - q ^ l = first_le L (suc t - q ^ l) (and_right (eqb b l) (begins L (positions q (suc t - q ^ l))) f) in
      let w = of_le q two (suc t) h in
      rw i (omega arith)

  -- it is a place that has no other positions
  pub first_is : (L : List ℕ) (t : ℕ) → positions q t ≡ L → first_of q L ≡ t
  unfolding first_of
  first_is [] zero e = refl
  first_is [] (suc t) e =
      let h : 0 < suc t = omega arith in
      absurd (let z : ◌≡◌ {A = ℕ} 0 1 = cc (positions_next q two (suc t) h) in omega arith)
  first_is (b ∷ L) zero e = absurd (let z : ◌≡◌ {A = ℕ} 0 1 = cc (positions_none q two) in omega arith)
  first_is (b ∷ L) (suc t) e =
      let h : 0 < suc t = omega arith in
      let n = positions_next q two (suc t) h in
      let i : lowest_of q (suc t) ≡ b = cc in
      let r : positions q (suc t - q ^ lowest_of q (suc t)) ≡ L = cc in
      let w = of_le q two (suc t) h in
      let g : first_of q L ≡ suc t - q ^ lowest_of q (suc t) = first_is L (suc t - q ^ lowest_of q (suc t)) r in
      ap₂ (λ (x y : ℕ). q ^ x + y) (sym i) g ∙ omega arith

  -- ---- the latest place
  pub latest_self : (L : List ℕ) (p : ℕ) → begins L (positions q (suc p)) ≡ true → latest_of q L (suc p) ≡ suc p
  unfolding latest_of
  latest_self L p e = rw (e, latest_of)

  pub latest_other : (L : List ℕ) (p : ℕ) → begins L (positions q (suc p)) ≡ false → latest_of q L (suc p) ≡ latest_of q L p
  unfolding latest_of
  latest_other L p e = rw (e, latest_of)

  pub latest_first : (L : List ℕ) (p : ℕ) → p < first_of q L → latest_of q L p ≡ first_of q L
  unfolding latest_of
  latest_first L zero h = refl
  latest_first L (suc p) h =
      either (begins L (positions q (suc p)))
      (λ e. absurd (omega (arith, first_le L (suc p) e)))
      (λ e. latest_other L p e ∙ latest_first L p (omega arith))

  module _ (v : ℕ → ℕ) where
    -- ---- no place whose positions begin with L: it stays
    pub held_other : (L : List ℕ) (p : ℕ) → begins L (positions q (suc p)) ≡ false → held q v L (suc p) ≡ held q v L p
    unfolding held
    held_other L p e = ap (change q v (length L)) (latest_other L p e)

    -- ---- the place has the positions L and no others: it stays
    pub held_last : (L : List ℕ) (p : ℕ) → positions q (suc p) ≡ L → held q v L (suc p) ≡ held q v L p
    unfolding held
    held_last L p e =
        let f : first_of q L ≡ suc p = first_is L (suc p) e in
        let b : begins L (positions q (suc p)) ≡ true = rw e (begins_self L) in
        ap (change q v (length L)) (latest_self L p b ∙ sym f ∙ sym (latest_first L p (omega arith)))

    -- ---- else what is held for one position more is added, as it is after the place
    pub held_now : (L : List ℕ) (p : ℕ) → begins L (positions q (suc p)) ≡ true → held q v L (suc p) ≡ change q v (length L) (suc p)
    unfolding held
    held_now L p e = ap (change q v (length L)) (latest_self L p e)

    pub held_step : (L : List ℕ) (c : ℕ) (ps : List ℕ) (p : ℕ) → positions q (suc p) ≡ L ++ c ∷ ps
        → Cong q (held q v L (suc p)) (held q v L p + held q v (L ++ c ∷ []) (suc p))
    unfolding held change
    held_step L c ps p e =
        let b : begins L (positions q (suc p)) ≡ true = rw e (begins_append L (c ∷ ps)) in
        let d : begins (L ++ c ∷ []) (positions q (suc p)) ≡ true = rw e (begins_snoc L c ps) in
        let k : length (L ++ c ∷ []) ≡ suc (length L) = length-append L (c ∷ []) ∙ more (length L) in
        let t : take (length L) (positions q (suc p)) ≡ L = rw e (take-append_seam L (c ∷ ps)) in
        let n : held q v (L ++ c ∷ []) (suc p) ≡ change q v (length L) (suc p) + (q - 1) * held q v L p
        = ap₂ (change q v) k (latest_self (L ++ c ∷ []) p d)
        ∙ ap₂ (λ (l : List ℕ) (x : ℕ). change q v (length L) (suc p) + (q - 1) * change q v (length L) (latest_of q l x)) t (less p) in
        cof (held_now L p b)
        ⨾ csym (cof (ap (λ (x : ℕ). held q v L p + x) n ∙ turn (change q v (length L) (suc p)) (held q v L p) (q - 1)) ⨾ cadd (crefl _) (cminus q pos (held q v L p)) ⨾ cof (add-zero _))
      where
        less : (p : ℕ) → suc p - 1 ≡ p
        less p = omega arith

        more : (n : ℕ) → n + 1 ≡ suc n
        more n = omega arith

        turn : (a b r : ℕ) → b + (a + r * b) ≡ a + (b + r * b)
        turn a b r = omega arith
