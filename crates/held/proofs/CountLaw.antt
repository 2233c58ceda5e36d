-- What is held at any place, by counting: the table's entry, and what was held for every position more at the places that began with it.
-- For one position less than the degree that is the entry of each position more, as often as places have begun with it; for two less, one sum more.
use mathlib.Core.Path.{◌≡◌, refl, sym, ap, ap₂, ◌∙◌}
use mathlib.Core.Bool.{Bool, true, false, ◌&&◌}
use mathlib.Core.Logic.{by_cases}
use mathlib.Core.List.{List, [], ◌∷◌, ◌++◌, append-nil}
use Prim.Native.Nat.{ℕ, zero, suc, ◌+◌, ◌*◌, ◌^◌, ◌<◌, ◌≤◌}
use native.Mathlib.Nat.{add-zero}
use native.Mathlib.Decide.{ℕ_discrete}
use native.Mathlib.Omega.{arith}
use lib.Dec.{eqb}
use lib.ListN.{length, length-append}
use borrow.Author.Tests.{ne_eqb}
use Rattle.residues.specs.Sums.{sum, same}
use Rattle.residues.proofs.SumLaw.{same_self, same_other, sum_ext, sum_add, sum_one, sum_zero, sum_cong}
use Rattle.residues.proofs.ModLaw.{Cong, crefl, cof, csym, ◌⨾◌, cadd}
use Rattle.positions.specs.Positions.{positions}
use Rattle.held.specs.Held.{begins, latest_of, held, entry, along}
use Rattle.held.specs.Stands.{Rises}
use Rattle.held.specs.Visits.{gathered, visits}
use Rattle.held.proofs.HeldLaw.{either, begins_snoc, held_other, held_last, held_step}
use Rattle.held.proofs.PastLaw.{top, above}
use Rattle.held.proofs.RiseLaw.{positions_rise}
use Rattle.held.proofs.FlatLaw.{Fun, Flat, Ext}
use Rattle.held.proofs.ConstantLaw.{held_entry}

-- ---- sums over places
module _ (q : ℕ) (L : List ℕ) where
  pub gathered_more : (h : ℕ → ℕ) (p : ℕ) → begins L (positions q (suc p)) ≡ true → gathered q L h (suc p) ≡ gathered q L h p + h (suc p)
  unfolding gathered
  gathered_more h p e = rw (e, gathered)

  pub gathered_same : (h : ℕ → ℕ) (p : ℕ) → begins L (positions q (suc p)) ≡ false → gathered q L h (suc p) ≡ gathered q L h p
  unfolding gathered
  gathered_same h p e = rw (e, gathered)

  -- places without L add nothing
  pub gathered_none : (h : ℕ → ℕ) → ((t : ℕ) → begins L (positions q t) ≡ true → ⊥) → (p : ℕ) → gathered q L h p ≡ 0
  unfolding gathered
  gathered_none h f zero = refl
  gathered_none h f (suc p) = either (begins L (positions q (suc p))) (λ e. absurd (f (suc p) e)) (λ e. gathered_same h p e ∙ gathered_none h f p)

  pub gathered_cong : (r : ℕ) (h g : ℕ → ℕ) (p : ℕ) → ((u : ℕ) → u ≤ p → begins L (positions q u) ≡ true → Cong r (h u) (g u)) → Cong r (gathered q L h p) (gathered q L g p)
  unfolding gathered
  gathered_cong r h g zero e = crefl 0
  gathered_cong r h g (suc p) e =
      let i : Cong r (gathered q L h p) (gathered q L g p) = gathered_cong r h g p (λ u l. e u (omega arith)) in
      either (begins L (positions q (suc p)))
      (λ b. cof (gathered_more h p b) ⨾ cadd i (e (suc p) (omega arith) b) ⨾ csym (cof (gathered_more g p b)))
      (λ b. cof (gathered_same h p b) ⨾ i ⨾ csym (cof (gathered_same g p b)))

  pub gathered_add : (h g : ℕ → ℕ) (p : ℕ) → gathered q L (λ u. h u + g u) p ≡ gathered q L h p + gathered q L g p
  unfolding gathered
  gathered_add h g zero = refl
  gathered_add h g (suc p) =
      let i = gathered_add h g p in
      either (begins L (positions q (suc p)))
      (λ b. omega (arith, gathered_more (λ u. h u + g u) p b, gathered_more h p b, gathered_more g p b))
      (λ b. omega (arith, gathered_same (λ u. h u + g u) p b, gathered_same h p b, gathered_same g p b))

  pub gathered_times : (h : ℕ → ℕ) (x p : ℕ) → gathered q L (λ u. h u * x) p ≡ gathered q L h p * x
  unfolding gathered
  gathered_times h x zero = none x
    where
      none : (x : ℕ) → 0 ≡ 0 * x
      none x = omega arith
  gathered_times h x (suc p) =
      let i = gathered_times h x p in
      either (begins L (positions q (suc p)))
      (λ b. gathered_more (λ u. h u * x) p b ∙ ap (λ (y : ℕ). y + h (suc p) * x) i ∙ both (gathered q L h p) (h (suc p)) x ∙ ap (λ (y : ℕ). y * x) (sym (gathered_more h p b)))
      (λ b. gathered_same (λ u. h u * x) p b ∙ i ∙ ap (λ (y : ℕ). y * x) (sym (gathered_same h p b)))
    where
      both : (a b x : ℕ) → a * x + b * x ≡ (a + b) * x
      both a b x = omega arith

  pub gathered_sum : (n : ℕ) (h : ℕ → ℕ → ℕ) (p : ℕ) → gathered q L (λ u. sum n (λ k. h k u)) p ≡ sum n (λ k. gathered q L (h k) p)
  unfolding sum
  gathered_sum zero h p = gathered_times (λ u. 0) 0 p ∙ none (gathered q L (λ u. 0) p)
    where
      none : (x : ℕ) → x * 0 ≡ 0
      none x = omega arith
  gathered_sum (suc n) h p = gathered_add (λ u. sum n (λ k. h k u)) (h n) p ∙ ap (λ (y : ℕ). y + gathered q L (h n) p) (gathered_sum n h p)

  pub gathered_const : (x p : ℕ) → gathered q L (λ u. x) p ≡ visits q L p * x
  unfolding visits
  gathered_const x p = gathered_ext p ∙ gathered_times (λ u. 1) x p
    where
      one : (x : ℕ) → x ≡ 1 * x
      one x = omega arith

      gathered_ext : (p : ℕ) → gathered q L (λ u. x) p ≡ gathered q L (λ u. 1 * x) p
      gathered_ext p = ap (λ (y : ℕ). gathered q L (λ u. y) p) (one x)

-- ---- one position more
begins_short : (L ps : List ℕ) (c : ℕ) → begins L ps ≡ false → begins (L ++ c ∷ []) ps ≡ false
unfolding begins
begins_short [] ps c e = absurd (let z : ◌≡◌ {A = ℕ} 0 1 = cc in omega arith)
begins_short (b ∷ L) [] c e = refl
begins_short (b ∷ L) (d ∷ ps) c e = go (eqb b d) e (begins_short L ps c)
  where
    go : (t : Bool) → (t && begins L ps) ≡ false → (begins L ps ≡ false → begins (L ++ c ∷ []) ps ≡ false) → (t && begins (L ++ c ∷ []) ps) ≡ false
    go true f g = g f
    go false f g = refl

ends : (t : Bool) → (t && false) ≡ false
ends true = refl
ends false = refl

begins_past : (L : List ℕ) (c : ℕ) → begins (L ++ c ∷ []) L ≡ false
unfolding begins
begins_past [] c = refl
begins_past (b ∷ L) c = ap (λ (t : Bool). eqb b b && t) (begins_past L c) ∙ ends (eqb b b)

begins_else : (L : List ℕ) (e c : ℕ) (ps : List ℕ) → (e ≡ c → ⊥) → begins (L ++ e ∷ []) (L ++ c ∷ ps) ≡ false
unfolding begins
begins_else [] e c ps n = ap (λ (t : Bool). t && true) (ne_eqb e c n)
begins_else (b ∷ L) e c ps n = ap (λ (t : Bool). eqb b b && t) (begins_else L e c ps n) ∙ ends (eqb b b)

-- a position of a rising list is below n
rises_at : (b n : ℕ) (L : List ℕ) (c : ℕ) (ps : List ℕ) → Rises b n (L ++ c ∷ ps) → c < n
rises_at b n [] c ps r = r.1
rises_at b n (d ∷ L) c ps r = rises_at d n L c ps r.2

module _ (q : ℕ) (two : 1 < q) (n : ℕ) where
  module _ (v : ℕ → ℕ) where
    -- what was held for one position more, at the places that began with it
    abbrev added : List ℕ → ℕ → ℕ
    added L p = sum n (λ e. gathered q (L ++ e ∷ []) (held q v (L ++ e ∷ [])) p)

    added_same : (L : List ℕ) (p : ℕ) → ((e : ℕ) → begins (L ++ e ∷ []) (positions q (suc p)) ≡ false) → added L (suc p) ≡ added L p
    added_same L p f = sum_ext n _ _ (λ e l. gathered_same q (L ++ e ∷ []) (held q v (L ++ e ∷ [])) p (f e))

    added_more : (L : List ℕ) (c : ℕ) (ps : List ℕ) (p : ℕ) → positions q (suc p) ≡ L ++ c ∷ ps → c < n → added L (suc p) ≡ added L p + held q v (L ++ c ∷ []) (suc p)
    added_more L c ps p e l =
        sum_ext n _ (λ k. gathered q (L ++ k ∷ []) (held q v (L ++ k ∷ [])) p + held q v (L ++ k ∷ []) (suc p) * same k c) (λ k m. one k)
        ∙ sum_add n (λ k. gathered q (L ++ k ∷ []) (held q v (L ++ k ∷ [])) p) (λ k. held q v (L ++ k ∷ []) (suc p) * same k c)
        ∙ ap (λ (x : ℕ). added L p + x) (sum_one n c (λ k. held q v (L ++ k ∷ []) (suc p)) l)
      where
        once : (a x s : ℕ) → s ≡ 1 → a + x ≡ a + x * s
        once a x s e = ap (λ (y : ℕ). a + y) (sym (ap (λ (y : ℕ). x * y) e ∙ last x))
          where
            last : (x : ℕ) → x * 1 ≡ x
            last x = omega arith

        never : (a x s : ℕ) → s ≡ 0 → a ≡ a + x * s
        never a x s e = sym (ap (λ (y : ℕ). a + x * y) e ∙ last a x)
          where
            last : (a x : ℕ) → a + x * 0 ≡ a
            last a x = omega arith

        one : (k : ℕ) → gathered q (L ++ k ∷ []) (held q v (L ++ k ∷ [])) (suc p) ≡ gathered q (L ++ k ∷ []) (held q v (L ++ k ∷ [])) p + held q v (L ++ k ∷ []) (suc p) * same k c
        one k =
            by_cases (ℕ_discrete k c)
            (λ (i : k ≡ c). let b : begins (L ++ k ∷ []) (positions q (suc p)) ≡ true = rw (e, i) (begins_snoc L c ps) in
            let s : same k c ≡ 1 = rw i (same_self c) in
            gathered_more q (L ++ k ∷ []) (held q v (L ++ k ∷ [])) p b ∙ once _ _ (same k c) s)
            (λ i. let b : begins (L ++ k ∷ []) (positions q (suc p)) ≡ false = rw e (begins_else L k c ps i) in
            gathered_same q (L ++ k ∷ []) (held q v (L ++ k ∷ [])) p b ∙ never _ _ (same k c) (same_other k c i))

    pub held_gathers : (L : List ℕ) (p : ℕ) → p < q ^ n → Cong q (held q v L p) (entry q v L + sum n (λ e. gathered q (L ++ e ∷ []) (held q v (L ++ e ∷ [])) p))
    unfolding held entry latest_of gathered
    held_gathers L zero l = cof (sym (ap (λ (x : ℕ). entry q v L + x) (sum_zero n (λ e. 0)) ∙ add-zero _))
    held_gathers L (suc p) l =
        let r : Cong q (held q v L p) (entry q v L + added L p) = held_gathers L p (omega arith) in
        either (begins L (positions q (suc p)))
        (λ b. let a = above q two L (suc p) b in go (positions q (q ^ (top q L).at * a.0)) a.1.rest r)
        (λ b. cof (held_other q two v L p b) ⨾ r ⨾ cof (ap (λ (x : ℕ). entry q v L + x) (sym (added_same L p (λ e. begins_short L (positions q (suc p)) e b)))))
      where
        left : (a b c : ℕ) → a + b + c ≡ a + (b + c)
        left a b c = omega arith

        go : (rest : List ℕ) → positions q (suc p) ≡ L ++ rest → Cong q (held q v L p) (entry q v L + added L p) → Cong q (held q v L (suc p)) (entry q v L + added L (suc p))
        go [] e r =
            let f : positions q (suc p) ≡ L = e ∙ append-nil L in
            cof (held_last q two v L p f) ⨾ r ⨾ cof (ap (λ (x : ℕ). entry q v L + x) (sym (added_same L p (λ i. rw f (begins_past L i)))))
        go (c ∷ ps) e r =
            let s : Rises 0 n (L ++ c ∷ ps) = rw e at (positions_rise q two (suc p) n l) in
            let g : c < n = rises_at 0 n L c ps s in
            held_step q two v L c ps p e ⨾ cadd r (crefl _)
            ⨾ cof (left (entry q v L) (added L p) (held q v (L ++ c ∷ []) (suc p)) ∙ ap (λ (x : ℕ). entry q v L + x) (sym (added_more L c ps p e g)))

  -- ---- values of a function of degree d at the points
  module _ (F : Fun) (ext : Ext q F) (d : ℕ) (degree : Flat q (suc d) F) where
    more_length : (L : List ℕ) (e : ℕ) → length (L ++ e ∷ []) ≡ suc (length L)
    more_length L e = length-append L (e ∷ []) ∙ omega arith

    -- for one position less than the degree
    pub held_counts : (L : List ℕ) → suc (length L) ≡ d → (p : ℕ) → p < q ^ n
        → Cong q (held q (along q F) L p) (entry q (along q F) L + sum n (λ e. visits q (L ++ e ∷ []) p * entry q (along q F) (L ++ e ∷ [])))
    held_counts L k p l =
        held_gathers (along q F) L p l
        ⨾ cadd (crefl _) (sum_cong q n _ _ (λ e m.
        gathered_cong q (L ++ e ∷ []) q _ (λ u. entry q (along q F) (L ++ e ∷ [])) p (λ u g b. held_entry q two F ext d degree u (L ++ e ∷ []) (more_length L e ∙ k))
        ⨾ cof (gathered_const q (L ++ e ∷ []) (entry q (along q F) (L ++ e ∷ [])) p)))

    -- for two less
    pub held_counts_two : (L : List ℕ) → suc (suc (length L)) ≡ d → (p : ℕ) → p < q ^ n
        → Cong q (held q (along q F) L p)
        (entry q (along q F) L + sum n (λ c. visits q (L ++ c ∷ []) p * entry q (along q F) (L ++ c ∷ [])
        + sum n (λ e. gathered q (L ++ c ∷ []) (visits q ((L ++ c ∷ []) ++ e ∷ [])) p * entry q (along q F) ((L ++ c ∷ []) ++ e ∷ []))))
    held_counts_two L k p l =
        held_gathers (along q F) L p l
        ⨾ cadd (crefl _) (sum_cong q n _ _ (λ c m.
        let M = L ++ c ∷ [] in
        gathered_cong q M q _ (λ u. entry q (along q F) M + sum n (λ e. visits q (M ++ e ∷ []) u * entry q (along q F) (M ++ e ∷ []))) p
        (λ u g b. held_counts M (ap suc (more_length L c) ∙ k) u (omega arith))
        ⨾ cof (gathered_add q M (λ u. entry q (along q F) M) (λ u. sum n (λ e. visits q (M ++ e ∷ []) u * entry q (along q F) (M ++ e ∷ []))) p
        ∙ ap₂ (λ (x y : ℕ). x + y) (gathered_const q M (entry q (along q F) M) p)
        (gathered_sum q M n (λ e u. visits q (M ++ e ∷ []) u * entry q (along q F) (M ++ e ∷ [])) p
        ∙ sum_ext n _ _ (λ e g. gathered_times q M (visits q (M ++ e ∷ [])) (entry q (along q F) (M ++ e ∷ [])) p)))))

    -- for three less
    pub held_counts_three : (L : List ℕ) → suc (suc (suc (length L))) ≡ d → (p : ℕ) → p < q ^ n
        → Cong q (held q (along q F) L p)
        (entry q (along q F) L + sum n (λ b. visits q (L ++ b ∷ []) p * entry q (along q F) (L ++ b ∷ [])
        + sum n (λ c. gathered q (L ++ b ∷ []) (visits q ((L ++ b ∷ []) ++ c ∷ [])) p * entry q (along q F) ((L ++ b ∷ []) ++ c ∷ [])
        + sum n (λ e. gathered q (L ++ b ∷ []) (gathered q ((L ++ b ∷ []) ++ c ∷ []) (visits q (((L ++ b ∷ []) ++ c ∷ []) ++ e ∷ []))) p * entry q (along q F) (((L ++ b ∷ []) ++ c ∷ []) ++ e ∷ [])))))
    held_counts_three L k p l =
        held_gathers (along q F) L p l
        ⨾ cadd (crefl _) (sum_cong q n _ _ (λ b m.
        let M = L ++ b ∷ [] in
        let R : ℕ → ℕ → ℕ
        = λ (c u : ℕ). visits q (M ++ c ∷ []) u * entry q (along q F) (M ++ c ∷ []) + sum n (λ e. gathered q (M ++ c ∷ []) (visits q ((M ++ c ∷ []) ++ e ∷ [])) u * entry q (along q F) ((M ++ c ∷ []) ++ e ∷ [])) in
        gathered_cong q M q _ (λ u. entry q (along q F) M + sum n (λ c. R c u)) p (λ u g h. held_counts_two M (ap (λ (y : ℕ). suc (suc y)) (more_length L b) ∙ k) u (omega arith))
        ⨾ cof (gathered_add q M (λ u. entry q (along q F) M) (λ u. sum n (λ c. R c u)) p
        ∙ ap₂ (λ (x y : ℕ). x + y) (gathered_const q M (entry q (along q F) M) p)
        (gathered_sum q M n R p ∙ sum_ext n _ _ (λ c g.
        gathered_add q M (λ u. visits q (M ++ c ∷ []) u * entry q (along q F) (M ++ c ∷ [])) (λ u. sum n (λ e. gathered q (M ++ c ∷ []) (visits q ((M ++ c ∷ []) ++ e ∷ [])) u * entry q (along q F) ((M ++ c ∷ []) ++ e ∷ []))) p
        ∙ ap₂ (λ (x y : ℕ). x + y) (gathered_times q M (visits q (M ++ c ∷ [])) (entry q (along q F) (M ++ c ∷ [])) p)
        (gathered_sum q M n (λ e u. gathered q (M ++ c ∷ []) (visits q ((M ++ c ∷ []) ++ e ∷ [])) u * entry q (along q F) ((M ++ c ∷ []) ++ e ∷ [])) p
        ∙ sum_ext n _ _ (λ e h. gathered_times q M (gathered q (M ++ c ∷ []) (visits q ((M ++ c ∷ []) ++ e ∷ []))) (entry q (along q F) ((M ++ c ∷ []) ++ e ∷ [])) p)))))))
