-- What is held for d positions is constant, where the values are those of a function of degree d at the points: it is a difference of order d.
use mathlib.Core.Path.{◌≡◌, refl, sym, ap, ap₂, ◌∙◌, subst}
use mathlib.Core.Bool.{true}
use mathlib.Core.List.{List, [], ◌∷◌, ◌++◌, append-nil}
use Prim.Native.Nat.{ℕ, zero, suc, ◌+◌, ◌-◌, ◌*◌, ◌^◌, ◌<◌, ◌≤◌}
use native.Mathlib.Nat.{add-zero, zero-add, suc-add, mul-zero, mul-suc, one-le-pow}
use native.Mathlib.Omega.{arith}
use lib.ListN.{length, take}
use lib.Seq.{length-take-le}
use Rattle.residues.proofs.ModLaw.{Cong, crefl, cof, csym, ◌⨾◌, cadd, cmul, cancel, cminus}
use Rattle.gray.specs.Numbers.{point_digit}
use Rattle.positions.specs.Positions.{lowest_of, positions}
use Rattle.positions.proofs.LowestLaw.{of_times}
use Rattle.positions.proofs.PositionLaw.{positions_none, positions_next}
use Rattle.held.specs.Held.{begins, first_of, latest_of, change, held, entry, along}
use Rattle.held.proofs.HeldLaw.{either, begins_self, begins_take, begins_length, take_begins, held_other, held_last, held_now}
use Rattle.held.proofs.StemLaw.{Stem, root, grow, stem_of, place_at}
use Rattle.held.proofs.PastLaw.{past_of, top, Above, above, above_begins, above_low, first_positions, latest_above, past_above}
use Rattle.held.proofs.ApartLaw.{dir_of, apart}
use Rattle.held.proofs.FlatLaw.{Fun, plus, delta, Flat, Ext, ext_delta}

-- the differences of F in the directions of L, from the stem s on
unfoldable pub deltas : ℕ → Stem → Fun → List ℕ → Fun
deltas q s F [] = F
deltas q s F (d ∷ L) = deltas q (grow q s d) (delta q (dir_of q s d) F) L

-- the sum of these directions
unfoldable pub way : ℕ → Stem → List ℕ → ℕ → ℕ
way q s [] k = 0
way q s (d ∷ L) k = dir_of q s d k + way q (grow q s d) L k

abbrev pub nowhere : ℕ → ℕ
nowhere k = 0

deltas_snoc : (q : ℕ) (s : Stem) (F : Fun) (L : List ℕ) (d : ℕ) → deltas q s F (L ++ d ∷ []) ≡ delta q (dir_of q (stem_of q s L) d) (deltas q s F L)
unfolding deltas stem_of
deltas_snoc q s F [] d = refl
deltas_snoc q s F (b ∷ L) d = deltas_snoc q (grow q s b) (delta q (dir_of q s b) F) L d

way_snoc : (q : ℕ) (s : Stem) (L : List ℕ) (d k : ℕ) → way q s (L ++ d ∷ []) k ≡ way q s L k + dir_of q (stem_of q s L) d k
unfolding way stem_of
way_snoc q s [] d k = none (dir_of q s d k)
  where
    none : (a : ℕ) → a + 0 ≡ 0 + a
    none a = omega arith
way_snoc q s (b ∷ L) d k = ap (λ (x : ℕ). dir_of q s b k + x) (way_snoc q (grow q s b) L d k) ∙ left (dir_of q s b k) (way q (grow q s b) L k) (dir_of q (stem_of q (grow q s b) L) d k)
  where
    left : (a b c : ℕ) → a + (b + c) ≡ a + b + c
    left a b c = omega arith

take_snoc : (L : List ℕ) (d : ℕ) (rest : List ℕ) → take (suc (length L)) (L ++ d ∷ rest) ≡ L ++ d ∷ []
take_snoc [] d rest = refl
take_snoc (b ∷ L) d rest = ap (λ (l : List ℕ). b ∷ l) (take_snoc L d rest)

module _ (q : ℕ) (two : 1 < q) where
  pos : 0 < q
  pos = omega arith

  -- ---- functions of points
  pub ext_deltas : (L : List ℕ) (s : Stem) (F : Fun) → Ext q F → Ext q (deltas q s F L)
  unfolding deltas
  ext_deltas [] s F e = e
  ext_deltas (d ∷ L) s F e = ext_deltas L (grow q s d) (delta q (dir_of q s d) F) (ext_delta q pos F (dir_of q s d) e)

  pub flat_deltas : (L : List ℕ) (s : Stem) (F : Fun) (m : ℕ) → Flat q (length L + m) F → Flat q m (deltas q s F L)
  unfolding deltas
  flat_deltas [] s F m f = subst (λ (i : ℕ). Flat q i F) (zero-add m) f
  flat_deltas (d ∷ L) s F m f =
      let g : Flat q (suc (length L + m)) F = subst (λ (i : ℕ). Flat q i F) (suc-add (length L) m) f in
      flat_deltas L (grow q s d) (delta q (dir_of q s d) F) m (g (dir_of q s d))

  -- a function of degree 0 is constant
  pub constant : (h : Fun) → Ext q h → Flat q 1 h → (x : ℕ → ℕ) → Cong q (h x) (h nowhere)
  constant h e f x =
      e x (plus nowhere x) (λ k. cof (sym (zero-add (x k))))
      ⨾ csym (cof (turn (h nowhere) (h (plus nowhere x)) (q - 1)) ⨾ cadd (crefl (h (plus nowhere x))) (cminus q pos (h nowhere)) ⨾ cof (add-zero _))
      ⨾ cadd (crefl (h nowhere)) (f x nowhere) ⨾ cof (add-zero (h nowhere))
    where
      turn : (a b r : ℕ) → a + (b + r * a) ≡ b + (a + r * a)
      turn a b r = omega arith

  -- ---- the position after L
  more_is : (L : List ℕ) (p y : ℕ) → Above q two L p y → 0 < y
      → (rest : List ℕ) × (positions q p ≡ L ++ ((top q L).at + lowest_of q y) ∷ rest)
  more_is L p y a h =
      let c = (top q L).at in
      let w : 0 < q ^ c * y = big c y h in (
        positions q (q ^ c * y - q ^ lowest_of q (q ^ c * y)),
        a.rest ∙ ap (λ (l : List ℕ). L ++ l) (positions_next q two (q ^ c * y) w ∙ ap (λ (x : ℕ). x ∷ positions q (q ^ c * y - q ^ lowest_of q (q ^ c * y))) (of_times q two c y h)),
      )
    where
      big : (c y : ℕ) → 0 < y → 0 < q ^ c * y
      big c zero h = absurd (omega arith)
      big c (suc y) h = omega (arith, one-le-pow c q pos, mul-suc (q ^ c) y)

  none_more : (L : List ℕ) (p y : ℕ) → Above q two L p y → y ≡ 0 → positions q p ≡ L
  none_more L p y a e =
      a.rest ∙ ap (λ (x : ℕ). L ++ positions q (q ^ (top q L).at * x)) e ∙ ap (λ (x : ℕ). L ++ positions q x) (mul-zero (q ^ (top q L).at))
      ∙ ap (λ (l : List ℕ). L ++ l) (positions_none q two) ∙ append-nil L

  module _ (F : Fun) (ext : Ext q F) where
    -- p has the first positions L, and X is its point less their directions
    abbrev From : List ℕ → ℕ → (ℕ → ℕ) → Type 0
    From L p X = (j : ℕ) → Cong q (X j + way q root L j) (point_digit q p j)

    -- one position more: by what the change is before it, at p and at the latest place before it
    change_more : (L : List ℕ) (p y : ℕ) (X : ℕ → ℕ) → Above q two L (suc p) y → 0 < y
        → ((t : ℕ) (Y : ℕ → ℕ) → begins L (positions q t) ≡ true → From L t Y → Cong q (change q (along q F) (length L) t) (deltas q root F L Y))
        → From (take (suc (length L)) (positions q (suc p))) (suc p) X
        → Cong q (change q (along q F) (suc (length L)) (suc p)) (deltas q root F (take (suc (length L)) (positions q (suc p))) X)
    unfolding change
    change_more L p y X a h i f =
        let s = stem_of q root L in
        let d = s.at + lowest_of q y in
        let m = more_is L (suc p) y a h in
        let k : take (suc (length L)) (positions q (suc p)) ≡ L ++ d ∷ [] = ap (take (suc (length L))) m.1 ∙ take_snoc L d m.0 in
        let b : begins L (positions q (suc p)) ≡ true = above_begins q two L (suc p) y a in
        let t = place_at q s (past_of q s.run y) in
        let o : Above q two L t (past_of q s.run y) = past_above q two L (suc p) y a h in
        let l : latest_of q (take (length L) (positions q (suc p))) (suc p - 1) ≡ t
        = ap₂ (latest_of q) (begins_take L (positions q (suc p)) b) (less p) ∙ latest_above q two L p y a h in
        let g : (j : ℕ) → Cong q (point_digit q (suc p) j) (point_digit q t j + dir_of q s d j)
        = λ j. cof (ap (λ (x : ℕ). point_digit q x j) a.is) ⨾ apart q two s (above_low q two L (suc p) b) y j h a.room in
        let w : (j : ℕ) → Cong q (X j + (way q root L j + dir_of q s d j)) (point_digit q (suc p) j)
        = λ j. cof (ap (λ (x : ℕ). X j + x) (sym (ap (λ (l : List ℕ). way q root l j) k ∙ way_snoc q root L d j))) ⨾ f j in
        let here : Cong q (change q (along q F) (length L) (suc p)) (deltas q root F L (plus X (dir_of q s d)))
        = i (suc p) (plus X (dir_of q s d)) b (λ j. cof (turn (X j) (dir_of q s d j) (way q root L j)) ⨾ w j) in
        let there : Cong q (change q (along q F) (length L) t) (deltas q root F L X)
        = i t X (above_begins q two L t (past_of q s.run y) o) (λ j. cancel pos (dir_of q s d j) (cof (left (X j) (way q root L j) (dir_of q s d j)) ⨾ w j ⨾ g j)) in
        cadd here (cmul (crefl (q - 1)) (cof (ap (change q (along q F) (length L)) l) ⨾ there))
        ⨾ cof (ap (λ (D : Fun). D X) (sym (ap (deltas q root F) k ∙ deltas_snoc q root F L d)))
      where
        less : (p : ℕ) → suc p - 1 ≡ p
        less p = omega arith

        turn : (a b c : ℕ) → a + b + c ≡ a + (c + b)
        turn a b c = omega arith

        left : (a b c : ℕ) → a + b + c ≡ a + (b + c)
        left a b c = omega arith

    -- the change of order k is a difference of order k
    pub change_is : (k p : ℕ) → k ≤ length (positions q p) → (X : ℕ → ℕ) → From (take k (positions q p)) p X
        → Cong q (change q (along q F) k p) (deltas q root F (take k (positions q p)) X)
    unfolding change deltas way
    change_is zero p l X f = ext (point_digit q p) X (λ j. csym (f j) ⨾ cof (add-zero (X j)))
    change_is (suc k) zero l X f = absurd (omega (arith, ap length (positions_none q two)))
    change_is (suc k) (suc p) l X f =
        let L = take k (positions q (suc p)) in
        let n : length L ≡ k = length-take-le k (positions q (suc p)) (omega arith) in
        let b : begins L (positions q (suc p)) ≡ true = take_begins k (positions q (suc p)) in
        let a = above q two L (suc p) b in
        let h : 0 < a.0 = some L (suc p) a.0 a.1 (omega arith) in
        let i : (t : ℕ) (Y : ℕ → ℕ) → begins L (positions q t) ≡ true → From L t Y → Cong q (change q (along q F) (length L) t) (deltas q root F L Y)
        = λ t Y e g. again L t Y e g (change_is k t (omega (arith, begins_length L (positions q t) e)) Y) n in
        subst (λ (m : ℕ). From (take (suc m) (positions q (suc p))) (suc p) X → Cong q (change q (along q F) (suc m) (suc p)) (deltas q root F (take (suc m) (positions q (suc p))) X)) n
        (change_more L p a.0 X a.1 h i) f
      where
        some : (L : List ℕ) (p y : ℕ) → Above q two L p y → length L < length (positions q p) → 0 < y
        some L p zero a l = absurd (omega (arith, ap length (none_more L p zero a refl)))
        some L p (suc y) a l = omega arith

        again : (L : List ℕ) (t : ℕ) (Y : ℕ → ℕ) → begins L (positions q t) ≡ true → From L t Y
            → (From (take k (positions q t)) t Y → Cong q (change q (along q F) k t) (deltas q root F (take k (positions q t)) Y)) → length L ≡ k
            → Cong q (change q (along q F) (length L) t) (deltas q root F L Y)
        again L t Y e g c n =
            let m : take k (positions q t) ≡ L = ap (λ (j : ℕ). take j (positions q t)) (sym n) ∙ begins_take L (positions q t) e in
            let c' : From L t Y → Cong q (change q (along q F) k t) (deltas q root F L Y)
            = subst (λ (M : List ℕ). From M t Y → Cong q (change q (along q F) k t) (deltas q root F M Y)) m c in
            cof (ap (λ (j : ℕ). change q (along q F) j t) n) ⨾ c' g

    -- the same for a list of positions
    pub change_at : (L : List ℕ) (p : ℕ) (X : ℕ → ℕ) → begins L (positions q p) ≡ true → ((j : ℕ) → Cong q (X j + way q root L j) (point_digit q p j))
        → Cong q (change q (along q F) (length L) p) (deltas q root F L X)
    change_at L p X b f =
        subst (λ (M : List ℕ). From M p X → Cong q (change q (along q F) (length L) p) (deltas q root F M X)) (begins_take L (positions q p) b)
        (change_is (length L) p (begins_length L (positions q p) b) X) f

    -- ---- degree d
    module _ (d : ℕ) (degree : Flat q (suc d) F) where
      -- at a place that begins with d positions it depends on these alone
      pub leaf_is : (L : List ℕ) (p : ℕ) → length L ≡ d → begins L (positions q p) ≡ true → Cong q (change q (along q F) (length L) p) (deltas q root F L nowhere)
      leaf_is L p n b =
          let one : length L + 1 ≡ suc d = omega arith in
          change_at L p (λ j. point_digit q p j + (q - 1) * way q root L j) b (λ j. cof (turn (point_digit q p j) (way q root L j) (q - 1)) ⨾ cadd (crefl (point_digit q p j)) (cminus q pos (way q root L j)) ⨾ cof (add-zero (point_digit q p j)))
          ⨾ constant (deltas q root F L) (ext_deltas L root F ext) (flat_deltas L root F 1 (subst (λ (i : ℕ). Flat q i F) (sym one) degree)) (λ j. point_digit q p j + (q - 1) * way q root L j)
        where
          turn : (a b r : ℕ) → a + r * b + b ≡ a + (b + r * b)
          turn a b r = omega arith

      -- so what is held for d positions does not move
      pub settled : (p : ℕ) (L : List ℕ) → length L ≡ d → Cong q (held q (along q F) L (suc p)) (held q (along q F) L p)
      unfolding held
      settled p L n =
          either (begins L (positions q (suc p)))
          (λ b. at_begin (above q two L (suc p) b) b)
          (λ b. cof (held_other q two (along q F) L p b))
        where
          at_begin : (y : ℕ) × Above q two L (suc p) y → begins L (positions q (suc p)) ≡ true → Cong q (held q (along q F) L (suc p)) (held q (along q F) L p)
          at_begin (zero, a) b = cof (held_last q two (along q F) L p (none_more L (suc p) zero a refl))
          at_begin (suc y, a) b =
              let h : 0 < suc y = omega arith in
              let o = past_above q two L (suc p) (suc y) a h in
              cof (held_now q two (along q F) L p b) ⨾ leaf_is L (suc p) n b
              ⨾ csym (cof (ap (change q (along q F) (length L)) (latest_above q two L p (suc y) a h)) ⨾ leaf_is L _ n (above_begins q two L _ _ o))

      -- it is the table's entry, and that is the difference of order d, wherever it is taken
      pub held_entry : (p : ℕ) (L : List ℕ) → length L ≡ d → Cong q (held q (along q F) L p) (entry q (along q F) L)
      unfolding held entry latest_of
      held_entry zero L n = crefl _
      held_entry (suc p) L n = settled p L n ⨾ held_entry p L n

      pub entry_is : (L : List ℕ) (p : ℕ) → length L ≡ d → begins L (positions q p) ≡ true → Cong q (entry q (along q F) L) (deltas q root F L nowhere)
      unfolding entry
      entry_is L p n b = let e = first_positions q two L p b in leaf_is L (first_of q L) n (rw e (begins_self L))
