-- Degree 2, in any base: value, slots and table as they are defined for quadratic systems are what is held. The table's formulas are
-- second differences, in the directions that two first positions give.
use mathlib.Core.Path.{◌≡◌, refl, sym, ap, ap₂, subst, ◌∙◌}
use mathlib.Core.Bool.{true}
use mathlib.Core.Logic.{by_cases}
use mathlib.Core.List.{List, [], ◌∷◌}
use Prim.Native.Nat.{ℕ, zero, suc, ◌+◌, ◌-◌, ◌*◌, ◌^◌, ◌<◌, ◌≤◌}
use native.Mathlib.Nat.{add-zero, one-le-pow}
use native.Mathlib.Decide.{ℕ_discrete}
use native.Mathlib.Omega.{arith}
use Rattle.residues.specs.Sums.{same}
use Rattle.residues.proofs.ModLaw.{Cong, crefl, cof, csym, ◌⨾◌, cadd, cancel, cminus}
use Rattle.residues.proofs.SumLaw.{sum_zero, sum_both, sum_twice, sum_one}
use Rattle.gray.specs.Numbers.{point_digit}
use Rattle.positions.specs.Positions.{lowest_of, positions, latest}
use Rattle.gray.proofs.GrayLaw.{gray_step}
use Rattle.positions.proofs.PowerLaw.{power_positions}
use Rattle.gray.proofs.LatestLaw.{latest_start, latest_move}
use Rattle.held.specs.Held.{begins, first_of, change, held, entry, along}
use Rattle.held.specs.Stands.{Rises}
use Rattle.held.proofs.HeldLaw.{begins_append, held_step}
use Rattle.held.proofs.StemLaw.{root, grow}
use Rattle.held.proofs.ApartLaw.{dir_of, one_dir, same_dir, other_dir}
use Rattle.held.proofs.FlatLaw.{plus, delta, delta_like}
use Rattle.held.proofs.ConstantLaw.{nowhere, deltas, held_entry, entry_is}
use Rattle.held.proofs.RiseLaw.{positions_rise}
use Rattle.held.proofs.PointLaw.{all_of, point_is}
use Rattle.held.proofs.ValuesLaw.{latest_all, latest_one}
use Rattle.polynomials.specs.Poly.{Poly, value_of, slope, diff, prev, table_of}
use Rattle.polynomials.proofs.PolyLaw.{Next, diff_is, diff_moves, slope_self, slope_above, slope_prev}
use Rattle.polynomials.proofs.TableLaw.{table_lin, table_same, table_other}
use Rattle.polynomials.proofs.FormLaw.{eval_value}
use Rattle.polynomials.proofs.ChangeLaw.{latest_above}
use Rattle.polynomials.proofs.TermsLaw.{flat_value, ext_value}

module _ (q : ℕ) (two : 1 < q) (f : Poly) (n : ℕ) where
  pos : 0 < q
  pos = omega arith

  abbrev v : ℕ → ℕ
  v = along q (value_of f n)

  -- ---- slot b: the first difference before the latest move of b
  -- one further in the direction b, less the value, is the first difference
  pub step_is : (b : ℕ) (x y : ℕ → ℕ) → b < n → ((k : ℕ) → Cong q (y k) (x k + same k b)) → Cong q (value_of f n y + (q - 1) * value_of f n x) (diff f n b x)
  unfolding Next
  step_is b x y l e =
      cadd (cof (sym (eval_value f n y)) ⨾ diff_is q f n b x y l e ⨾ cof (ap (λ (u : ℕ). u + diff f n b x) (eval_value f n x))) (crefl _)
      ⨾ cof (turn (value_of f n x) (diff f n b x) (q - 1)) ⨾ cadd (crefl (diff f n b x)) (cminus q pos (value_of f n x)) ⨾ cof (add-zero _)
    where
      turn : (a b r : ℕ) → a + b + r * a ≡ b + (a + r * a)
      turn a b r = omega arith

  change_diff : (b p : ℕ) → b < n → lowest_of q (suc p) ≡ b → Cong q (change q v 1 (suc p)) (diff f n b (point_digit q p))
  unfolding change
  change_diff b p l e =
      let m : suc p - 1 ≡ p = omega arith in
      cof (ap (λ (x : ℕ). v (suc p) + (q - 1) * v x) (latest_all q two (suc p - 1) ∙ m))
      ⨾ step_is b (point_digit q p) (point_digit q (suc p)) l (λ k. gray_step q two k p ⨾ cof (ap (λ (x : ℕ). point_digit q p k + same k x) e))

  change_at : (b P : ℕ) → b < n → 0 < P → lowest_of q P ≡ b → Cong q (change q v 1 P) (diff f n b (point_digit q (P - 1)))
  change_at b zero l h e = absurd (omega arith)
  change_at b (suc p) l h e = let m : suc p - 1 ≡ p = omega arith in change_diff b p l e ⨾ cof (ap (λ (x : ℕ). diff f n b (point_digit q x)) (sym m))

  pub slot_is : (b p : ℕ) → b < n → Cong q (held q v (b ∷ []) p) (diff f n b (point_digit q (latest q b p - 1)))
  unfolding held
  slot_is b p l = cof (ap (change q v 1) (latest_one q two b p)) ⨾ change_at b (latest q b p) l (latest_above q two b p) (latest_move q two b p)

  -- ---- the entry of xb
  -- the point before the first move of b has q - 1 at the unknown before b, and is 0 elsewhere
  first : (b p k : ℕ) → suc p ≡ q ^ b → Cong q (point_digit q p k + same (suc k) b) 0
  unfolding all_of
  first b p k e =
      let ps : positions q (suc p) ≡ b ∷ [] = ap (positions q) e ∙ power_positions q two b in
      let low : lowest_of q (suc p) ≡ b = ap (lowest_of q) (e ∙ sym (latest_start q two b)) ∙ latest_move q two b 0 in
      cancel pos (same k b)
      (cof (turn (point_digit q p k) (same (suc k) b) (same k b))
      ⨾ cadd (cof (ap (λ (x : ℕ). point_digit q p k + same k x) (sym low)) ⨾ csym (gray_step q two k p)) (crefl (same (suc k) b + 0))
      ⨾ point_is q two (b ∷ []) (suc p) ps k ⨾ cof (end (same k b)))
    where
      turn : (a b c : ℕ) → a + b + c ≡ a + c + (b + 0)
      turn a b c = omega arith

      end : (a : ℕ) → a + 0 ≡ 0 + a
      end a = omega arith

  pub first_lin : (b p : ℕ) → b < n → suc p ≡ q ^ b → Cong q (diff f n b (point_digit q p)) ((table_of q f).lin b)
  unfolding diff
  first_lin b p l e =
      cancel pos (prev f b)
      (cof (ap (λ (x : ℕ). diff f n b (point_digit q p) + x) (sym (slope_prev f n b l)))
      ⨾ diff_moves q f n b nowhere (point_digit q p) (λ k. same (suc k) b) nowhere (λ k. first b p k e ⨾ cof refl)
      ⨾ cof (ap (λ (x : ℕ). f.lin b + f.quad b b + x + x) (sum_zero n (slope f b)) ∙ none (f.lin b + f.quad b b)) ⨾ csym (table_lin q two f b))
    where
      none : (x : ℕ) → x + 0 + 0 ≡ x
      none x = omega arith

  pub lin_is : (b : ℕ) → b < n → Cong q (entry q v (b ∷ [])) ((table_of q f).lin b)
  unfolding entry first_of
  lin_is b l =
      let w = one-le-pow b q pos in
      let m : suc (q ^ b - 1) ≡ q ^ b + 0 = omega arith in
      let low : lowest_of q (suc (q ^ b - 1)) ≡ b = ap (lowest_of q) (m ∙ add-zero (q ^ b) ∙ sym (latest_start q two b)) ∙ latest_move q two b 0 in
      cof (ap (change q v 1) (sym m)) ⨾ change_diff b (q ^ b - 1) l low ⨾ first_lin b (q ^ b - 1) l (m ∙ add-zero (q ^ b))

  -- ---- the entries of xb xb and xb xc: differences of the first difference, in the direction of b and then b, or c
  second : (b c : ℕ) → b ≤ c → b < n → c < n
      → Cong q (diff f n b (plus nowhere (dir_of q (grow q root b) c))) (diff f n b nowhere + (table_of q f).quad b c)
  second b c o l m =
      by_cases (ℕ_discrete c b)
      (λ (s : c ≡ b). rw s (near b l))
      (λ d. far b c (omega arith) l m)
    where
      left : (a b c : ℕ) → a + (b + c) ≡ a + b + c
      left a b c = omega arith

      near : (b : ℕ) → b < n → Cong q (diff f n b (plus nowhere (dir_of q (grow q root b) b))) (diff f n b nowhere + (table_of q f).quad b b)
      near b l =
          cancel pos (prev f b)
          (cof (ap (λ (x : ℕ). diff f n b (plus nowhere (dir_of q (grow q root b) b)) + x) (sym (slope_prev f n b l)))
          ⨾ diff_moves q f n b nowhere (plus nowhere (dir_of q (grow q root b) b)) (λ k. same (suc k) b) (λ k. same k b)
          (λ k. cof (ap (λ (x : ℕ). 0 + x + same (suc k) b) (same_dir q b k) ∙ ring (same k b) (same (suc k) b) (q - 1)) ⨾ cadd (crefl (0 + same k b)) (cminus q pos (same (suc k) b)) ⨾ cof (add-zero _))
          ⨾ cof (ap (λ (x : ℕ). diff f n b nowhere + x) (sum_one n b (slope f b) l ∙ slope_self f b))
          ⨾ cadd (crefl (diff f n b nowhere)) (csym (table_same q two f b)) ⨾ cof (left (diff f n b nowhere) ((table_of q f).quad b b) (prev f b)))
        where
          ring : (s t r : ℕ) → 0 + (s + r * t) + t ≡ 0 + s + (t + r * t)
          ring s t r = omega arith

      far : (b c : ℕ) → b < c → b < n → c < n → Cong q (diff f n b (plus nowhere (dir_of q (grow q root b) c))) (diff f n b nowhere + (table_of q f).quad b c)
      far b c o l m =
          cancel pos (2 * prev f b)
          (cof (ap (λ (x : ℕ). diff f n b (plus nowhere (dir_of q (grow q root b) c)) + x) (sym (sum_twice n (slope f b) (λ k. same (suc k) b) ∙ ap (λ (x : ℕ). 2 * x) (slope_prev f n b l))))
          ⨾ diff_moves q f n b nowhere (plus nowhere (dir_of q (grow q root b) c)) (λ k. 2 * same (suc k) b) (λ k. same k b + same k c)
          (λ k. cof (ap (λ (x : ℕ). 0 + x + 2 * same (suc k) b) (other_dir q b c k (λ e. omega arith)) ∙ ring (same k b) (same k c) (2 * same (suc k) b) (q - 1))
          ⨾ cadd (crefl (0 + (same k b + same k c))) (cminus q pos (2 * same (suc k) b)) ⨾ cof (add-zero _))
          ⨾ cof (ap (λ (x : ℕ). diff f n b nowhere + x) (sum_both n (slope f b) (λ k. same k b) (λ k. same k c)
          ∙ ap₂ (λ (x z : ℕ). x + z) (sum_one n b (slope f b) l ∙ slope_self f b) (sum_one n c (slope f b) m ∙ slope_above f b c o) ∙ swap (2 * f.quad b b) (f.quad b c)))
          ⨾ cadd (crefl (diff f n b nowhere)) (csym (table_other q two f b c (λ e. omega arith))) ⨾ cof (left (diff f n b nowhere) ((table_of q f).quad b c) (2 * prev f b)))
        where
          ring : (s u t r : ℕ) → 0 + (1 * s + u + r * t) + t ≡ 0 + (s + u) + (t + r * t)
          ring s u t r = omega arith

          swap : (a b : ℕ) → a + b ≡ b + a
          swap a b = omega arith

  -- b, c are the first two positions of some place
  pub quad_is : (b c p : ℕ) (ps : List ℕ) → p < q ^ n → positions q p ≡ b ∷ c ∷ ps → Cong q (entry q v (b ∷ c ∷ [])) ((table_of q f).quad b c)
  unfolding deltas
  quad_is b c p ps l e =
      let r : Rises 0 n (b ∷ c ∷ ps) = subst (λ (x : List ℕ). Rises 0 n x) e (positions_rise q two p n l) in
      let g : begins (b ∷ c ∷ []) (positions q p) ≡ true = rw e (begins_append (b ∷ c ∷ []) ps) in
      let d : ℕ → ℕ = dir_of q (grow q root b) c in
      entry_is q two (value_of f n) (ext_value q pos f n) 2 (flat_value q pos f n) (b ∷ c ∷ []) p refl g
      ⨾ delta_like q pos (delta q (dir_of q root b) (value_of f n)) (diff f n b) d
      (λ x. step_is b x (plus x (dir_of q root b)) r.1 (λ k. cof (ap (λ (y : ℕ). x k + y) (one_dir q b k)))) nowhere
      ⨾ cadd (second b c r.2.0 r.1 r.2.1) (crefl _)
      ⨾ cof (turn (diff f n b nowhere) ((table_of q f).quad b c) (q - 1)) ⨾ cadd (crefl ((table_of q f).quad b c)) (cminus q pos (diff f n b nowhere)) ⨾ cof (add-zero _)
    where
      turn : (a b r : ℕ) → a + b + r * a ≡ b + (a + r * a)
      turn a b r = omega arith

  -- so from move to move a slot changes by the entry of the two positions
  pub slot_step : (b c p : ℕ) (ps : List ℕ) → suc p < q ^ n → positions q (suc p) ≡ b ∷ c ∷ ps
      → Cong q (diff f n b (point_digit q (latest q b (suc p) - 1))) (diff f n b (point_digit q (latest q b p - 1)) + (table_of q f).quad b c)
  slot_step b c p ps l e =
      let r : Rises 0 n (b ∷ c ∷ ps) = subst (λ (x : List ℕ). Rises 0 n x) e (positions_rise q two (suc p) n l) in
      csym (slot_is b (suc p) r.1) ⨾ held_step q two v (b ∷ []) c ps p e
      ⨾ cadd (slot_is b p r.1) (held_entry q two (value_of f n) (ext_value q pos f n) 2 (flat_value q pos f n) (suc p) (b ∷ c ∷ []) refl ⨾ quad_is b c (suc p) ps l e)
