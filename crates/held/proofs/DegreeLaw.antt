-- The walk of a function of degree d, from its table on: every place leaves what is held. And the move written out for two and three positions.
use mathlib.Core.Path.{◌≡◌, refl, sym, ap₂, ◌∙◌}
use mathlib.Core.Logic.{by_cases}
use mathlib.Core.List.{List, [], ◌∷◌}
use Prim.Native.Nat.{ℕ, zero, suc, ◌+◌, ◌%◌, ◌<◌, ◌≤◌, min}
use native.Mathlib.Nat.{add-mod}
use native.Mathlib.Decide.{ℕ_discrete}
use native.Mathlib.Omega.{arith}
use lib.ListN.{length, take}
use Rattle.residues.specs.Sums.{same}
use Rattle.residues.proofs.SumLaw.{same_self}
use Rattle.residues.proofs.ModLaw.{Cong}
use Rattle.positions.specs.Positions.{positions}
use Rattle.walks.specs.Cost.{cost_of}
use Rattle.held.specs.Held.{latest_of, held, entry, move, along}
use Rattle.held.proofs.KeepLaw.{move_self, move_other, move_held}
use Rattle.held.proofs.FlatLaw.{Fun, Flat, Ext}
use Rattle.held.proofs.ConstantLaw.{settled}

-- addition modulo q
abbrev pub plus_mod : ℕ → ℕ → ℕ → ℕ
plus_mod q x y = (x + y) % q

-- what stands after places 1 to p, from the state H at place 0
unfoldable pub walked : ℕ → ℕ → (List ℕ → ℕ) → ℕ → List ℕ → ℕ
walked q d H zero = H
walked q d H (suc p) = move (plus_mod q) d (positions q (suc p)) (walked q d H p)

move_ext : {A : Type 0} (add : A → A → A) (d : ℕ) (ps : List ℕ) (H G : List ℕ → A) → ((L : List ℕ) → H L ≡ G L) → (L : List ℕ) → move add d ps H L ≡ move add d ps G L
unfolding move
move_ext add zero ps H G e L = e L
move_ext add (suc d) [] H G e L = e L
move_ext add (suc d) (b ∷ ps) H G e [] = ap₂ add (e []) (move_ext add d ps (λ M. H (b ∷ M)) (λ M. G (b ∷ M)) (λ M. e (b ∷ M)) [])
move_ext add (suc d) (b ∷ ps) H G e (c ∷ L) =
    by_cases (ℕ_discrete b c)
    (λ (s : b ≡ c). let r = move_ext add d ps (λ M. H (b ∷ M)) (λ M. G (b ∷ M)) (λ M. e (b ∷ M)) L in
    rw (← s) (move_self add d b ps H L ∙ r ∙ sym (move_self add d b ps G L)))
    (λ n. move_other add d b c ps H L n ∙ e (c ∷ L) ∙ sym (move_other add d b c ps G L n))

pub walked_ext : (q d : ℕ) (H G : List ℕ → ℕ) → ((L : List ℕ) → H L ≡ G L) → (p : ℕ) (L : List ℕ) → walked q d H p L ≡ walked q d G p L
unfolding walked
walked_ext q d H G e zero L = e L
walked_ext q d H G e (suc p) L = move_ext (plus_mod q) d (positions q (suc p)) (walked q d H p) (walked q d G p) (λ M. walked_ext q d H G e p M) L

-- ---- anything that stands for numbers modulo q
module _ (q : ℕ) (two : 1 < q) (F : ℕ → Fun) (ext : (e : ℕ) → Ext q (F e)) (d : ℕ) (degree : (e : ℕ) → Flat q (suc d) (F e)) where
  module _ {A : Type 0} (add : A → A → A) (Shows : (ℕ → ℕ) → A → Type 0)
      (plus : (f g : ℕ → ℕ) (x y : A) → Shows f x → Shows g y → Shows (λ e. f e + g e) (add x y))
      (like : (f g : ℕ → ℕ) (x : A) → ((e : ℕ) → Cong q (f e) (g e)) → Shows f x → Shows g x) where
    pub walk_step : (p : ℕ) (H : List ℕ → A) (K : List ℕ → Type 0)
        → ((k : ℕ) → k ≤ d → K (take k (positions q (suc p))))
        → ((L : List ℕ) → length L ≤ d → K L → Shows (λ e. held q (along q (F e)) L p) (H L))
        → (L : List ℕ) → length L ≤ d → K L → Shows (λ e. held q (along q (F e)) L (suc p)) (move add d (positions q (suc p)) H L)
    walk_step p H K f h L l k = move_held q add Shows plus like two (λ e. along q (F e)) d p H K (λ e M n. settled q two (F e) (ext e) d (degree e) p M n) f h L l k

-- ---- numbers: from the table the walk comes to what is held
module _ (q : ℕ) (two : 1 < q) (F : Fun) (ext : Ext q F) (d : ℕ) (degree : Flat q (suc d) F) where
  pub walk_means : (p : ℕ) (L : List ℕ) → length L ≤ d → walked q d (λ M. entry q (along q F) M % q) p L ≡ held q (along q F) L p % q
  unfolding walked held entry latest_of
  walk_means zero L l = refl
  walk_means (suc p) L l =
      walk_step q two (λ e. F) (λ e. ext) d (λ e. degree) (plus_mod q) (λ f x. x ≡ f 0 % q)
      (λ f g x y s t. ap₂ (λ (u w : ℕ). (u + w) % q) s t ∙ sym (add-mod (f 0) (g 0) q)) (λ f g x c s. s ∙ (c 0).same)
      p (walked q d (λ M. entry q (along q F) M % q) p) (λ M. M ≡ M) (λ k n. refl) (λ M n k. walk_means p M n) L l refl

-- ---- two functions with the same table have the same values at all places
pub table_decides : (q : ℕ) (two : 1 < q) (F G : Fun) → Ext q F → Ext q G → (d : ℕ) → Flat q (suc d) F → Flat q (suc d) G
    → ((L : List ℕ) → entry q (along q F) L % q ≡ entry q (along q G) L % q) → (p : ℕ) → held q (along q F) [] p % q ≡ held q (along q G) [] p % q
table_decides q two F G ef eg d f g t p =
    let z : length {A = ℕ} [] ≤ d = omega arith in
    sym (walk_means q two F ef d f p [] z) ∙ walked_ext q d (λ M. entry q (along q F) M % q) (λ M. entry q (along q G) M % q) t p [] ∙ walk_means q two G eg d g p [] z

-- ---- additions: as many as there are positions, up to the degree. Each counts 1.
count : (d : ℕ) (ps : List ℕ) → move (λ (x y : ℕ). suc (x + y)) d ps (λ L. 0) [] ≡ min d (length ps)
unfolding move
count zero ps = omega arith
count (suc d) [] = omega arith
count (suc d) (b ∷ ps) = omega (arith, count d ps)

pub move_cost : (q d p : ℕ) → move (λ (x y : ℕ). suc (x + y)) d (positions q p) (λ L. 0) [] ≡ cost_of q d p
unfolding cost_of
move_cost q d p = count d (positions q p)

-- ---- the move written out: degree 2, and degree 3
module _ {A : Type 0} (add : A → A → A) (H : List ℕ → A) (b c e : ℕ) (ps : List ℕ) where
  pub two_value : move add 2 (b ∷ c ∷ ps) H [] ≡ add (H []) (add (H (b ∷ [])) (H (b ∷ c ∷ [])))
  unfolding move
  two_value = refl

  pub two_slot : move add 2 (b ∷ c ∷ ps) H (b ∷ []) ≡ add (H (b ∷ [])) (H (b ∷ c ∷ []))
  unfolding move
  two_slot = rw (same_self b, move)

  pub one_value : (d : ℕ) → move add (suc (suc d)) (b ∷ []) H [] ≡ add (H []) (H (b ∷ []))
  unfolding move
  one_value d = refl

  pub three_value : move add 3 (b ∷ c ∷ e ∷ ps) H [] ≡ add (H []) (add (H (b ∷ [])) (add (H (b ∷ c ∷ [])) (H (b ∷ c ∷ e ∷ []))))
  unfolding move
  three_value = refl

  pub three_slot : move add 3 (b ∷ c ∷ e ∷ ps) H (b ∷ []) ≡ add (H (b ∷ [])) (add (H (b ∷ c ∷ [])) (H (b ∷ c ∷ e ∷ [])))
  unfolding move
  three_slot = rw (same_self b, move)

  pub three_second : move add 3 (b ∷ c ∷ e ∷ ps) H (b ∷ c ∷ []) ≡ add (H (b ∷ c ∷ [])) (H (b ∷ c ∷ e ∷ []))
  unfolding move
  three_second = rw (same_self b, same_self c, move)

  pub pair_value : move add 3 (b ∷ c ∷ []) H [] ≡ add (H []) (add (H (b ∷ [])) (H (b ∷ c ∷ [])))
  unfolding move
  pair_value = refl
