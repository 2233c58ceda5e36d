-- The move keeps what is held: over anything that stands for numbers, one of each equation, and is added as they are.
use mathlib.Core.Path.{◌≡◌, refl, sym, ap, ◌∙◌}
use mathlib.Core.Bool.{Bool, true, false, ◌&&◌}
use mathlib.Core.List.{List, [], ◌∷◌, ◌++◌}
use mathlib.Core.Logic.{by_cases}
use Prim.Native.Nat.{ℕ, zero, suc, ◌+◌, ◌<◌, ◌≤◌}
use native.Mathlib.Decide.{ℕ_discrete}
use native.Mathlib.Omega.{arith}
use lib.Dec.{eqb}
use lib.ListN.{length, take}
use borrow.Author.Tests.{ne_eqb}
use Rattle.residues.proofs.SumLaw.{same_self, same_other}
use Rattle.residues.proofs.ModLaw.{Cong, cof, csym}
use Rattle.positions.specs.Positions.{positions}
use Rattle.held.specs.Held.{begins, held, move}
use Rattle.held.proofs.HeldLaw.{held_other, held_last, held_step}

pub move_self : {A : Type 0} (add : A → A → A) (d b : ℕ) (ps : List ℕ) (H : List ℕ → A) (L : List ℕ) → move add (suc d) (b ∷ ps) H (b ∷ L) ≡ move add d ps (λ M. H (b ∷ M)) L
unfolding move
move_self add d b ps H L = rw (same_self b, move)

pub move_other : {A : Type 0} (add : A → A → A) (d b c : ℕ) (ps : List ℕ) (H : List ℕ → A) (L : List ℕ) → (b ≡ c → ⊥) → move add (suc d) (b ∷ ps) H (c ∷ L) ≡ H (c ∷ L)
unfolding move
move_other add d b c ps H L n = rw (same_other b c n, move)

-- a place without positions moves nothing
pub move_none : {A : Type 0} (add : A → A → A) (d : ℕ) (H : List ℕ → A) (L : List ℕ) → move add d [] H L ≡ H L
unfolding move
move_none add zero H L = refl
move_none add (suc d) H L = refl

-- the table's entries do not move
pub move_leaf : {A : Type 0} (add : A → A → A) (d : ℕ) (ps : List ℕ) (H : List ℕ → A) (L : List ℕ) → d ≤ length L → move add d ps H L ≡ H L
unfolding move
move_leaf add zero ps H L l = refl
move_leaf add (suc d) [] H L l = refl
move_leaf add (suc d) (b ∷ ps) H [] l = absurd (omega arith)
move_leaf add (suc d) (b ∷ ps) H (c ∷ L) l =
    by_cases (ℕ_discrete b c)
    (λ (e : b ≡ c). let r = move_leaf add d ps (λ M. H (b ∷ M)) L (omega arith) in rw (← e) (move_self add d b ps H L ∙ r))
    (λ n. move_other add d b c ps H L n)

-- the only thing to know of the values: what is held for d positions does not move
abbrev pub Settled : ℕ → (ℕ → ℕ) → ℕ → ℕ → Type 0
Settled q v d p = (L : List ℕ) → length L ≡ d → Cong q (held q v L (suc p)) (held q v L p)

-- x stands for a number modulo q of each equation e, and add adds them
module _ (q : ℕ) {A : Type 0} (add : A → A → A) (Shows : (ℕ → ℕ) → A → Type 0)
    (plus : (f g : ℕ → ℕ) (x y : A) → Shows f x → Shows g y → Shows (λ e. f e + g e) (add x y))
    (like : (f g : ℕ → ℕ) (x : A) → ((e : ℕ) → Cong q (f e) (g e)) → Shows f x → Shows g x) where
  -- G is held before a place with the positions ps, and N after it, in degree d
  record Turns (d : ℕ) (ps : List ℕ) (G N : List ℕ → ℕ → ℕ) : Type 0 where
    step : (L : List ℕ) (c : ℕ) (rest : List ℕ) → ps ≡ L ++ c ∷ rest → length L < d → (e : ℕ) → Cong q (N L e) (G L e + N (L ++ c ∷ []) e)
    last : (e : ℕ) → Cong q (N ps e) (G ps e)
    other : (L : List ℕ) → begins L ps ≡ false → (e : ℕ) → Cong q (N L e) (G L e)
    leaf : (L : List ℕ) → length L ≡ d → (e : ℕ) → Cong q (N L e) (G L e)

  deeper : (d b : ℕ) (ps : List ℕ) (G N : List ℕ → ℕ → ℕ) → Turns (suc d) (b ∷ ps) G N → Turns d ps (λ L. G (b ∷ L)) (λ L. N (b ∷ L))
  unfolding begins
  deeper d b ps G N t =
      record {
        step = λ L c rest e l. t.step (b ∷ L) c rest (ap (λ (x : List ℕ). b ∷ x) e) (omega arith);
        last = t.last;
        other = λ L e. t.other (b ∷ L) (ap (λ (x : Bool). eqb b b && x) e ∙ ends (eqb b b));
        leaf = λ L e. t.leaf (b ∷ L) (ap suc e);
      }
    where
      ends : (t : Bool) → (t && false) ≡ false
      ends true = refl
      ends false = refl

  -- K are the lists that are kept: the first positions of the place among them
  carried : (d : ℕ) (ps : List ℕ) (H : List ℕ → A) (G N : List ℕ → ℕ → ℕ) (K : List ℕ → Type 0) → Turns d ps G N
      → ((k : ℕ) → k ≤ d → K (take k ps)) → ((L : List ℕ) → length L ≤ d → K L → Shows (G L) (H L))
      → (L : List ℕ) → length L ≤ d → K L → Shows (N L) (move add d ps H L)
  unfolding move begins
  carried zero ps H G N K t f h [] l k = like (G []) (N []) (H []) (λ e. csym (t.leaf [] refl e)) (h [] l k)
  carried zero ps H G N K t f h (c ∷ L) l k = absurd (omega arith)
  carried (suc d) [] H G N K t f h [] l k = like (G []) (N []) (H []) (λ e. csym (t.last e)) (h [] l k)
  carried (suc d) [] H G N K t f h (c ∷ L) l k = like (G (c ∷ L)) (N (c ∷ L)) (H (c ∷ L)) (λ e. csym (t.other (c ∷ L) refl e)) (h (c ∷ L) l k)
  carried (suc d) (b ∷ ps) H G N K t f h [] l k =
      let r = move add d ps (λ M. H (b ∷ M)) [] in
      let one : Shows (N (b ∷ [])) r
      = carried d ps (λ M. H (b ∷ M)) (λ M. G (b ∷ M)) (λ M. N (b ∷ M)) (λ M. K (b ∷ M)) (deeper d b ps G N t) (λ j g. f (suc j) (omega arith)) (λ M g m. h (b ∷ M) (omega arith) m)
      [] (omega arith) (f 1 (omega arith)) in
      like (λ e. G [] e + N (b ∷ []) e) (N []) (add (H []) r) (λ e. csym (t.step [] b ps refl (omega arith) e)) (plus (G []) (N (b ∷ [])) (H []) r (h [] l k) one)
  carried (suc d) (b ∷ ps) H G N K t f h (c ∷ L) l k =
      by_cases (ℕ_discrete b c)
      (λ (e : b ≡ c).
      let g : K (b ∷ L) = rw e k in
      let r : Shows (N (b ∷ L)) (move add d ps (λ M. H (b ∷ M)) L)
      = carried d ps (λ M. H (b ∷ M)) (λ M. G (b ∷ M)) (λ M. N (b ∷ M)) (λ M. K (b ∷ M)) (deeper d b ps G N t) (λ j u. f (suc j) (omega arith)) (λ M u m. h (b ∷ M) (omega arith) m)
      L (omega arith) g in
      let s : Shows (N (b ∷ L)) (move add (suc d) (b ∷ ps) H (b ∷ L)) = rw (move_self add d b ps H L) r in
      rw (← e) s)
      (λ n.
      let o : (eqb c b && begins L ps) ≡ false = ap (λ (x : Bool). x && begins L ps) (ne_eqb c b (λ e. n (sym e))) in
      let s : Shows (N (c ∷ L)) (H (c ∷ L)) = like (G (c ∷ L)) (N (c ∷ L)) (H (c ∷ L)) (λ e. csym (t.other (c ∷ L) o e)) (h (c ∷ L) l k) in
      rw (move_other add d b c ps H L n) s)

  -- ---- the walk: one place more, for the values v e of each equation
  module _ (two : 1 < q) (v : ℕ → ℕ → ℕ) where
    held_turns : (d p : ℕ) → ((e : ℕ) → Settled q (v e) d p) → Turns d (positions q (suc p)) (λ L e. held q (v e) L p) (λ L e. held q (v e) L (suc p))
    held_turns d p s =
        record {
          step = λ L c rest i l e. held_step q two (v e) L c rest p i;
          last = λ e. cof (held_last q two (v e) (positions q (suc p)) p refl);
          other = λ L i e. cof (held_other q two (v e) L p i);
          leaf = λ L i e. s e L i;
        }

    pub move_held : (d p : ℕ) (H : List ℕ → A) (K : List ℕ → Type 0) → ((e : ℕ) → Settled q (v e) d p)
        → ((k : ℕ) → k ≤ d → K (take k (positions q (suc p))))
        → ((L : List ℕ) → length L ≤ d → K L → Shows (λ e. held q (v e) L p) (H L))
        → (L : List ℕ) → length L ≤ d → K L → Shows (λ e. held q (v e) L (suc p)) (move add d (positions q (suc p)) H L)
    move_held d p H K s f h L l k = carried d (positions q (suc p)) H (λ M e. held q (v e) M p) (λ M e. held q (v e) M (suc p)) K (held_turns d p s) f h L l k
