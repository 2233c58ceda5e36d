-- What a block is, written out: the same law at base 3 and at base 5, and for a move that looks at any number of positions.
use mathlib.Core.Path.{◌≡◌, refl}
use mathlib.Core.List.{List, ◌∷◌}
use Prim.Native.Nat.{ℕ}
use Rattle.positions.specs.Positions.{reps}
use Rattle.walks.specs.Walk.{Walk, turns, block}

module _ {S : Type 0} (W : Walk S) (ps : List ℕ) (s : S) where
  pub three_is : block 3 W 1 ps s ≡ W.note (W.move (0 ∷ 0 ∷ ps) (W.note (W.move (0 ∷ ps) (W.note s))))
  unfolding block turns reps
  three_is = refl

  pub nine_is : block 3 W 2 ps s ≡ block 3 W 1 (1 ∷ 1 ∷ ps) (W.move (1 ∷ 1 ∷ ps) (block 3 W 1 (1 ∷ ps) (W.move (1 ∷ ps) (block 3 W 1 ps s))))
  unfolding block turns reps
  nine_is = refl

  pub five_is : block 5 W 1 ps s
      ≡ W.note (W.move (0 ∷ 0 ∷ 0 ∷ 0 ∷ ps) (W.note (W.move (0 ∷ 0 ∷ 0 ∷ ps) (W.note (W.move (0 ∷ 0 ∷ ps) (W.note (W.move (0 ∷ ps) (W.note s))))))))
  unfolding block turns reps
  five_is = refl
