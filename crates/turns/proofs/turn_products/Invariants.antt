use mathlib.Core.Path.{◌≡◌}
use mathlib.Core.List.{List}
use Prim.Native.Nat.{ℕ, ◌+◌, ◌-◌}
use Rattle.trits.specs.Trit.{of_trits}
use Rattle.tables.specs.Monomials.{index_of}
use Rattle.tables.specs.Words.{Table, Written}
use Rattle.turns.specs.Parts.{Products}
use Rattle.turns.proofs.turn_products.Given as goal

abbrev pub invariant-loop-j : goal.invariant-loop-j
invariant-loop-j l = (m : ℕ) → (f : ℕ → ℕ) → (g : List ℕ) → Table l.n m l.from → l.step ≡ of_trits m f
    → Products l.n m l.i l.from f g → Written g (index_of l.n l.i l.i + 1) (index_of l.n l.i l.i + (l.j - l.i)) l.initial.to l.to
