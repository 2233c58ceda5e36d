-- What the steps of writing a graph's equations say to each other.
use Rattle.std.specs.Prelude.{◌≡◌, List, ℕ, suc, length}
use Rattle.trits.specs.declared.Vector.{Vector}
use Rattle.trits.specs.Words.{Put}
use Rattle.polynomials.specs.Poly.{Poly}
use Rattle.tables.specs.Words.{entry, put_at, words_of}
use Rattle.equations.specs.Equations.{edge_poly}

-- a table with one trit set: coefficient k of equation e is t modulo 3
pub record Marked (old : List ℕ) (k e t : ℕ) (new : List ℕ) : Type 0 where
  pub vector : Vector
  pub put : Put (entry old k) e t vector
  pub is : new ≡ put_at old k vector

-- a table of e equations gets one more, that of an edge
pub record Joined (n a b e : ℕ) (old new : List ℕ) : Type 0 where
  pub size : length new ≡ length old
  pub words : (F : ℕ → Poly) → F e ≡ edge_poly a b → old ≡ words_of n e F → new ≡ words_of n (suc e) F
