-- A table of differences with what is told beside it: the system that it comes from, and what it is refused for.
use Rattle.std.specs.Prelude.{◌≡◌, ◌&&◌, List, ℕ, ◌*◌, ltb, leb, eqb, length}
use Rattle.refusals.specs.Refusal.{Verdict, done}
use Rattle.refusals.specs.Choice.{pick}
use Rattle.refusals.specs.Limits.{most_unknowns}
use Rattle.polynomials.specs.Poly.{Poly, value_of, back_of}
use Rattle.cubics.specs.Cubic.{Cubic, cubic_of}
use Rattle.cubics.specs.Whole.{back_cubic}
use Rattle.tables.specs.Monomials.{count_of}
use Rattle.tables.specs.Words.{poly_at}
use Rattle.tables.specs.Answers.{checked_then}
use Rattle.cubic_tables.specs.Order.{cubic_count}
use Rattle.cubic_tables.specs.Words.{cubic_at}
use Rattle.given.specs.declared.Degree.{Degree}
use Rattle.given.specs.declared.Degree.TheVariants.{Two, Three}

-- the degree as a number
abbrev pub depth_of : Degree → ℕ
depth_of Two = 2
depth_of Three = 3

-- how many monomials there are up to a degree, in n unknowns
abbrev pub count_in : Degree → ℕ → ℕ
count_in Two n = count_of n
count_in Three n = cubic_count n

-- the words of a table, and what is told beside them: n unknowns, m equations and the degree
pub record Given : Type 0 where
  pub n : ℕ
  pub m : ℕ
  pub degree : Degree
  pub words : List ℕ

-- a table of any degree, of degree 2 and of degree 3
abbrev pub table_with : Degree → ℕ → ℕ → List ℕ → Given
table_with d n m t = record { n = n; m = m; degree = d; words = t }

abbrev pub quadratic : ℕ → ℕ → List ℕ → Given
quadratic n m t = table_with Two n m t

abbrev pub cubic : ℕ → ℕ → List ℕ → Given
cubic n m t = table_with Three n m t

-- where no degree is told, the number of words tells it: at n = 1, where both lengths are the same, it is 2
abbrev pub degree_told : ℕ → ℕ → Degree
degree_told n words = pick (ltb 1 n && leb n most_unknowns && eqb words (2 * cubic_count n)) Three Two

abbrev pub table_told : ℕ → ℕ → List ℕ → Given
table_told n m t = table_with (degree_told n (length t)) n m t

-- equation e of the system behind a table of degree 2, and of degree 3
abbrev pub behind : ℕ → List ℕ → ℕ → Poly
behind n t e = back_of 3 2 (poly_at n t e)

abbrev pub cubic_behind : ℕ → List ℕ → ℕ → Cubic
cubic_behind n t e = back_cubic n (cubic_at n t e)

-- equation e of the system that a table comes from, as a function of points
abbrev pub values_in : Degree → ℕ → List ℕ → ℕ → (ℕ → ℕ) → ℕ
values_in Two n t e = value_of (behind n t e) n
values_in Three n t e = cubic_of (cubic_behind n t e) n

unfoldable pub values_of : Given → ℕ → (ℕ → ℕ) → ℕ
values_of g e = values_in g.degree g.n g.words e

-- what a table is refused for, in document 01's order, and then v
abbrev pub table_verdict : Given → Verdict → Verdict
table_verdict g v = checked_then (count_in g.degree g.n) g.n g.m g.words v

-- it is refused for nothing
abbrev pub Checked : Given → Type 0
Checked g = table_verdict g done ≡ done
