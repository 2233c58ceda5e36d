-- The shape of a line, test by test; and that a line with a carriage return that is no comment has none.
use mathlib.Core.Path.{◌≡◌, refl, sym, ap, ◌∙◌}
use mathlib.Core.Bool.{true, false, Bool-discrete}
use mathlib.Core.List.{List}
use mathlib.Core.Logic.{by_cases}
use Prim.Native.Nat.{ℕ}
use lib.ListN.{drop}
use Rattle.lines.specs.Lines.{has, pair_in, starts, is_comment}
use Rattle.lines.proofs.ReturnLaw.{other_true, pair_return, has_rest}
use Rattle.shapes.specs.declared.Shape.TheVariants.{Comment, Unknown}
use Rattle.shapes.specs.Shapes.{problem_front, edge_front, as_problem, as_edge, shape_of}

module _ (s : List ℕ) where
  pub shape_comment : is_comment s ≡ true → Comment ≡ shape_of s
  unfolding shape_of
  shape_comment e = rw e

  pub shape_problem : is_comment s ≡ false → starts problem_front s ≡ true → as_problem (pair_in (drop 7 s)) ≡ shape_of s
  unfolding shape_of
  shape_problem e p = rw (e, p)

  pub shape_edge : is_comment s ≡ false → starts problem_front s ≡ false → starts edge_front s ≡ true
      → as_edge (pair_in (drop 2 s)) ≡ shape_of s
  unfolding shape_of
  shape_edge e p q = rw (e, p, q)

  pub shape_unknown : is_comment s ≡ false → starts problem_front s ≡ false → starts edge_front s ≡ false
      → Unknown ≡ shape_of s
  unfolding shape_of
  shape_unknown e p q = rw (e, p, q)

-- ---- carriage returns
problem_none : has 13 problem_front ≡ false
unfolding has
problem_none = refl

edge_none : has 13 edge_front ≡ false
unfolding has
edge_none = refl

pub return_unknown : (s : List ℕ) → has 13 s ≡ true → is_comment s ≡ false → shape_of s ≡ Unknown
return_unknown s h n =
    by_cases (Bool-discrete (starts problem_front s) true)
    (λ p. sym (shape_problem s n p) ∙ ap as_problem (pair_return (drop 7 s) (has_rest 13 problem_front s p problem_none h)))
    (λ p.
    let np = other_true (starts problem_front s) p in
    by_cases (Bool-discrete (starts edge_front s) true)
    (λ q. sym (shape_edge s n np q) ∙ ap as_edge (pair_return (drop 2 s) (has_rest 13 edge_front s q edge_none h)))
    (λ q. sym (shape_unknown s n np (other_true (starts edge_front s) q))))
