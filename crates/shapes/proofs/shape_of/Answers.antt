-- `shapes::shape_of` meets its contract.
use mathlib.Core.Path.{sym, ap, ◌∙◌}
use Rattle.lines.specs.Lines.{pair_in}
use Rattle.shapes.specs.Shapes.{problem_front, edge_front, as_problem, as_edge}
use Rattle.lines.proofs.LineLaw.{starts_long, rest_is}
use Rattle.shapes.proofs.ShapeLaw.{shape_comment, shape_problem, shape_edge, shape_unknown}
use Rattle.shapes.proofs.shape_of.Goals as goal

pub returns-then-comment : goal.returns-then-comment
returns-then-comment c = shape_comment c.args.line.now (sym c.comment.ensures ∙ c.if-comment.true)

pub slice_bounds-pair_in-count : goal.slice_bounds-pair_in-count
slice_bounds-pair_in-count c = starts_long problem_front c.args.line.now (sym c.begins.ensures ∙ c.if-begins.true)

pub slice_bounds-pair_in-start : goal.slice_bounds-pair_in-start
slice_bounds-pair_in-start c = starts_long problem_front c.args.line.now (sym c.begins.ensures ∙ c.if-begins.true)

pub returns-then-begins : goal.returns-then-begins
returns-then-begins c =
    let s = c.args.line.now in
    c.problem_line.ensures ∙ ap as_problem (c.pair_in.ensures ∙ ap pair_in (rest_is s 7)) ∙ shape_problem s (sym c.comment.ensures ∙ c.if-comment.false) (sym c.begins.ensures ∙ c.if-begins.true)

pub slice_bounds-pair_in-count-then-begins-2 : goal.slice_bounds-pair_in-count-then-begins-2
slice_bounds-pair_in-count-then-begins-2 c = starts_long edge_front c.args.line.now (sym c.begins-2.ensures ∙ c.if-begins-2.true)

pub slice_bounds-pair_in-start-then-begins-2 : goal.slice_bounds-pair_in-start-then-begins-2
slice_bounds-pair_in-start-then-begins-2 c = starts_long edge_front c.args.line.now (sym c.begins-2.ensures ∙ c.if-begins-2.true)

pub returns-then-begins-2 : goal.returns-then-begins-2
returns-then-begins-2 c =
    let s = c.args.line.now in
    c.edge_line.ensures ∙ ap as_edge (c.pair_in-then-begins-2.ensures ∙ ap pair_in (rest_is s 2)) ∙ shape_edge s (sym c.comment.ensures ∙ c.if-comment.false) (sym c.begins.ensures ∙ c.if-begins.false) (sym c.begins-2.ensures ∙ c.if-begins-2.true)

pub returns : goal.returns
returns c = shape_unknown c.args.line.now (sym c.comment.ensures ∙ c.if-comment.false) (sym c.begins.ensures ∙ c.if-begins.false) (sym c.begins-2.ensures ∙ c.if-begins-2.false)
