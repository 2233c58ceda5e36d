-- `lines::comment` meets its contract.
use mathlib.Core.Path.{sym, ◌∙◌}
use Rattle.lines.proofs.LineLaw.{comment_alone, comment_other}
use Rattle.lines.proofs.comment.Goals as goal

pub returns-then-eq : goal.returns-then-eq
returns-then-eq c =
    let e = sym c.if-eq.ensures in
    c.if-eq.true ∙ comment_alone c.args.line.now (rw c.as_slice.ensures at e)

pub returns-else-eq : goal.returns-else-eq
returns-else-eq c =
    let e = sym c.if-eq.ensures in
    c.begins.ensures ∙ comment_other c.args.line.now (rw c.as_slice.ensures at e)
