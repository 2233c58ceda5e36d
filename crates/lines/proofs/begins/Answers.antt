-- `lines::begins` meets its contract.
use mathlib.Core.Path.{◌∙◌}
use Rattle.lines.proofs.LineLaw.{starts_is}
use Rattle.lines.proofs.begins.Goals as goal

pub returns : goal.returns
returns c = c.starts_with.ensures.value ∙ starts_is c.args.front.now c.args.line.now
