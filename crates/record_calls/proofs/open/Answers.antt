-- `record_calls::open` meets its contract: the number of what was said.
use mathlib.Core.Path.{ap, ◌∙◌}
use Rattle.refusals.specs.Refusal.{code_of}
use Rattle.record_calls.proofs.open.Goals as goal

pub returns : goal.returns
returns c = (c.code.ensures ∙ ap code_of c.put.ensures.0, c.put.ensures.1)
