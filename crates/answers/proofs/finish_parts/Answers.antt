-- `answers::finish_parts` meets its contract: each arm is a clause of the definitions.
use mathlib.Core.Path.{sym, ap, ◌∙◌}
use Rattle.outcomes.specs.Search.{Answer}
use Rattle.outcomes.specs.Search.{answer_number}
use Rattle.answers.specs.Written.{parts_bytes, answer_bytes}
use Rattle.answers.proofs.finish_parts.Goals as goal

pub returns-in-Ok : goal.returns-in-Ok
returns-in-Ok c =
    let a = c.args in
    let e = c.in-Ok.is in (
      sym (ap answer_number e),
      c.write_parts.ensures ∙ sym (ap (λ (x : Answer). parts_bytes x a.f a.s.now a.«record».now) e),
      c.write_answer.ensures ∙ sym (ap (λ (x : Answer). answer_bytes a.end x a.answer.now) e),
    )

pub returns-in-Err : goal.returns-in-Err
returns-in-Err c =
    let a = c.args in
    let e = c.in-Err.is in (
      c.number.ensures.0 ∙ sym (ap answer_number e),
      sym (ap (λ (x : Answer). parts_bytes x a.f a.s.now a.«record».now) e),
      sym (ap (λ (x : Answer). answer_bytes a.end x a.answer.now) e),
    )
