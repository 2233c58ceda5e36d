-- `opening::parts::fill` meets its contract: the parts of the record, from the coefficients that were written.
use mathlib.Core.Path.{◌∙◌}
use native.Mathlib.Omega.{arith}
use lib.ListN.{get_or}
use Rattle.given.specs.Told.{told_two}
use Rattle.given.proofs.TableLaw.{within, table_of_lem, power_small}
use Rattle.opening.proofs.OpenLaw.{opened_from}
use Rattle.opening.proofs.parts.fill.Goals as goal

pub slots-slots-requires : goal.slots-slots-requires
slots-slots-requires c = (
  (within (told_two c.args.table) c.requires.0).most,
  omega (arith, c.latest_place-q.ensures, c.requires.1, power_small (told_two c.args.table) c.requires.0),
  c.coefficients_into.auto.to ∙ c.requires.2,
)

pub returns : goal.returns
returns c =
    let n = c.args.table.n in
    let m = c.args.table.m in
    let t = c.args.table.words.now in
    opened_from n m t _ c.args.place _ _ _ (λ k. get_or c.digits_at-x.result k 0)
    (c.coefficients_into.ensures m (table_of_lem n m t c.requires.0))
    c.latest_place-q.ensures (λ k h. c.digits_at-x.ensures.0 k (omega arith) h) c.value_at-value.ensures c.slots-slots.ensures
