-- `opening::open` meets its contract: by the verdict on the table, then the place is judged.
use mathlib.Core.Path.{◌≡◌, sym, ap, ◌∙◌}
use Prim.Native.Nat.{◌^◌}
use native.Mathlib.Omega.{arith}
use Rattle.given.specs.Told.{told}
use Rattle.given.proofs.TableLaw.{within}
use Rattle.std.proofs.lemmas.Result.{err_from_is_err_and}
use Rattle.opening.specs.Opened.{opened_code, refused_open}
use Rattle.opening.proofs.VerdictLaw.{open_refused, open_out, open_done, open_number}
use Rattle.opening.proofs.open.Goals as goal

pub returns-in_err-check : goal.returns-in_err-check
returns-in_err-check c =
    let g = told c.args.table in
    let p = err_from_is_err_and c.from_residual.result c.from_residual.ensures.1 in
    let e = p.1 ∙ ap refused_open p.2 ∙ open_refused g c.args.place.0 _ (sym c.check.ensures.answer ∙ c.in_err-check.was) in
    record { value = e; number = ap opened_code e ∙ open_number g c.args.place.0 }

pub returns-then-place-power : goal.returns-then-place-power
returns-then-place-power c =
    let g = told c.args.table in
    let ok = sym c.check.ensures.answer ∙ c.in_ok-check.was in
    let p : c.power.result ≡ 3 ^ c.args.table.n = c.power.ensures.0 (omega (arith, (within g ok).most)) in
    let e = open_out g c.args.place.0 ok (omega (arith, c.if-place-power.true)) in
    record { value = e; number = ap opened_code e ∙ open_number g c.args.place.0 }

pub record_at-requires : goal.record_at-requires
record_at-requires c =
    let g = told c.args.table in
    let ok = sym c.check.ensures.answer ∙ c.in_ok-check.was in
    let p : c.power.result ≡ 3 ^ c.args.table.n = c.power.ensures.0 (omega (arith, (within g ok).most)) in
    (ok, omega (arith, c.if-place-power.false))

pub returns : goal.returns
returns c =
    let g = told c.args.table in
    let ok = sym c.check.ensures.answer ∙ c.in_ok-check.was in
    let p : c.power.result ≡ 3 ^ c.args.table.n = c.power.ensures.0 (omega (arith, (within g ok).most)) in
    let e = open_done g c.args.place.0 ok _ (omega (arith, c.if-place-power.false)) c.record_at.ensures in
    record { value = e; number = ap opened_code e ∙ open_number g c.args.place.0 }
