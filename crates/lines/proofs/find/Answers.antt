-- `lines::find` meets its contract.
use Rattle.std.proofs.Common.{◌≡◌, sym, ◌∙◌, arith, rules}
use Rattle.std.proofs.lemmas.Iterator.{IsFirst-from_position, YieldsList-from_slice}
use borrow.Author.Tests.{tests}
use Rattle.lines.specs.Lines.{first_of}
use Rattle.lines.proofs.LineLaw.{first_found, first_le}
use Rattle.lines.proofs.find.Goals as goal

pub returns : goal.returns
returns c =
    let b = c.args.b in
    let s = c.args.bytes.now in
    let f = first_found b s c.position.result (IsFirst-from_position _ _ c.position.result (λ x. x ≡ b) (λ x. x ≡ b → ⊥) c.position.ensures.ran (YieldsList-from_slice s cc) (λ x q k. search (rules, tests)) (λ x q k. search (rules, tests))) in
    let e : c.unwrap_or.result ≡ first_of b s = c.unwrap_or.ensures ∙ sym f in
    (e, omega (arith, e, first_le b s))
