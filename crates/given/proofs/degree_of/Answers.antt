-- `given::degree_of` meets its contract.
use mathlib.Core.Path.{◌≡◌, ap, ◌∙◌}
use native.Mathlib.Omega.{arith}
use Prim.Native.Nat.{ℕ, ◌*◌}
use borrow.Author.Tests.{lt-ltb, le-ltb, lt-leb, le-leb, eq-eqb, ne_eqb}
use Rattle.cubic_tables.specs.Order.{cubic_count}
use Rattle.given.proofs.degree_of.Goals as goal

pub returns-then-n-lt2 : goal.returns-then-n-lt2
returns-then-n-lt2 c = rw (le-ltb 1 c.args.n (omega (arith, c.if-n-lt2.true)))

pub returns-then-n : goal.returns-then-n
returns-then-n c = rw (lt-ltb 1 c.args.n (omega (arith, c.if-n-lt2.false)), lt-leb c.args.n 20 (omega (arith, c.if-n.true)))

pub returns-then-words-count : goal.returns-then-words-count
returns-then-words-count c =
    let a = c.args in
    let e : a.words ≡ 2 * cubic_count a.n = c.if-words-count.true ∙ ap (λ (x : ℕ). 2 * x) c.count.ensures.0 in
    rw (lt-ltb 1 a.n (omega (arith, c.if-n-lt2.false)), le-leb a.n 20 (omega (arith, c.if-n.false)), eq-eqb a.words (2 * cubic_count a.n) e)

pub returns : goal.returns
returns c =
    let a = c.args in
    let e = c.count.ensures.0 in
    rw (lt-ltb 1 a.n (omega (arith, c.if-n-lt2.false)), le-leb a.n 20 (omega (arith, c.if-n.false)), ne_eqb a.words (2 * cubic_count a.n) (λ z. omega (arith, c.if-words-count.false)))
