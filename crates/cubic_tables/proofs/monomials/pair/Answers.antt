-- `cubic_tables::monomials::pair` meets its contract.
use mathlib.Core.Path.{refl}
use Prim.Native.Nat.{ℕ, ◌+◌, ◌*◌, ◌/◌, ◌≤◌, ◌<◌}
use native.Mathlib.Omega.{arith}
use Rattle.tables.proofs.IndexLaw.{product_le, half_le}
use Rattle.cubic_tables.specs.Order.{pair_of}
use Rattle.cubic_tables.proofs.PairLaw.{pair_lt}
use Rattle.cubic_tables.proofs.monomials.pair.Goals as goal

-- the code's numbers are small
small : (n b : ℕ) → n ≤ 20 → b < n → (b * n ≤ 400) × (b * (b + 1) ≤ 420) × (b * (b + 1) / 2 ≤ b * n)
small n b p q = (product_le b n (omega arith) p, omega (arith, product_le b b (omega arith) (omega arith)), half_le n b q)

pub returns : goal.returns
unfolding pair_of
returns c =
    let l = pair_lt c.args.n c.args.b c.args.c c.requires.0 c.requires.1 c.requires.2 in
    (refl, l.0, l.1)
