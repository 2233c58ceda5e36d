-- `positions::power` meets its contract: 3 to the 40 is below 2 to the 64.
use native.Mathlib.Nat.{pow-le-pow_right}
use native.Mathlib.Omega.{arith}
use Rattle.positions.proofs.power.Goals as goal

pub pow-requires : goal.pow-requires
pow-requires c = omega (arith, pow-le-pow_right {n = 3} (omega arith) {i = c.args.k} {j = 40} (omega arith))
