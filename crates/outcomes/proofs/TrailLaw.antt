-- The walk of the system behind a table: its end, what it lists and what its places cost.
use mathlib.Core.Path.{◌≡◌, refl}
use Prim.Native.Nat.{ℕ, ◌^◌, ◌≤◌, ◌<◌}
use native.Mathlib.Omega.{arith}
use Rattle.gray.proofs.MapLaw.{point_lt}
use Rattle.given.specs.declared.Degree.{Degree}
use Rattle.given.specs.declared.Degree.TheVariants.{Two, Three}
use Rattle.given.specs.Given.{Given, depth_of}
use Rattle.opening.specs.Opened.{opened_at}
use Rattle.opening.proofs.PlaceLaw.{two}
use Rattle.outcomes.specs.Search.{trail_behind}

depth_le : (d : Degree) → depth_of d ≤ 3
depth_le Two = omega arith
depth_le Three = omega arith

module _ (g : Given) where
  pub end_is : (trail_behind g).end ≡ 3 ^ g.n
  unfolding trail_behind
  end_is = refl

  pub entry_lt : (p : ℕ) → (trail_behind g).entry p < 3 ^ g.n
  unfolding trail_behind
  entry_lt p = point_lt 3 two g.n p

  pub cost_le : (p : ℕ) → (trail_behind g).cost p ≤ depth_of g.degree
  unfolding trail_behind
  cost_le p = omega arith

  -- three additions at most
  pub cost_three : (p : ℕ) → (trail_behind g).cost p ≤ 3
  cost_three p = omega (arith, cost_le p, depth_le g.degree)

  pub place_opened : (p : ℕ) → (opened_at g p).place.0 ≡ p
  unfolding opened_at
  place_opened p = refl
