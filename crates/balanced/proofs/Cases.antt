-- Document 01's cases by hand that are about balanced numbers: each is computed.
use mathlib.Core.Path.{◌≡◌, refl}
use lib.IntN.{pos, negsuc}
use Rattle.gray.specs.Numbers.{digit, number}
use Rattle.balanced.specs.Balanced.{signed_digit, balanced_of, half_of, turned, unbalanced_of}

-- the rows of this crate: points 5, 6 and 8 balanced at n = 2, and back; the upper end at n = 20
pub record Cases : Type 0 where
  pub balanced_five : balanced_of 2 5 ≡ pos 2
  pub balanced_six : balanced_of 2 6 ≡ negsuc 2
  pub balanced_eight : balanced_of 2 8 ≡ negsuc 3
  pub back_six : unbalanced_of 2 (negsuc 2) ≡ 6
  pub end : half_of 20 ≡ 1743392200

pub cases : Cases
unfolding digit number signed_digit balanced_of half_of turned unbalanced_of
cases = record { balanced_five = refl; balanced_six = refl; balanced_eight = refl; back_six = refl; end = refl }
