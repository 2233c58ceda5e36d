use mathlib.Core.Path.{◌≡◌}
use Prim.Native.Nat.{ℕ, ◌+◌, ◌-◌, ◌*◌, ◌<◌, ◌≤◌}
use lib.ListN.{get_or}
use Rattle.residues.specs.Sums.{sum}
use Rattle.trits.specs.Trit.{Holds}
use Rattle.listed.specs.Lists.{Lists}
use Rattle.listed.proofs.summed.Given as goal

abbrev pub invariant-loop-t : goal.invariant-loop-t
invariant-loop-t g l = (m n i : ℕ) → (x s : ℕ → ℕ) → (h : ℕ → ℕ → ℕ) → Lists n x l.list.at l.list.turn l.list.count → i ≤ get_or l.list.at l.from 0 → Holds m s l.initial.v
    → ((e : ℕ) → sum (get_or l.list.at l.from 0 - i) (λ d. h e (i + d) * x (i + d)) ≡ 0)
    → ((u : ℕ) (v : _) → l.from ≤ u → u < l.list.count → goal.F-post g l.term u v → Holds m (λ e. h e (get_or l.list.at u 0)) v)
    → Holds m (λ e. s e + sum (get_or l.list.at l.t 0 - i) (λ d. h e (i + d) * x (i + d))) l.v
