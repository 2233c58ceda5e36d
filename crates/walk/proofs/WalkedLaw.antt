-- What a loop over places keeps: the search from here, over what is left, is the search from the start.
use mathlib.Core.Path.{◌≡◌, ap, ◌∙◌}
use mathlib.Core.Bool.{Bool, true, false, not, ◌&&◌}
use mathlib.Core.List.{List}
use Prim.Native.Nat.{ℕ, ◌+◌, ◌-◌, ◌*◌, ◌^◌, ◌≤◌, ◌<◌}
use native.Mathlib.Omega.{arith}
use lib.Dec.{eqb}
use lib.ListN.{length}
use Rattle.trits.specs.declared.Vector.{Vector}
use Rattle.walks.specs.Walk.{Walk, step_of, iterate}
use Rattle.gray.specs.Numbers.{point_of}
use Rattle.moves.specs.Step.{State, walk_of}
use Rattle.positions.specs.Positions.{lowest_of}
use Rattle.moves.specs.Moves.{product, Sized}
use Rattle.walk.specs.Run.{search_of}
use Rattle.moves.proofs.MoveLaw.{end_small, first_lt}
use Rattle.moves.proofs.NearLaw.{iterate_near, counts, near}
use Rattle.walks.proofs.WalkedLaw as law

-- a state from what the code holds of it
abbrev pub state_by : ℕ → Vector → List Vector → ℕ → ℕ → List ℕ → State
state_by p v w a f l = record { place = p; value = v; slots = w; additions = a; found = f; list = l }

-- budget places from s₀ on, of which left are not walked yet, and the state s now
pub record Walked (t : List ℕ) (n e budget left : ℕ) (s₀ s : State) : Type 0 where
  pub size : length s.slots ≡ 20
  pub place : s.place ≤ e
  pub found : s.found ≤ length s.list
  pub additions : s.additions ≤ 2 * s.place
  pub list : length s.list ≡ length s₀.list
  pub went : s.place + left ≡ s₀.place + budget
  pub less : left ≤ budget
  pub state : search_of t n e left s ≡ search_of t n e budget s₀

module _ (t : List ℕ) (n e : ℕ) where
  abbrev W : Walk State
  W = walk_of n (product t n)

  -- the law of any walk that keeps counts, and back
  any : {budget left : ℕ} {s₀ s : State} → Walked t n e budget left s₀ s → law.Walked 3 W counts 2 e budget left s₀ s
  any w =
      record {
        sound = record { place = w.place; found = w.found; additions = w.additions };
        list = w.list;
        went = w.went;
        less = w.less;
        state = w.state;
      }

  this : {budget left : ℕ} {s₀ s : State} → length s.slots ≡ 20 → law.Walked 3 W counts 2 e budget left s₀ s → Walked t n e budget left s₀ s
  this k w =
      record {
        size = k;
        place = w.sound.place;
        found = w.sound.found;
        additions = w.sound.additions;
        list = w.list;
        went = w.went;
        less = w.less;
        state = w.state;
      }

  pub walked_none : (k : ℕ) (s : State) → length s.slots ≡ 20 → s.place ≤ e → s.found ≤ length s.list → s.additions ≤ 2 * s.place → Walked t n e k k s s
  walked_none k s a b c d = this a (law.walked_none 3 W counts 2 e k s record { place = b; found = c; additions = d })

  -- k places more, where there is room for them
  pub walked_more : (k budget left : ℕ) (s₀ s r : State) → Walked t n e budget left s₀ s → k ≤ left → s.place + k ≤ e → s.found + k ≤ length s.list
      → r ≡ iterate 3 (walk_of n (product t n)) k s → Walked t n e budget (left - k) s₀ r
  walked_more k budget left s₀ s r w h p l i =
      let m = iterate_near (point_of 3 n) (product t n) k s in
      this (ap (λ (x : State). length x.slots) i ∙ m.slots ∙ w.size) (law.walked_more 3 W counts 2 (near n (product t n)) e k budget left s₀ s r (any w) h p l i)

  -- what a turn of that loop may count on
  pub record Goes (k : ℕ) (s : State) : Type 0 where
    pub left : 0 < k
    pub place : s.place < e
    pub found : s.found < length s.list
    pub low : lowest_of 3 s.place < n
    pub count : s.additions + 2 < 2 ^ 64
    pub end : e ≤ 3486784401

  pub goes_on : (budget left k : ℕ) (s₀ s : State) (b : Bool) → Sized t n e → Walked t n e budget left s₀ s → k ≡ length s₀.list
      → b ≡ (not (eqb left 0) && not (eqb s.place e) && not (eqb s.found k)) → b ≡ true → Goes left s
  goes_on budget left k s₀ s b z w h g i =
      let y = law.goes_on 3 W counts 2 e budget left k s₀ s b (any w) h g i in
      let u = end_small n z.small in
      let p = y.place in
      record {
        left = y.left;
        place = p;
        found = y.found;
        low = first_lt n s.place z.some (omega (arith, z.end));
        count = omega (arith, w.additions, z.end);
        end = omega (arith, z.end);
      }

  -- the end of that loop
  pub goes_no_more : (budget left k : ℕ) (s₀ s : State) (b : Bool) → Walked t n e budget left s₀ s → k ≡ length s₀.list
      → b ≡ (not (eqb left 0) && not (eqb s.place e) && not (eqb s.found k)) → b ≡ false → s ≡ search_of t n e budget s₀
  goes_no_more budget left k s₀ s b w h g i = law.goes_no_more 3 W counts 2 e budget left k s₀ s b (any w) h g i

  -- one place more
  pub walked_one : (budget left : ℕ) (s₀ s r : State) → Walked t n e budget left s₀ s → Goes left s
      → r ≡ step_of 3 (walk_of n (product t n)) s → Walked t n e budget (left - 1) s₀ r
  unfolding iterate
  walked_one budget left s₀ s r w g i = walked_more 1 budget left s₀ s r w (omega (arith, g.left)) (omega (arith, g.place)) (omega (arith, g.found)) i
