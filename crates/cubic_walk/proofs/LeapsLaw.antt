-- What the loop over blocks keeps: the walk so far, at a place above 0 that 27 divides.
use mathlib.Core.Path.{◌≡◌, sym, ap, ◌∙◌}
use mathlib.Core.List.{List}
use Prim.Native.Nat.{ℕ, ◌+◌, ◌-◌, ◌*◌, ◌/◌, ◌%◌, ◌^◌, ◌≤◌, ◌<◌}
use native.Mathlib.Omega.{arith}
use lib.ListN.{length, get_or, set, drop, length-set}
use lib.Seq.{get_or-drop, drop-set-add}
use Rattle.trits.specs.declared.Vector.{Vector}
use Rattle.trits.specs.Trit.{none}
use Rattle.gray.specs.Numbers.{point_of}
use Rattle.positions.specs.Positions.{lowest_of}
use Rattle.positions.proofs.LowestLaw.{of_lt}
use Rattle.moves.proofs.MoveLaw.{two, end_small}
use Rattle.blocks.proofs.PartLaw.{lift27, split3, join3}
use Rattle.walks.specs.Walk.{iterate}
use Rattle.cubic_moves.specs.Step.{State, walk_of}
use Rattle.cubic_tables.specs.Words.{triple_at}
use Rattle.cubic_blocks.specs.Parts.{whole}
use Rattle.cubic_walk.specs.Run.{part_of}
use Rattle.cubic_moves.specs.Moves.{Sized}
use Rattle.cubic_walk.specs.Run.{state_of, search_of, Sane}
use Rattle.walk.specs.declared.Ran.{Ran}
use Rattle.cubic_walk.specs.declared.Walker.{Walker}
use Rattle.blocks.specs.declared.parts.Part.{Part}
use Rattle.cubic_moves.proofs.MoveLaw.{Heads, heads}
use Rattle.cubic_moves.proofs.NearLaw.{counts, step_near}
use Rattle.walks.proofs.WalkedLaw.{Walked, walked_none, walked_more}

-- a walker taken apart, and put together again
pub apart : (r : Ran Walker) (l : List ℕ) → 3 ≤ length r.walker.slots → state_of r l ≡ whole (part_of r) (drop 3 r.walker.slots) r.walker.seconds l
apart r l h =
    ap (λ (v : List Vector). record { place = r.walker.place; value = r.walker.value; slots = v; seconds = r.walker.seconds; additions = r.additions; found = r.found; list = l })
    (split3 r.walker.slots h)

pub together : (x : Part) (v : List Vector) (w l : List ℕ) → 3 ≤ length v
    → record { place = x.place; value = x.value; slots = set (set (set v 0 x.s0) 1 x.s1) 2 x.s2; seconds = w; additions = x.additions; found = x.found; list = l }
    ≡ whole x (drop 3 v) w l
together x v w l h =
    ap (λ (z : List Vector). record { place = x.place; value = x.value; slots = z; seconds = w; additions = x.additions; found = x.found; list = l })
    (join3 v x.s0 x.s1 x.s2 h)

pub record Kept (t : List ℕ) (n e budget left : ℕ) (l₀ l : List ℕ) (v₀ v : List Vector) (w₀ w : List ℕ) (x₀ x : Part) : Type 0 where
  pub size : length v ≡ 20
  pub above : 0 < x.place
  pub aligned : x.place % 27 ≡ 0
  pub walked : Walked 3 (walk_of n (triple_at t n)) counts 3 e budget left (whole x₀ (drop 3 v₀) w₀ l₀) (whole x (drop 3 v) w l)

-- what a block may count on: its first position b, what is left of its place, and its counts
pub record First (n : ℕ) (x : Part) (b r : ℕ) : Type 0 where
  pub first : b ≡ lowest_of 3 x.place
  pub whole : x.place ≡ 3 ^ b * r
  pub some : 0 < r
  pub low : b < n
  pub three : 3 ≤ b
  pub far : x.place < 3 ^ n
  pub count : x.additions + 81 < 2 ^ 64
  pub end : x.place + 27 ≤ 3 ^ n

-- and its second
pub seconds : (n : ℕ) (x : Part) (b r g y : ℕ) → First n x b r → (r ≡ 1 → ⊥) → g ≡ lowest_of 3 (r - 1) → r - 1 ≡ 3 ^ g * y → (0 < r - 1 → 0 < y) → Heads n x.place b g y
seconds n x b r g y f h e w a =
    let s = f.some in
    let z : 1 < r = omega arith in
    heads n x.place b r g y f.far f.first f.whole z e w (a (omega arith))

module _ (t : List ℕ) (n e : ℕ) (z : Sized t n e) where
  -- the loop begins
  pub kept_none : (budget : ℕ) (r : Ran Walker) (l : List ℕ) → length r.walker.slots ≡ 20 → Sane e r l → 0 < r.walker.place → r.walker.place % 27 ≡ 0
      → Kept t n e budget budget l l r.walker.slots r.walker.slots r.walker.seconds r.walker.seconds (part_of r) (part_of r)
  kept_none budget r l k s a m =
      record {
        size = k;
        above = a;
        aligned = m;
        walked =
            walked_none 3 (walk_of n (triple_at t n)) counts 3 e budget (whole (part_of r) (drop 3 r.walker.slots) r.walker.seconds l)
            record { place = s.place; found = s.found; additions = s.additions };
      }

  module _ {budget left : ℕ} {l₀ l : List ℕ} {v₀ v : List Vector} {w₀ w : List ℕ} {x₀ x : Part} (k : Kept t n e budget left l₀ l v₀ v w₀ w x₀ x) (far : x.place + 27 ≤ e) where
    pub first : (i r : ℕ) → i ≡ lowest_of 3 (x.place / 27) → x.place / 27 ≡ 3 ^ i * r → (0 < x.place / 27 → 0 < r) → First n x (i + 3) r
    first i r f g a =
        let u = lift27 x.place i r k.above k.aligned f g in
        let p : x.place < 3 ^ n = omega (arith, z.end) in
        let h : lowest_of 3 x.place < n = of_lt 3 two n x.place k.above p in
        let s = end_small n z.small in
        record {
          first = u.0;
          whole = u.1;
          some = a (omega (arith, k.above, k.aligned));
          low = omega (arith, u.0);
          three = omega arith;
          far = p;
          count = omega (arith, k.walked.sound.additions, z.end);
          end = omega (arith, z.end);
        }

    -- a block more
    pub kept_more : 27 ≤ left → x.found + 27 ≤ length l → (b : ℕ) → 3 ≤ b → (y : Part) (u : Vector) (w' l' : List ℕ)
        → ((rest : List Vector) → get_or rest (b - 3) none ≡ get_or v b none → whole y (set rest (b - 3) u) w' l' ≡ iterate 3 (walk_of n (triple_at t n)) 27 (whole x rest w l))
        → Kept t n e budget (left - 27) l₀ l' v₀ (set v b u) w₀ w' x₀ y
    kept_more room free b tb y u w' l' f =
        let j : 3 + (b - 3) ≡ b = omega arith in
        let d : drop 3 (set v b u) ≡ set (drop 3 v) (b - 3) u = ap (λ (m : ℕ). drop 3 (set v m u)) (sym j) ∙ drop-set-add 3 v (b - 3) u in
        let g : get_or (drop 3 v) (b - 3) none ≡ get_or v b none = get_or-drop 3 v (b - 3) none ∙ ap (λ (m : ℕ). get_or v m none) j in
        let i = ap (λ (q : List Vector). whole y q w' l') d ∙ f (drop 3 v) g in
        let m = walked_more 3 (walk_of n (triple_at t n)) counts 3 (step_near (point_of 3 n) (triple_at t n)) e 27 budget left _ _ _ k.walked room far free i in
        let p : y.place ≡ x.place + 27 = omega (arith, m.went, k.walked.went) in
        record { size = length-set v b u ∙ k.size; above = omega arith; aligned = omega (arith, k.aligned); walked = m }

  -- the loop ends: the walker q is put together again
  pub record Done (budget : ℕ) (r q : Ran Walker) (l₀ l : List ℕ) : Type 0 where
    pub state : search_of t n e (budget - (q.walker.place - r.walker.place)) (state_of q l) ≡ search_of t n e budget (state_of r l₀)
    pub sane : Sane e q l
    pub from : r.walker.place ≤ q.walker.place
    pub most : q.walker.place ≤ r.walker.place + budget

  pub kept_done : {budget left : ℕ} {l₀ l : List ℕ} {v : List Vector} {w : List ℕ} {x₀ x : Part} (r q : Ran Walker) → length r.walker.slots ≡ 20 → x₀ ≡ part_of r
      → Kept t n e budget left l₀ l r.walker.slots v r.walker.seconds w x₀ x → state_of q l ≡ whole x (drop 3 v) w l → Done budget r q l₀ l
  kept_done {budget} {left} {l₀} {l} {v} {w} {x₀} {x} r q h o k c =
      let m = k.walked in
      let p : q.walker.place ≡ x.place = ap (λ (s : State). s.place) c in
      let b : x₀.place ≡ r.walker.place = ap (λ (y : Part). y.place) o in
      let f : q.found ≡ x.found = ap (λ (s : State). s.found) c in
      let a : q.additions ≡ x.additions = ap (λ (s : State). s.additions) c in
      let g = m.went in
      let u = m.less in
      let j : budget - (q.walker.place - r.walker.place) ≡ left = omega arith in
      record {
        state =
            ap (λ (i : ℕ). search_of t n e i (state_of q l)) j ∙ ap (search_of t n e left) c ∙ m.state
            ∙ ap (λ (y : Part). search_of t n e budget (whole y (drop 3 r.walker.slots) r.walker.seconds l₀)) o
            ∙ ap (search_of t n e budget) (sym (apart r l₀ (omega arith)));
        sane = record { place = omega (arith, m.sound.place); found = omega (arith, m.sound.found); additions = omega (arith, m.sound.additions) };
        from = omega arith;
        most = omega arith;
      }
