-- What the loop over blocks keeps: the walk so far, at a place above 0 that 27 divides.
use mathlib.Core.Path.{◌≡◌, sym, ap, ◌∙◌}
use mathlib.Core.List.{List}
use Prim.Native.Nat.{ℕ, ◌+◌, ◌-◌, ◌*◌, ◌/◌, ◌%◌, ◌^◌, ◌≤◌, ◌<◌}
use native.Mathlib.Omega.{arith}
use lib.ListN.{length, get_or, set, drop, length-drop, length-set}
use lib.Seq.{get_or-drop, drop-set-add}
use Rattle.trits.specs.declared.Vector.{Vector}
use Rattle.trits.specs.Trit.{none}
use Rattle.positions.specs.Positions.{lowest_of}
use Rattle.positions.proofs.LowestLaw.{of_lt}
use Rattle.walks.specs.Walk.{iterate}
use Rattle.moves.specs.Step.{State, walk_of}
use Rattle.blocks.specs.Parts.{whole}
use Rattle.walk.specs.Run.{part_of, state_of, search_of, Sane}
use Rattle.moves.specs.Moves.{product, Sized}
use Rattle.walk.specs.declared.Ran.{Ran}
use Rattle.walk.specs.declared.Walker.{Walker}
use Rattle.blocks.specs.declared.parts.Part.{Part}
use Rattle.moves.proofs.MoveLaw.{two, end_small}
use Rattle.blocks.proofs.PartLaw.{lift27, split3}
use Rattle.walk.proofs.WalkedLaw.{Walked, walked_none, walked_more}

-- a walker taken apart
pub apart : (r : Ran Walker) (l : List ℕ) → 3 ≤ length r.walker.slots → state_of r l ≡ whole (part_of r) (drop 3 r.walker.slots) l
apart r l h =
    ap (λ (v : List Vector). record { place = r.walker.place; value = r.walker.value; slots = v; additions = r.additions; found = r.found; list = l })
    (split3 r.walker.slots h)

pub record Kept (t : List ℕ) (n e budget left : ℕ) (l₀ l : List ℕ) (v₀ v : List Vector) (x₀ x : Part) : Type 0 where
  pub size : length v ≡ 20
  pub above : 0 < x.place
  pub aligned : x.place % 27 ≡ 0
  pub walked : Walked t n e budget left (whole x₀ (drop 3 v₀) l₀) (whole x (drop 3 v) l)

-- what a block may count on: its first position b, and what is left of its place
pub record Fits (n : ℕ) (x : Part) (b r : ℕ) : Type 0 where
  pub first : b ≡ lowest_of 3 x.place
  pub whole : x.place ≡ 3 ^ b * r
  pub low : b < n
  pub three : 3 ≤ b
  pub count : x.additions + 54 < 2 ^ 64
  pub end : x.place + 27 ≤ 3 ^ n

module _ (t : List ℕ) (n e : ℕ) (z : Sized t n e) where
  -- the loop begins
  pub kept_none : (budget : ℕ) (r : Ran Walker) (l : List ℕ) → length r.walker.slots ≡ 20 → Sane e r l → 0 < r.walker.place → r.walker.place % 27 ≡ 0
      → Kept t n e budget budget l l r.walker.slots r.walker.slots (part_of r) (part_of r)
  kept_none budget r l k s a m =
      record {
        size = k;
        above = a;
        aligned = m;
        walked =
            walked_none t n e budget (whole (part_of r) (drop 3 r.walker.slots) l)
            (omega (arith, length-drop 3 r.walker.slots)) s.place s.found s.additions;
      }

  module _ {budget left : ℕ} {l₀ l : List ℕ} {v₀ v : List Vector} {x₀ x : Part} (k : Kept t n e budget left l₀ l v₀ v x₀ x) (far : x.place + 27 ≤ e) where
    pub fits : (i r : ℕ) → i ≡ lowest_of 3 (x.place / 27) → x.place / 27 ≡ 3 ^ i * r → Fits n x (i + 3) r
    fits i r f g =
        let u = lift27 x.place i r k.above k.aligned f g in
        let h : lowest_of 3 x.place < n = of_lt 3 two n x.place k.above (omega (arith, z.end)) in
        let s = end_small n z.small in
        record {
          first = u.0;
          whole = u.1;
          low = omega (arith, u.0);
          three = omega arith;
          count = omega (arith, k.walked.additions, z.end);
          end = omega (arith, z.end);
        }

    -- a block more
    pub kept_more : 27 ≤ left → x.found + 27 ≤ length l → (b : ℕ) → b ≡ lowest_of 3 x.place → 3 ≤ b → b < n → (y : Part) (u : Vector) (l' : List ℕ)
        → ((rest : List Vector) → get_or rest (b - 3) none ≡ get_or v b none → b - 3 < length rest
        → whole y (set rest (b - 3) u) l' ≡ iterate 3 (walk_of n (product t n)) 27 (whole x rest l))
        → Kept t n e budget (left - 27) l₀ l' v₀ (set v b u) x₀ y
    kept_more room free b eb tb lb y u l' f =
        let j : 3 + (b - 3) ≡ b = omega arith in
        let d : drop 3 (set v b u) ≡ set (drop 3 v) (b - 3) u = ap (λ (m : ℕ). drop 3 (set v m u)) (sym j) ∙ drop-set-add 3 v (b - 3) u in
        let g : get_or (drop 3 v) (b - 3) none ≡ get_or v b none = get_or-drop 3 v (b - 3) none ∙ ap (λ (m : ℕ). get_or v m none) j in
        let s = f (drop 3 v) g (omega (arith, length-drop 3 v, k.size, z.small)) in
        let i = ap (λ (w : List Vector). whole y w l') d ∙ s in
        let w = walked_more t n e 27 budget left _ _ _ k.walked room far free i in
        let p : y.place ≡ x.place + 27 = omega (arith, w.went, k.walked.went) in
        record { size = length-set v b u ∙ k.size; above = omega arith; aligned = omega (arith, k.aligned); walked = w }

  -- the loop ends: the walker q is put together again
  pub record Done (budget : ℕ) (r q : Ran Walker) (l₀ l : List ℕ) : Type 0 where
    pub state : search_of t n e (budget - (q.walker.place - r.walker.place)) (state_of q l) ≡ search_of t n e budget (state_of r l₀)
    pub sane : Sane e q l
    pub from : r.walker.place ≤ q.walker.place
    pub most : q.walker.place ≤ r.walker.place + budget

  pub kept_done : {budget left : ℕ} {l₀ l : List ℕ} {v : List Vector} {x₀ x : Part} (r q : Ran Walker) → length r.walker.slots ≡ 20 → x₀ ≡ part_of r
      → Kept t n e budget left l₀ l r.walker.slots v x₀ x → state_of q l ≡ whole x (drop 3 v) l → Done budget r q l₀ l
  kept_done {budget} {left} {l₀} {l} {v} {x₀} {x} r q h o k c =
      let w = k.walked in
      let p : q.walker.place ≡ x.place = ap (λ (s : State). s.place) c in
      let b : x₀.place ≡ r.walker.place = ap (λ (y : Part). y.place) o in
      let f : q.found ≡ x.found = ap (λ (s : State). s.found) c in
      let a : q.additions ≡ x.additions = ap (λ (s : State). s.additions) c in
      let g = w.went in
      let u = w.less in
      let j : budget - (q.walker.place - r.walker.place) ≡ left = omega arith in
      record {
        state =
            ap (λ (i : ℕ). search_of t n e i (state_of q l)) j ∙ ap (search_of t n e left) c ∙ w.state
            ∙ ap (λ (y : Part). search_of t n e budget (whole y (drop 3 r.walker.slots) l₀)) o
            ∙ ap (search_of t n e budget) (sym (apart r l₀ (omega arith)));
        sane = record { place = omega (arith, w.place); found = omega (arith, w.found); additions = omega (arith, w.additions) };
        from = omega arith;
        most = omega arith;
      }
