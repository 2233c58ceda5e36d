-- `blocks::block27` meets its contract: the first move, then the moves of slots 0 to 2.
use mathlib.Core.Path.{refl, ◌∙◌}
use Prim.Native.Nat.{◌-◌, ◌≤◌, ◌<◌}
use native.Mathlib.Omega.{arith}
use lib.ListN.{set}
use Rattle.positions.specs.Positions.{lowest_of}
use Rattle.positions.proofs.LowestLaw.{of_lt}
use Rattle.blocks.specs.Parts.{whole}
use Rattle.moves.specs.Moves.{product}
use Rattle.moves.proofs.MoveLaw.{two, end_small}
use Rattle.blocks.proofs.PartLaw.{low27, block27_is, get3}
use Rattle.blocks.proofs.block27.Goals as goal

pub entry-t0h-requires : goal.entry-t0h-requires
entry-t0h-requires c =
    let a = c.args in
    let z = c.requires.sized in
    let q = c.requires.place_nonzero in
    let h : lowest_of 3 a.x.place < a.n = of_lt 3 two a.n a.x.place q.0 (omega (arith, q)) in
    let t : 3 ≤ lowest_of 3 a.x.place = low27 a.x.place q.0 q.1 in
    (z.small, omega (arith, q), omega (arith, q), z.table)

pub entry-t1h-requires : goal.entry-t1h-requires
entry-t1h-requires c =
    let a = c.args in
    let z = c.requires.sized in
    let q = c.requires.place_nonzero in
    let h : lowest_of 3 a.x.place < a.n = of_lt 3 two a.n a.x.place q.0 (omega (arith, q)) in
    let t : 3 ≤ lowest_of 3 a.x.place = low27 a.x.place q.0 q.1 in
    (z.small, omega (arith, q), omega (arith, q), z.table)

pub entry-t2h-requires : goal.entry-t2h-requires
entry-t2h-requires c =
    let a = c.args in
    let z = c.requires.sized in
    let q = c.requires.place_nonzero in
    let h : lowest_of 3 a.x.place < a.n = of_lt 3 two a.n a.x.place q.0 (omega (arith, q)) in
    let t : 3 ≤ lowest_of 3 a.x.place = low27 a.x.place q.0 q.1 in
    (z.small, omega (arith, q), omega (arith, q), z.table)

pub big-part-requires : goal.big-part-requires
big-part-requires c =
    let a = c.args in
    let z = c.requires.sized in
    let q = c.requires.place_nonzero in
    let h : lowest_of 3 a.x.place < a.n = of_lt 3 two a.n a.x.place q.0 (omega (arith, q)) in
    let t : 3 ≤ lowest_of 3 a.x.place = low27 a.x.place q.0 q.1 in
    let e = end_small a.n z.small in
    (c.requires.found_in_bounds.0, omega (arith, q), omega (arith, c.head-h.ensures.count, c.requires.found_in_bounds))

pub points-requires : goal.points-requires
points-requires c =
    let r = c.big-part in
    let a = c.args in
    let z = c.requires.sized in
    let q = c.requires.place_nonzero in
    let h : lowest_of 3 a.x.place < a.n = of_lt 3 two a.n a.x.place q.0 (omega (arith, q)) in
    let t : 3 ≤ lowest_of 3 a.x.place = low27 a.x.place q.0 q.1 in
    (omega arith, z.small, omega (arith, r.ensures.went.found, r.auto, c.requires.found_in_bounds.0))

pub returns : goal.returns
returns c =
    let a = c.args in
    let z = c.requires.sized in
    let q = c.requires.place_nonzero in
    let h : lowest_of 3 a.x.place < a.n = of_lt 3 two a.n a.x.place q.0 (omega (arith, q)) in
    let t : 3 ≤ lowest_of 3 a.x.place = low27 a.x.place q.0 q.1 in
    let g = c.head-h in
    let r = c.big-part in
    let l = a.list.now in
    let b = a.b in
    let u : 3 ≤ b = omega (arith, q) in
    record {
      state = λ rest hs hl.
          let m = g.ensures.state (whole a.x rest l) refl refl (get3 a.x.s0 a.x.s1 a.x.s2 rest b u ∙ hs) (omega arith) in
          block27_is a.n (product a.table.now a.n) a.x r.result rest l _ _ b g.result q.0 q.1 q.3 c.requires.found_in_bounds.0 m
          (r.ensures.state (set rest (b - 3) g.result.slot) ∙ rw (c.entry-t0h.ensures, c.entry-t1h.ensures, c.entry-t2h.ensures, c.requires.top_value))
          c.points.ensures;
    }
