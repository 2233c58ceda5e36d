-- `cubic_blocks::block27` meets its contract: the first move, then the moves of slots 0 to 2.
use mathlib.Core.Path.{refl, ◌∙◌}
use Prim.Native.Nat.{◌-◌, ◌*◌, ◌^◌}
use native.Mathlib.Omega.{arith}
use lib.ListN.{set}
use Rattle.positions.specs.Positions.{positions}
use Rattle.moves.proofs.MoveLaw.{end_small}
use Rattle.blocks.proofs.PartLaw.{get3}
use Rattle.cubic_blocks.specs.Parts.{whole}
use Rattle.cubic_blocks.proofs.TurnedLaw.{fits_head, block27_is}
use Rattle.cubic_blocks.proofs.block27.Goals as goal

pub big-part-requires : goal.big-part-requires
big-part-requires c =
    let a = c.args in
    let z = c.requires.sized in
    let k = c.requires.k_value in
    let m = c.requires.place_nonzero in
    let q = c.requires.le_b in
    let f = c.requires.found_in_bounds in
    let e = end_small a.n z.small in
    record { fits = fits_head a.table.now a.n a.k a.b a.c c.pair-p.result (omega (arith, q)) z.small z.table k.0 q.1 q.2 c.pair-p.ensures.0; found_in_bounds = (f.0, omega (arith, m.2), omega (arith, c.head-h.ensures.count, f.1)) }

pub returns : goal.returns
returns c =
    let a = c.args in
    let k = c.requires.k_value in
    let m = c.requires.place_nonzero in
    let q = c.requires.le_b in
    let g = c.head-h in
    let r = c.big-part in
    record {
      state = λ others hs.
          block27_is a.table.now a.n a.k a.x r.result others a.seconds.now _ _ a.list.now _ _ a.b a.c c.pair-p.result (positions 3 (3 ^ a.c * a.rest)) g.result k.0 c.pair-p.ensures.0 m.1 q.0 m.3 c.requires.found_in_bounds.0
          (g.ensures.state (whole a.x others a.seconds.now a.list.now) refl refl refl (get3 a.x.s0 a.x.s1 a.x.s2 others a.b q.0 ∙ hs))
          (r.ensures.state (set others (a.b - 3) g.result.slot))
          c.points.ensures;
    }
