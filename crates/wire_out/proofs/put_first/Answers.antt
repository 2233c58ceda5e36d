-- `wire_out::put_first` meets its contract: after i turns the first 5 + 2 i words are written.
use mathlib.Core.Path.{sym, ap, ◌∙◌}
use mathlib.Core.List.{List, ◌++◌}
use Prim.Native.Nat.{ℕ, ◌+◌, ◌*◌}
use native.Mathlib.Omega.{arith}
use lib.ListN.{length, get_or, set, length-set}
use lib.Seq.{take_all}
use Rattle.trits.specs.declared.Vector.{Vector}
use Rattle.opening.proofs.ShapeLaw.{slots_long}
use Rattle.wire.specs.Wire.{words_from}
use Rattle.wire.proofs.WireLaw.{front, five, length_five, write_turn, words_nil}
use Rattle.wire_out.proofs.put_first.Goals as goal

pub bounds-w-4 : goal.bounds-w-4
bounds-w-4 c =
    let r = c.args.r in
    let w = c.args.w.now in
    omega (
      arith,
      c.requires,
      length-set (set (set (set w 0 r.n) 1 r.m) 2 r.place.0) 3 r.value.high,
      length-set (set (set w 0 r.n) 1 r.m) 2 r.place.0,
      length-set (set w 0 r.n) 1 r.m,
      length-set w 0 r.n,
    )

pub loop-i-init : goal.loop-i-init
loop-i-init c =
    let r = c.args.r in
    let w = c.args.w.now in (
      length_five w r.n r.m r.place.0 r.value.high r.value.low ∙ c.requires,
      five w r.n r.m r.place.0 r.value.high r.value.low c.requires ∙ ap (λ (m : List ℕ). front r ++ m) (sym words_nil),
    )

pub bounds-w-i-in-loop-i : goal.bounds-w-i-in-loop-i
bounds-w-i-in-loop-i c =
    let l = c.loop-i in
    omega (arith, l.invariant.0, length-set l.w (5 + 2 * l.i) (get_or c.args.r.slots l.i (record { high = 0; low = 0 })).high)

pub loop-i-preserved : goal.loop-i-preserved
loop-i-preserved c =
    let l = c.loop-i in
    let r = c.args.r in
    let v = get_or r.slots l.i (record { high = 0; low = 0 }) in
    let g = slots_long r _ c.well_formed.0 in (
      length-set (set l.w (5 + 2 * l.i) v.high) (6 + 2 * l.i) v.low ∙ length-set l.w (5 + 2 * l.i) v.high ∙ l.invariant.0,
      write_turn (front r) l.w r.slots l.i (record { high = 0; low = 0 }) l.invariant.0 g (omega arith) l.invariant.1,
    )

pub returns : goal.returns
returns c =
    let l = c.loop-i in
    let r = c.args.r in
    let g = slots_long r _ c.well_formed.0 in
    sym (take_all (5 + 2 * l.i) l.w (omega arith)) ∙ l.invariant.1 ∙ ap (λ (m : List Vector). front r ++ words_from m) (take_all l.i r.slots (omega (arith, g)))
