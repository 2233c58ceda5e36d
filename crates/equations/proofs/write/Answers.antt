-- `equations::write` meets its contract: the table so far is that of the edges so far.
use mathlib.Core.Path.{sym, ap, ap₂, ◌∙◌}
use Prim.Native.Nat.{ℕ, ◌-◌, ◌*◌}
use native.Mathlib.Numerals.{add-one}
use native.Mathlib.Omega.{arith}
use lib.ListN.{length, get_or, replicate, length-replicate}
use Rattle.tables.specs.Monomials.{count_of}
use Rattle.equations.specs.Equations.{edge_poly, system_of}
use Rattle.graphs.specs.Scans.{edges_of}
use Rattle.graphs.proofs.ReadLaw.{ends_at}
use Rattle.graphs.proofs.SoundLaw.{ends_few, ends_edged}
use Rattle.equations.proofs.WriteLaw.{words_none, system_at, in_order}
use Rattle.equations.proofs.write.Goals as goal

pub loop-e-init : goal.loop-e-init
loop-e-init c =
    let g = c.args.g in
    let p = c.requires.0 in
    let t = c.fill.ensures.after (λ y h. h) ∙ ap (λ (k : ℕ). replicate k 0) p in
    (ap length t ∙ length-replicate (2 * count_of g.vertices) 0, t ∙ words_none g.vertices (system_of (edges_of g)))

pub bounds-g-k : goal.bounds-g-k
bounds-g-k c =
    let g = c.args.g in
    let d = c.requires.1 in
    let l = c.loop-e in
    omega (arith, ends_few g.vertices g.count g.one g.other d)

pub bounds-g-k-in-loop-e : goal.bounds-g-k-in-loop-e
bounds-g-k-in-loop-e c =
    let g = c.args.g in
    let d = c.requires.1 in
    let l = c.loop-e in
    omega (arith, ends_few g.vertices g.count g.one g.other d)

pub overflow_sub-min : goal.overflow_sub-min
overflow_sub-min c =
    let g = c.args.g in
    let d = c.requires.1 in
    let l = c.loop-e in
    let o = in_order g.vertices (get_or g.one l.e 0) (get_or g.other l.e 0) (ends_edged g.vertices g.count g.one g.other d l.e (omega arith)) in
    omega (arith, c.min.ensures, o.low)

pub overflow_sub-max : goal.overflow_sub-max
overflow_sub-max c =
    let g = c.args.g in
    let d = c.requires.1 in
    let l = c.loop-e in
    let o = in_order g.vertices (get_or g.one l.e 0) (get_or g.other l.e 0) (ends_edged g.vertices g.count g.one g.other d l.e (omega arith)) in
    omega (arith, c.max.ensures, o.high)

pub put_edge-requires : goal.put_edge-requires
put_edge-requires c =
    let g = c.args.g in
    let d = c.requires.1 in
    let l = c.loop-e in
    let o = in_order g.vertices (get_or g.one l.e 0) (get_or g.other l.e 0) (ends_edged g.vertices g.count g.one g.other d l.e (omega arith)) in
    (d.most, omega (arith, c.min.ensures, c.max.ensures, o.apart), omega (arith, c.max.ensures, o.most), omega (arith, ends_few g.vertices g.count g.one g.other d), l.invariant.0)

pub loop-e-preserved : goal.loop-e-preserved
loop-e-preserved c =
    let g = c.args.g in
    let d = c.requires.1 in
    let l = c.loop-e in
    let o = in_order g.vertices (get_or g.one l.e 0) (get_or g.other l.e 0) (ends_edged g.vertices g.count g.one g.other d l.e (omega arith)) in
    let x = get_or g.one l.e 0 in
    let y = get_or g.other l.e 0 in
    let j = c.put_edge.ensures in
    let q = system_at (edges_of g) l.e x y (ends_at g.count g.one g.other l.e (omega arith)) (ends_edged g.vertices g.count g.one g.other d l.e (omega arith)).apart ∙ ap₂ (λ (u w : ℕ). edge_poly (u - 1) (w - 1)) (sym c.min.ensures) (sym c.max.ensures) in
    (j.size ∙ l.invariant.0, rw (add-one l.e) (j.words (system_of (edges_of g)) q l.invariant.1))
