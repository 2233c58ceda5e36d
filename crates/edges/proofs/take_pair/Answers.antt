-- `edges::take_pair` meets its contract: the flag says whether the edge is new.
use mathlib.Core.Path.{◌≡◌, refl, sym, ◌∙◌}
use mathlib.Core.Bool.{true, false}
use Prim.Native.Nat.{◌+◌, ◌<◌}
use native.Mathlib.Omega.{arith}
use Rattle.graphs.specs.declared.Graph.{Graph}
use Rattle.graphs.specs.Edges.{has_edge}
use Rattle.graphs.specs.Reading.{edges_most}
use Rattle.graphs.specs.Scans.{edges_of}
use Rattle.graphs.proofs.EdgeLaw.{seen_true}
use Rattle.edges.proofs.KeptLaw.{kept_again, pair_again, kept_next, pair_next, pair_full}
use Rattle.edges.proofs.take_pair.Goals as goal

pub returns-then-seen_at : goal.returns-then-seen_at
returns-then-seen_at c =
    let a = c.args in
    let p = c.requires in
    let g = a.g in
    let s = a.seen.now in
    let r : Graph = record g { lines = g.lines + 1 } in
    let h : has_edge (edges_of g) a.a a.b ≡ true =
    sym (seen_true (edges_of g) s a.a a.b p.0.seen (omega (arith, p.1.one_most, p.0.vertices)) (omega (arith, p.1.other_most, p.0.vertices))) ∙ sym c.seen_at.ensures ∙ c.if-seen_at.true in (
      pair_again g r s a.a a.b p.0 p.1 refl refl refl refl refl refl h,
      kept_again g r s a.a a.b p.0 p.1 refl refl refl refl refl refl,
    )

pub returns-then-g-ge-EDGES_MOST : goal.returns-then-g-ge-EDGES_MOST
returns-then-g-ge-EDGES_MOST c =
    let a = c.args in
    let p = c.requires in
    let g = a.g in
    let s = a.seen.now in
    let h : has_edge (edges_of g) a.a a.b ≡ false =
    sym (seen_true (edges_of g) s a.a a.b p.0.seen (omega (arith, p.1.one_most, p.0.vertices)) (omega (arith, p.1.other_most, p.0.vertices))) ∙ sym c.seen_at.ensures ∙ c.if-seen_at.false in
    (pair_full g a.a a.b h c.if-g-ge-EDGES_MOST.true, refl)

pub returns : goal.returns
returns c =
    let a = c.args in
    let p = c.requires in
    let g = a.g in
    let s = a.seen.now in
    let r = c.joined.result in
    let e = c.joined.ensures in
    let h : has_edge (edges_of g) a.a a.b ≡ false =
    sym (seen_true (edges_of g) s a.a a.b p.0.seen (omega (arith, p.1.one_most, p.0.vertices)) (omega (arith, p.1.other_most, p.0.vertices))) ∙ sym c.seen_at.ensures ∙ c.if-seen_at.false in
    let q : g.count < edges_most = c.if-g-ge-EDGES_MOST.false in (
      pair_next g r s a.a a.b p.0 p.1 e.0 e.1 e.2 e.3 e.4 q h,
      rw c.note.ensures (kept_next g r s a.a a.b p.0 p.1 e.0 e.1 e.2 e.3 e.4 q),
    )
