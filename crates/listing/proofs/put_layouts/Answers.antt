-- `listing::put_layouts` meets its contract: the lines that are left follow those that stand.
use mathlib.Core.Path.{◌≡◌, refl, ◌∙◌}
use Prim.Native.Nat.{◌≤◌}
use native.Mathlib.Omega.{arith}
use lib.ListN.{length, take, drop}
use Rattle.listing.specs.Listing.{layout_lines}
use Rattle.texts.proofs.TextLaw.{put_is, drop_past, drop_all, none_left}
use Rattle.listing.proofs.ListingLaw.{lines_none, lines_turn}
use Rattle.listing.proofs.put_layouts.Goals as goal

pub loop-point-init : goal.loop-point-init
loop-point-init c =
    (omega arith, refl, refl, refl)

pub loop-point-preserved : goal.loop-point-preserved
loop-point-preserved c =
    let l = c.loop-point in
    let a = c.args in
    let p = c.put_layout-next.ensures.0 in
    let r = c.put_layout-next in (
      omega (arith, r.ensures.1),
      p.size ∙ l.invariant.1,
      lines_turn a.n l.text l.next r.new.text r.result l.point-index a.points.now (omega arith) p ∙ l.invariant.2,
      p.rest ∙ drop_past l.next r.result l.text a.text.now (omega (arith, p.next)) l.invariant.3,
    )

pub returns : goal.returns
returns c =
    let l = c.loop-point in
    let a = c.args in
    let e : l.point-index ≡ length a.points.now = omega arith in
    let m : l.next ≤ length l.text = omega arith in
    let z : 0 ≤ length a.text.now = omega arith in (
      put_is a.text.now 0 (layout_lines a.n a.points.now) l.text l.next l.invariant.1 z m
          (none_left (take l.next l.text) (layout_lines a.n (drop l.point-index a.points.now)) (lines_none a.n (drop l.point-index a.points.now) (drop_all a.points.now l.point-index e)) ∙ l.invariant.2)
          l.invariant.3,
      omega arith,
    )
