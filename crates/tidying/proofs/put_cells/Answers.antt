-- `tidying::put_cells` meets its contract: the lines that are left follow those that stand.
use mathlib.Core.Path.{◌≡◌, refl, ◌∙◌}
use Prim.Native.Nat.{◌-◌, ◌≤◌}
use native.Mathlib.Omega.{arith}
use lib.ListN.{length, take}
use Rattle.graphs.specs.Scans.{cells}
use Rattle.texts.proofs.TextLaw.{put_is, drop_past, none_left}
use Rattle.tidying.specs.Tidy.{edges_text, flagged, tidy_from, tidy_of}
use Rattle.tidying.proofs.TidyLaw.{cells_turn, text_none}
use Rattle.tidying.proofs.put_cells.Goals as goal

pub loop-c-init : goal.loop-c-init
loop-c-init c = (omega arith, omega arith, refl, refl, refl)

pub loop-c-preserved : goal.loop-c-preserved
loop-c-preserved c =
    let l = c.loop-c in
    let a = c.args in
    let h = c.loop-c-test.true in
    let r = c.put_cell-next in
    let p = r.ensures.0 in (
      omega (arith, p.next, l.invariant.0),
      omega (arith, r.ensures.1, l.invariant.1),
      p.size ∙ l.invariant.2,
      cells_turn (flagged a.seen.now) l.page l.next r.new.page r.result l.c h p ∙ l.invariant.3,
      p.rest ∙ drop_past l.next r.result l.page a.page.now (omega (arith, p.next)) l.invariant.4,
    )

pub returns : goal.returns
returns c =
    let l = c.loop-c in
    let a = c.args in
    let f = flagged a.seen.now in
    let e : cells - l.c ≡ 0 = omega arith in
    let m : l.next ≤ length l.page = omega arith in
    let z : a.at ≤ length a.page.now = omega arith in (
      put_is a.page.now a.at (edges_text (tidy_of f)) l.page l.next l.invariant.2 z m
          (none_left (take l.next l.page) (edges_text (tidy_from f l.c (cells - l.c))) (text_none f l.c (cells - l.c) e) ∙ l.invariant.3)
          l.invariant.4,
      omega arith,
    )
