-- `listing::put_layout` meets its contract: the parts of the line one after another.
use native.Mathlib.Omega.{arith}
use Rattle.listing.specs.Listing.{layout_line}
use Rattle.texts.proofs.TextLaw.{put_join, number_is}
use Rattle.listing.proofs.put_layout.Goals as goal

pub returns : goal.returns
unfolding layout_line
returns c =
    let e = c.place_at-place.ensures in
    let p1 = c.put_number-a.ensures.0 in
    let p2 = c.put-b.ensures in
    let p3 = c.put_number-c.ensures.0 in
    let p4 = c.put-d.ensures in
    let p5 = c.put_digits-e.ensures.0 in
    let p6 = c.put.ensures in
    (put_join (number_is e p1) (put_join p2 (put_join p3 (put_join p4 (put_join p5 p6)))), omega (arith, p2.next, p4.next, p6.next, c.put_number-a.ensures.1, c.put_number-c.ensures.1, c.put_digits-e.ensures.1))
