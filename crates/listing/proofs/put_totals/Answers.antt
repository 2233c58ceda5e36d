-- `listing::put_totals` meets its contract: the parts of the line one after another.
use native.Mathlib.Omega.{arith}
use Rattle.listing.specs.Listing.{totals_line}
use Rattle.texts.proofs.TextLaw.{put_join}
use Rattle.listing.proofs.put_totals.Goals as goal

pub returns : goal.returns
unfolding totals_line
returns c =
    let p1 = c.put-a.ensures in
    let p2 = c.put_number-b.ensures.0 in
    let p3 = c.put-c.ensures in
    let p4 = c.put_number-d.ensures.0 in
    let p5 = c.put-e.ensures in
    let p6 = c.put_number-f.ensures.0 in
    let p7 = c.put.ensures in
    (put_join p1 (put_join p2 (put_join p3 (put_join p4 (put_join p5 (put_join p6 p7))))), omega (arith, p1.next, p3.next, p5.next, p7.next, c.put_number-b.ensures.1, c.put_number-d.ensures.1, c.put_number-f.ensures.1))
