-- `listing::put_head` meets its contract: the parts of the line one after another.
use native.Mathlib.Omega.{arith}
use Rattle.listing.specs.Listing.{head_line}
use Rattle.texts.proofs.TextLaw.{put_join}
use Rattle.listing.proofs.put_head.Goals as goal

pub returns : goal.returns
unfolding head_line
returns c =
    let p1 = c.put-a.ensures in
    let p2 = c.put_number-b.ensures.0 in
    let p3 = c.put-c.ensures in
    let p4 = c.put_number-d.ensures.0 in
    let p5 = c.put.ensures in
    (put_join p1 (put_join p2 (put_join p3 (put_join p4 p5))), omega (arith, p1.next, p3.next, p5.next, c.put_number-b.ensures.1, c.put_number-d.ensures.1))
