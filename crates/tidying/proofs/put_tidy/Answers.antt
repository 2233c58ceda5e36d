-- `tidying::put_tidy` meets its contract: the p line, then the lines of the cells.
use native.Mathlib.Omega.{arith}
use Rattle.texts.proofs.TextLaw.{put_join}
use Rattle.tidying.proofs.put_tidy.Goals as goal

pub returns : goal.returns
returns c =
    let p = c.put_pair-next.ensures in
    let q = c.put_cells.ensures in
    (put_join p.0 q.0, omega (arith, p.1, q.1))
