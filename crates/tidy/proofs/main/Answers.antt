-- `tidy::main` is safe and ends.
use mathlib.Core.Path.{sym, ap}
use lib.Seq.{length-take-le}
use Rattle.streams.specs.Counts.{bytes_of}
use Rattle.tidy.proofs.main.Goals as goal

pub slice_bounds-buf-end : goal.slice_bounds-buf-end
slice_bounds-buf-end c = rw (sym (ap bytes_of c.in-Ok.is)) c.receive.ensures

pub slice_bounds-run-end : goal.slice_bounds-run-end
slice_bounds-run-end c = sym (length-take-le c.in-Ok.k c.receive.new.buf (rw (sym (ap bytes_of c.in-Ok.is)) c.receive.ensures))
