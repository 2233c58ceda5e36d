-- What is told at the end: nothing, or what the walk told, once all was taken.
use Rattle.std.specs.Prelude.{Some, None, is_some}
use mathlib.Core.Path.{◌≡◌, sym, ap, ap₂, ◌∙◌}
use mathlib.Core.Bool.{false, ◌&&◌}
use mathlib.Core.List.{List, ◌++◌}
use Prim.Native.Nat.{ℕ, ◌+◌, ◌*◌, ◌≤◌}
use native.Mathlib.Omega.{arith}
use lib.Dec.{eqb}
use lib.ListN.{length, take, length-append}
use lib.Seq.{length-take-le}
use Rattle.planner.specs.declared.Session.{Session}
use Rattle.planner.specs.Output.{output_of, told_of, own_table, left_of, totals_of, walk_told, Begins, Refuses}
use Rattle.texts.specs.Text.{Put, line_if}
use Rattle.listing.specs.Listing.{head_line, totals_line}
use Rattle.outcomes.specs.Search.{trail_behind}
use Rattle.tables.specs.Monomials.{count_of}
use Rattle.endings.specs.declared.Ending.{Ending}
use Rattle.endings.specs.Endings.{Concludes, Delivers}
use Rattle.endings.proofs.EndLaw.{not_told, line_ends, line_told}
use Rattle.driving.specs.declared.Driven.{Driven}
use Rattle.driving.specs.declared.Totals.{Totals}
use Rattle.driving.specs.Driving.{Drives}
use Rattle.sending.specs.Ending.{Ends, Walks}

-- ---- what is told
-- nothing, where the output was not closed
pub none_walked : (t : List ℕ) (s : Session) (first : ℕ) (b : List ℕ) (sent : ℕ) → Walks t s first b (record { told = None; sent = sent; closed = false })
none_walked t s first b sent = not_told (first + length (left_of t s)) sent (walk_told t s) b

pub none_told : (input b : List ℕ) (sent : ℕ) → Ends input b (record { told = None; sent = sent; closed = false })
none_told input b sent = not_told (length (output_of input)) sent (told_of input) b

-- the head and the totals, once all was taken
pub walked : (t : List ℕ) (s : Session) (first : ℕ) (d : Driven) (w : Totals) (old mid b : List ℕ) (j k : ℕ) (r : Ending) → Drives t s first d → d.totals ≡ Some w
    → Put old 0 (head_line s.n s.m) mid j → Put mid j (totals_line w.points w.additions w.found) b k → k ≤ length old
    → Concludes k d.sent r → Walks t s first b r
unfolding walk_told
walked t s first d w old mid b j k r h a p q l g =
    line_told k (first + length (left_of t s)) d.sent (head_line s.n s.m ++ totals_of (trail_behind (own_table t s))) b r (sym h.all ∙ ap is_some a) g
    (omega (arith, q.size, p.size)) (q.front ∙ ap₂ (λ (x y : List ℕ). x ++ y) p.front (h.totals w a))

-- the first text and what is left after it are as long as the output
begun_length : (input table b : List ℕ) (s : Session) → Begins input table b s
    → length (output_of input) ≡ s.used + length (left_of (take (2 * count_of s.n) table) s)
begun_length input table b s g =
    let t = take (2 * count_of s.n) table in
    ap length g.output ∙ length-append (take s.used b) (left_of t s)
    ∙ ap (λ (k : ℕ). k + length (left_of t s)) (length-take-le s.used b g.used)

pub ends_refused : (input b : List ℕ) (used : ℕ) (r : Ending) → Refuses input b used → Delivers used (length (take used b)) r → Ends input b r
ends_refused input b used r g h = line_ends used (length (output_of input)) (told_of input) b r (rw g.output h) g.fits (sym g.told)

pub ends_graph : (input table b : List ℕ) (s : Session) (first : ℕ) (c : List ℕ) (r : Ending) → Begins input table b s → first ≡ s.used
    → Walks (take (2 * count_of s.n) table) s first c r → Ends input c r
ends_graph input table b s first c r g e h =
    let t = take (2 * count_of s.n) table in
    let all : first + length (left_of t s) ≡ length (output_of input) = omega (arith, begun_length input table b s g) in
    record {
      fits = h.fits;
      some = h.some ∙ ap (λ (k : ℕ). eqb r.sent k && r.closed) all;
      told = h.told ∙ ap₂ (λ (k : ℕ) (l : List ℕ). line_if (eqb r.sent k && r.closed) l) all (sym g.told);
    }
