-- The lines of a call, in the text: those of its points, and after the last call the totals.
use mathlib.Core.Path.{◌≡◌, refl, sym, ap, ◌∙◌}
use mathlib.Core.Bool.{Bool, true, false, not}
use mathlib.Core.List.{List, ◌++◌}
use Prim.Native.Nat.{ℕ, ◌+◌, ◌*◌, ◌≤◌}
use native.Mathlib.Omega.{arith}
use lib.ListN.{length, drop}
use lib.Seq.{drop-drop}
use Rattle.walks.specs.declared.Report.{Report}
use Rattle.opening.specs.declared.Record.{Record}
use Rattle.planner.specs.declared.Session.{Session}
use Rattle.texts.specs.Text.{Put, line_if}
use Rattle.listing.specs.Listing.{layout_lines, totals_line}
use Rattle.planner.specs.Parts.{is_ended, Tellable, Told}
use Rattle.planner.proofs.NextLaw.{append_none}

module _ (s : Session) (o : Record) (w : Report) (l old : List ℕ) (h : Tellable s w l old) (mid : List ℕ) (at : ℕ)
    (put : Put old 0 (layout_lines s.n l) mid at) (short : at ≤ 63 * length l) (b : Bool) (eb : b ≡ is_ended w.stop) where
  -- the session with the counts of the call added
  abbrev pub added : ℕ → Session
  added used =
      record {
        n = s.n;
        m = s.m;
        «record» = o;
        points = s.points + w.points;
        additions = s.additions + w.additions;
        found = s.found + w.found;
        used = used;
        «open» = not b;
      }

  pub told_on : b ≡ false → Told s o w l old mid (added at)
  told_on e =
      let z = sym eb ∙ e in
      record {
        unknowns = refl;
        equations = refl;
        «record» = refl;
        points = refl;
        additions = refl;
        found = refl;
        going = ap not eb;
        used = omega (arith, put.size, h.room);
        size = put.size;
        rest = put.rest;
        bytes = put.front ∙ sym (append_none (layout_lines s.n l))
            ∙ ap (λ (x : Bool). layout_lines s.n l ++ line_if x (totals_line (s.points + w.points) (s.additions + w.additions) (s.found + w.found))) (sym z);
      }

  pub told_over : (new : List ℕ) (end : ℕ) → Put mid at (totals_line (s.points + w.points) (s.additions + w.additions) (s.found + w.found)) new end
      → end ≤ at + 92 → b ≡ true → Told s o w l old new (added end)
  told_over new end last far e =
      let z = sym eb ∙ e in
      record {
        unknowns = refl;
        equations = refl;
        «record» = refl;
        points = refl;
        additions = refl;
        found = refl;
        going = ap not eb;
        used = omega (arith, put.size, last.size, h.room);
        size = last.size ∙ put.size;
        rest = last.rest ∙ farther;
        bytes = last.front
            ∙ ap (λ (x : List ℕ). x ++ totals_line (s.points + w.points) (s.additions + w.additions) (s.found + w.found)) put.front
            ∙ ap (λ (x : Bool). layout_lines s.n l ++ line_if x (totals_line (s.points + w.points) (s.additions + w.additions) (s.found + w.found))) (sym z);
      }
    where
      farther : drop end mid ≡ drop end old
      farther =
          let k = length (totals_line (s.points + w.points) (s.additions + w.additions) (s.found + w.found)) in
          ap (λ (x : ℕ). drop x mid) last.next ∙ sym (drop-drop k at mid) ∙ ap (drop k) put.rest ∙ drop-drop k at old
          ∙ ap (λ (x : ℕ). drop x old) (sym last.next)
