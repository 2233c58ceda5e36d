-- The start of a session: the head and what is left of the walk of a graph's table are its whole output.
use Rattle.std.specs.Prelude.{Result, Ok, Err, IsOkAnd, MatchResult}
use mathlib.Core.Path.{◌≡◌, refl, sym, ap, ap₂, ◌∙◌}
use mathlib.Core.Bool.{Bool, true}
use mathlib.Core.List.{List, ◌++◌}
use Prim.Native.Nat.{ℕ, ◌-◌, ◌*◌, ◌^◌, ◌≤◌}
use native.Mathlib.Omega.{arith}
use lib.ListN.{length, take, drop}
use lib.Seq.{take_at}
use Rattle.refusals.specs.declared.Refusal.{Refusal}
use Rattle.refusals.specs.Refusal.{Verdict, number_of, after, done}
use Rattle.refusals.specs.Limits.{Within}
use Rattle.tables.specs.Monomials.{count_of}
use Rattle.tables.specs.Words.{words_of, differences_of}
use Rattle.tables.specs.Answers.{copy_verdict, differences_after}
use Rattle.tables.proofs.WordLaw.{words_table}
use Rattle.tables.proofs.RoundLaw.{differences_table}
use Rattle.graphs.specs.Edges.{Ends}
use Rattle.graphs.specs.Reading.{Outcome, graph, outcome_of}
use Rattle.graphs.specs.Drawn.{Drawn}
use Rattle.graphs.proofs.SoundLaw.{text_drawn}
use Rattle.equations.specs.Equations.{system_of}
use Rattle.reader.specs.Answers.{read_graph, read_refused, answer_of, words_after}
use Rattle.reader.proofs.AnswerLaw.{graph_is, refused_is}
use Rattle.walks.specs.Calls.{zeros_in, cost_in}
use Rattle.given.specs.Given.{Given, quadratic, Checked}
use Rattle.given.proofs.TableLaw.{checked_of_lem, copy_into}
use Rattle.opening.specs.declared.Record.{Record}
use Rattle.opening.specs.Opened.{Opened, opened_at, opened_by, open_of}
use Rattle.outcomes.specs.Search.{trail_behind}
use Rattle.outcomes.proofs.TrailLaw.{end_is}
use Rattle.opening.proofs.VerdictLaw.{verdict_done}
use Rattle.demand.proofs.DemandLaw.{cost_all_lem}
use Rattle.planner.specs.declared.Session.{Session}
use Rattle.texts.specs.Text.{refusal_line, line_if}
use Rattle.listing.specs.Listing.{layout_lines, head_line, totals_line}
use Rattle.planner.specs.Output.{layouts_in, totals_for, written_for, output_of, told_for, told_of, own_table, totals_of, left_from, left_of, walk_told, Begins, Refuses, Begun}
use Rattle.planner.specs.Parts.{Startable, Started}
use Rattle.planner.proofs.GraphLaw.{zeros_layouts}

same_record : (r s : Record) → ◌≡◌ {A = Opened} (Ok r) (Ok s) → r ≡ s
same_record r s e = cc

-- what is not refused
pub never : {A : Type 0} (f : Refusal) (x : A) (r : Result A Refusal) → r ≡ Ok x → r ≡ Err f → ⊥
never f x r e g = let z : ◌≡◌ {A = ℕ} 0 1 = cc in omega arith

-- ---- the table
module _ (n m : ℕ) (words old : List ℕ) (h : Startable n m words old) where
  limits : Within n m
  limits = record { least = h.least; most = h.most; one = h.some; wide = h.few }

  pub copies : copy_verdict n m words old ≡ done
  copies = copy_into n m words old limits h.legal h.room

  -- the differences are written
  pub table_is : (t : List ℕ) → t ≡ differences_after n m words old → t ≡ differences_of n m words
  table_is t e = e ∙ ap (λ (v : Verdict). after v old (differences_of n m words)) copies

  module _ (t : List ℕ) (e : t ≡ differences_of n m words) where
    abbrev g : Given
    g = quadratic n m t

    checked : Checked g
    checked = checked_of_lem n m t limits (rw e (differences_table n m words))

    -- the walk is opened at place 0
    pub opens : open_of g 0 ≡ Ok (opened_at g 0)
    opens = ap (λ (v : Verdict). opened_by v (opened_at g 0)) (verdict_done g 0 checked (omega arith))

    pub started : (r : Record) (b : List ℕ) (used : ℕ) → ◌≡◌ {A = Opened} (Ok r) (open_of g 0) → used ≤ length b → take used b ≡ head_line n m
        → Started n m words t b (record { n = n; m = m; «record» = r; points = 0; additions = 0; found = 0; used = used; «open» = true })
    unfolding cost_in zeros_in
    started r b used q l d =
        record {
          going = refl;
          unknowns = refl;
          equations = refl;
          first = refl;
          differences = e;
          standing = record { checked = checked; within = omega arith; «record» = same_record r (opened_at g 0) (q ∙ opens); additions = refl; found = refl };
          used = l;
          bytes = d;
        }

-- ---- what was read
-- a session that began, handed on
pub begun_ok : (input table b : List ℕ) (P : Session → Type 0) (Q : Refusal → Type 0) (r : Result Session Refusal) (q : Result Session ℕ) → IsOkAnd r P
    → MatchResult r (λ s. q ≡ Ok s) Q → ((s : Session) → P s → Begins input table b s) → Begun input table b q
begun_ok input table b P Q (Ok s) q h e f = rw e (f s h)
begun_ok input table b P Q (Err g) q h e f = absurd h

-- a refusal is the whole output
pub begun_refused : (input b : List ℕ) (f : Refusal) (number line used : ℕ) → read_refused f line ≡ answer_of (outcome_of input 462)
    → number ≡ number_of f → used ≤ length b → take used b ≡ refusal_line number line → Refuses input b used
unfolding output_of told_of
begun_refused input b f number line used e q l h =
    let said = ap (λ (x : ℕ). refusal_line x line) (sym q) ∙ sym h in
    record {
      output = ap written_for (refused_is (outcome_of input 462) f line (sym e)) ∙ said;
      told = ap told_for (refused_is (outcome_of input 462) f line (sym e)) ∙ said;
      fits = l;
    }

-- the table of a graph's edges
abbrev drawn_table : ℕ → List Ends → Given
drawn_table v es = quadratic v (length es) (differences_of v (length es) (words_of v (length es) (system_of es)))

-- a graph's totals are those of its walk
totals_graph : (input : List ℕ) (v : ℕ) (es : List Ends) → outcome_of input 462 ≡ graph v es → totals_of (trail_behind (drawn_table v es)) ≡ totals_for v es
totals_graph input v es e =
    let g = drawn_table v es in
    let T = trail_behind g in
    ap (λ (x : ℕ). totals_line x (cost_in T 0 x) (length (zeros_in T 0 x))) (end_is g)
    ∙ ap₂ (λ (y : ℕ) (z : List ℕ). totals_line (3 ^ v) y (length z)) (cost_all_lem g) (zeros_layouts input v es e 0 (3 ^ v))

-- what is left of a graph's walk from place 0 on are its layouts and the totals
left_graph : (input : List ℕ) (v : ℕ) (es : List Ends) → outcome_of input 462 ≡ graph v es
    → left_from v (trail_behind (drawn_table v es)) 0 ≡ layout_lines v (layouts_in v es 0 (3 ^ v)) ++ totals_for v es
unfolding left_from
left_graph input v es e =
    let g = drawn_table v es in
    let T = trail_behind g in
    let none : (x : ℕ) → x - 0 ≡ x = λ x. omega arith in
    ap₂ (λ (x y : List ℕ). layout_lines v x ++ y)
    (ap (λ (x : ℕ). zeros_in T 0 (x - 0)) (end_is g) ∙ ap (zeros_in T 0) (none (3 ^ v)) ∙ zeros_layouts input v es e 0 (3 ^ v))
    (totals_graph input v es e)

module _ (input : List ℕ) (n m : ℕ) (e : read_graph n m ≡ answer_of (outcome_of input 462)) where
  abbrev found : (es : List Ends) × (outcome_of input 462 ≡ graph n es) × (length es ≡ m)
  found = graph_is (outcome_of input 462) n m (sym e)

  drawn : Drawn n found.0
  drawn = text_drawn input 462 n found.0 found.1

  pub least : 1 ≤ n
  least = drawn.least

  pub most : n ≤ 20
  most = drawn.most

  -- the words that the reader wrote first
  words_are : (old ws : List ℕ) → ws ≡ words_after (outcome_of input 462) old → take (2 * count_of n) ws ≡ words_of n m (system_of found.0)
  unfolding words_after
  words_are old ws q =
      ap (take (2 * count_of n)) (q ∙ ap (λ (o : Outcome). words_after o old) found.1)
      ∙ take_at (words_of n (length found.0) (system_of found.0)) (drop (2 * count_of n) old) (2 * count_of n) (words_table n (length found.0) (system_of found.0)).size
      ∙ ap (λ (m : ℕ). words_of n m (system_of found.0)) found.2

  pub startable : (old ws room : List ℕ) → ws ≡ words_after (outcome_of input 462) old → length room ≡ 2 * count_of n → Startable n m (take (2 * count_of n) ws) room
  startable old ws room q l =
      record {
        least = least;
        most = most;
        some = omega (arith, drawn.some, found.2);
        few = omega (arith, drawn.few, found.2);
        legal = rw (words_are old ws q) (words_table n m (system_of found.0));
        room = l;
      }

  -- a graph
  pub begun_graph : (old ws t rest b : List ℕ) (r : Session) → ws ≡ words_after (outcome_of input 462) old
      → Started n m (take (2 * count_of n) ws) t b r → length t ≡ 2 * count_of n → Begins input (t ++ rest) b r
  unfolding output_of told_of left_of walk_told
  begun_graph old ws t rest b r q h l =
      let a : take (2 * count_of r.n) (t ++ rest) ≡ t = take_at t rest (2 * count_of r.n) (l ∙ ap (λ (x : ℕ). 2 * count_of x) (sym h.unknowns)) in
      record {
        output = whole found.0 found.1 found.2 (words_are old ws q) a;
        told = ap told_for found.1 ∙ ending found.0 found.1 found.2 (words_are old ws q) a;
        standing = rw a h.standing;
        going = h.going;
        used = h.used;
      }
    where
      ending : (es : List Ends) → outcome_of input 462 ≡ graph n es → length es ≡ m → take (2 * count_of n) ws ≡ words_of n m (system_of es)
          → take (2 * count_of r.n) (t ++ rest) ≡ t
          → told_for (graph n es) ≡ head_line r.n r.m ++ totals_of (trail_behind (own_table (take (2 * count_of r.n) (t ++ rest)) r))
      ending es g k w a =
          ap (λ (x : List ℕ). head_line n (length es) ++ x) (sym (totals_graph input n es g))
          ∙ ap (λ (m : ℕ). head_line n m ++ totals_of (trail_behind (quadratic n m (differences_of n m (words_of n m (system_of es)))))) k
          ∙ ap₂ (λ (x y : ℕ). head_line x y ++ totals_of (trail_behind (quadratic x y (differences_of n m (words_of n m (system_of es)))))) (sym h.unknowns) (sym h.equations)
          ∙ ap (λ (x : List ℕ). head_line r.n r.m ++ totals_of (trail_behind (own_table x r))) (sym (a ∙ h.differences ∙ ap (differences_of n m) w))

      whole : (es : List Ends) → outcome_of input 462 ≡ graph n es → length es ≡ m → take (2 * count_of n) ws ≡ words_of n m (system_of es)
          → take (2 * count_of r.n) (t ++ rest) ≡ t
          → written_for (outcome_of input 462) ≡ take r.used b ++ line_if r.open (left_from r.n (trail_behind (own_table (take (2 * count_of r.n) (t ++ rest)) r)) r.points)
      whole es g k w a =
          ap written_for g
          ∙ ap₂ (λ (x y : List ℕ). x ++ y) (ap (head_line n) k ∙ sym h.bytes)
          (sym (left_graph input n es g) ∙ sym (
          ap (λ (x : Bool). line_if x (left_from r.n (trail_behind (own_table (take (2 * count_of r.n) (t ++ rest)) r)) r.points)) h.going
          ∙ ap (λ (x : List ℕ). left_from r.n (trail_behind (own_table x r)) r.points) (a ∙ h.differences ∙ ap (differences_of n m) w)
          ∙ ap₂ (λ (x y : ℕ). left_from x (trail_behind (quadratic x y (differences_of n m (words_of n m (system_of es))))) r.points) h.unknowns h.equations
          ∙ ap (λ (x : ℕ). left_from n (trail_behind (quadratic n m (differences_of n m (words_of n m (system_of es))))) x) h.first
          ∙ ap (λ (m : ℕ). left_from n (trail_behind (quadratic n m (differences_of n m (words_of n m (system_of es))))) 0) (sym k)))
