-- `tallies::count_lines` meets its contract: the counts so far and what the lines that are left give are the whole.
use mathlib.Core.Path.{◌≡◌, ap, ◌∙◌}
use mathlib.Core.List.{List, ◌∷◌}
use Prim.Native.Nat.{ℕ, ◌+◌, ◌-◌, ◌≤◌}
use native.Mathlib.Omega.{arith}
use lib.ListN.{length, take, drop, length-drop, drop_of_length-le}
use lib.Seq.{length-take-le}
use Rattle.lines.specs.Lines.{first_of, lines_of}
use Rattle.lines.proofs.LineLaw.{rest_is}
use Rattle.lines.proofs.SplitLaw.{lines_at}
use Rattle.shapes.specs.declared.Shape.{Shape}
use Rattle.shapes.specs.Shapes.{shape_of}
use Rattle.tallies.specs.Tallies.{as_comment, as_edge, as_turned, sum_lines}
use Rattle.tallies.proofs.TallyLaw.{sum_none, sum_turn, comment_most, edge_most, turned_most}
use Rattle.tallies.proofs.count_lines.Invariants.{So}
use Rattle.tallies.proofs.count_lines.Goals as goal

-- one line more is counted
so_next : (text : List ℕ) (f : Shape → ℕ) (at k n m : ℕ) (s : Shape) → ((x : Shape) → f x ≤ 1) → at ≤ length text
    → lines_of (drop at text) ≡ take (at + k - at) (drop at text) ∷ lines_of (drop (at + k + 1) text)
    → s ≡ shape_of (take (at + k - at) (drop at text)) → m ≡ n + f s → So text f at n → So text f (at + k + 1) m
so_next text f at k n m s most l w e p g =
    let q : m ≡ n + f (shape_of (take (at + k - at) (drop at text))) = p ∙ ap (λ (x : Shape). n + f x) e in (
      omega (arith, p, most s, g.0),
      ap (λ (j : ℕ). j + sum_lines f (lines_of (drop (at + k + 1) text))) q
          ∙ sum_turn f (take (at + k - at) (drop at text)) (lines_of (drop (at + k + 1) text)) (lines_of (drop at text)) n (sum_lines f (lines_of text)) g.1 w,
    )

so_all : (text : List ℕ) (f : Shape → ℕ) (at n : ℕ) → length text ≤ at → So text f at n → n ≡ sum_lines f (lines_of text)
so_all text f at n l g = last n (sum_lines f (lines_of (drop at text))) (sum_lines f (lines_of text)) (ap (λ (s : List ℕ). sum_lines f (lines_of s)) (drop_of_length-le text {i = at} l) ∙ sum_none f) g.1
  where
    last : (a b d : ℕ) → b ≡ 0 → a + b ≡ d → a ≡ d
    last a b d p q = omega arith

pub loop-at-init : goal.loop-at-init
loop-at-init c = (omega arith, (omega arith, omega arith), (omega arith, omega arith), (omega arith, omega arith))

pub loop-at-preserved : goal.loop-at-preserved
loop-at-preserved c =
    let l = c.loop-at in
    let t = c.args.text.now in
    let f = c.find in
    let s = c.shape_of in
    let r = c.tallied-t in
    let w = lines_at t l.at f.result (omega arith) (f.ensures.0 ∙ ap (first_of 10) (rest_is t l.at)) in
    let h : l.at ≤ length t = omega arith in (
      omega (arith, f.ensures.1, length-take-le (length t - l.at) (drop l.at t) (omega (arith, length-drop l.at t))),
      so_next t as_comment l.at f.result l.t.comments r.result.comments s.result comment_most h w s.ensures r.ensures.0 l.invariant.1,
      so_next t as_edge l.at f.result l.t.edges r.result.edges s.result edge_most h w s.ensures r.ensures.1 l.invariant.2,
      so_next t as_turned l.at f.result l.t.turned r.result.turned s.result turned_most h w s.ensures r.ensures.2 l.invariant.3,
    )

pub returns : goal.returns
returns c =
    let l = c.loop-at in
    let t = c.args.text.now in
    let h : length t ≤ l.at = omega arith in
    (so_all t as_comment l.at l.t.comments h l.invariant.1, so_all t as_edge l.at l.t.edges h l.invariant.2, so_all t as_turned l.at l.t.turned h l.invariant.3)
