-- What is written and told, by the answer.
use mathlib.Core.Path.{◌≡◌, refl, sym, ap, subst, ◌∙◌}
use mathlib.Core.List.{List, ◌++◌}
use Prim.Native.Nat.{ℕ, ◌≤◌}
use native.Mathlib.Omega.{arith}
use lib.ListN.{length, take, drop, length-append}
use lib.Seq.{take-append_seam}
use borrow.Author.Tests.{le-ltb}
use Rattle.refusals.specs.declared.Refusal.{Refusal}
use Rattle.refusals.specs.Refusal.{number_of}
use Rattle.graphs.specs.Reading.{words_least, Outcome, graph, refused, outcome_of}
use Rattle.texts.specs.Text.{refusal_line, Put, ended_line}
use Rattle.tidying.specs.Tidy.{tidy_text}
use Rattle.graphs.specs.declared.Fault.{Fault}
use Rattle.exchange.specs.declared.Tidied.{Tidied}
use Rattle.tallies.specs.Tallies.{comments_in, repeats_in, turned_in}
use Rattle.exchange.specs.Answers.{tidied_to, tidy_refused, fitting, tidied, answer_of, out_after}
use Rattle.exchange.proofs.AnswerLaw.{after_graph}
use Rattle.reread.specs.Reread.{tidy_most}
use Rattle.reread.proofs.RereadLaw.{reread}
use Rattle.endings.specs.declared.Ending.{Ending}
use Rattle.endings.specs.Endings.{Tells, Delivers}
use Rattle.endings.proofs.EndLaw.{line_ends}
use Rattle.tidy.specs.Output.{written_for, output_of, told_for, told_of}

-- an output of 525 bytes is never too short
module _ (t : List ℕ) (room : ℕ) (l : tidy_most ≤ room) where
  fits : (o : Outcome) → outcome_of t words_least ≡ o → fitting room o ≡ o
  fits (graph v es) e = let m : length (tidy_text v es) ≤ room = omega (arith, (reread t v es e).most) in rw (le-ltb room (length (tidy_text v es)) m)
  fits (refused r k) e = refl

  pub never_short : tidied t room ≡ outcome_of t words_least
  never_short = fits (outcome_of t words_least) refl

-- what was written stands at the front of the output
pub record Wrote (o : Outcome) (b : ℕ) (new : List ℕ) : Type 0 where
  pub fits : b ≤ length new
  pub front : take b new ≡ written_for o
  pub told : ended_line ≡ told_for o

pub wrote : (t : List ℕ) (o : Outcome) (b c r k : ℕ) (old new : List ℕ) → tidied_to b c r k ≡ answer_of t o → new ≡ out_after o old → Wrote o b new
wrote t (graph v es) b c r k old new e w =
    let s = tidy_text v es in
    let x : ◌≡◌ {A = Tidied} (record { bytes = b; comments = c; repeated = r; turned = k }) (record { bytes = length s; comments = comments_in t; repeated = repeats_in t; turned = turned_in t }) = cc in
    let n : b ≡ length s = ap (λ (y : Tidied). y.bytes) x in
    let is : new ≡ s ++ drop (length s) old = w ∙ after_graph v es old in
    record {
      fits = omega (arith, n, ap length is, length-append s (drop (length s) old));
      front = ap (λ (j : ℕ). take j new) n ∙ ap (take (length s)) is ∙ take-append_seam s (drop (length s) old);
      told = refl;
    }
wrote t (refused f j) b c r k old new e w = absurd (let z : ◌≡◌ {A = ℕ} 0 1 = cc in omega arith)

-- a refusal is written and told in the same line
pub refused_line : (t : List ℕ) (o : Outcome) (r : Refusal) (k : ℕ) → tidy_refused r k ≡ answer_of t o → (refusal_line (number_of r) k ≡ written_for o) × (refusal_line (number_of r) k ≡ told_for o)
refused_line t (graph v es) r k e = absurd (let z : ◌≡◌ {A = ℕ} 0 1 = cc in omega arith)
refused_line t (refused f j) r k e =
    let x : ◌≡◌ {A = Fault} (record { why = r; line = k }) (record { why = f; line = j }) = cc in
    let p : r ≡ f = ap (λ (y : Fault). y.why) x in
    let q : k ≡ j = ap (λ (y : Fault). y.line) x in
    (rw (p, q) refl, rw (p, q) refl)

output_is : (t : List ℕ) → output_of t ≡ written_for (outcome_of t words_least)
unfolding output_of
output_is t = refl

told_is : (t : List ℕ) → told_of t ≡ told_for (outcome_of t words_least)
unfolding told_of
told_is t = refl

-- what was sent is the whole output, and what is told stands in the text
pub run_ends : (t sent : List ℕ) (k : ℕ) (line old b : List ℕ) (r : Ending) → sent ≡ written_for (outcome_of t words_least) → line ≡ told_for (outcome_of t words_least)
    → Put old 0 line b k → k ≤ length old → Delivers k (length sent) r → Tells (length (output_of t)) (told_of t) b r
run_ends t sent k line old b r e q p l h =
    line_ends k (length (output_of t)) (told_of t) b r (subst (λ (n : ℕ). Delivers k n r) (ap length (e ∙ sym (output_is t))) h) (omega (arith, p.size, l)) (p.front ∙ q ∙ sym (told_is t))
