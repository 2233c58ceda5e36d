-- The answer and the output after it, for each way that a call ends.
use mathlib.Core.Path.{◌≡◌, refl, sym, ap, ap₂, ◌∙◌}
use mathlib.Core.Bool.{Bool, true, false}
use mathlib.Core.List.{List, [], ◌∷◌, ◌++◌}
use Prim.Native.Nat.{ℕ, ◌+◌, ◌≤◌, ◌<◌}
use native.Mathlib.Omega.{arith}
use lib.Dec.{ltb}
use lib.ListN.{length, take, drop, take-append-drop}
use borrow.Author.Tests.{ltb-true, lt-ltb, le-ltb, eq-eqb, ne_eqb}
use Rattle.refusals.specs.Choice.{pick}
use Rattle.refusals.specs.declared.Refusal.{Refusal}
use Rattle.refusals.specs.declared.Refusal.TheVariants as why
use Rattle.graphs.specs.Edges.{Ends}
use Rattle.graphs.specs.Reading.{text_most, words_least, Outcome, graph, refused, number_at, outcome_of}
use Rattle.graphs.proofs.ReadLaw.{outcome_long}
use Rattle.graphs.proofs.SoundLaw.{graph_refused, refuse_line, text_line}
use Rattle.texts.specs.Text.{Put}
use Rattle.tidying.specs.Tidy.{tidy_text, flags_text}
use Rattle.tidying.proofs.TidyLaw.{whole_text}
use Rattle.tidying.proofs.CountLaw.{tidy_length}
use Rattle.tallies.specs.Tallies.{comments_in, repeats_in, turned_in, edges_in}
use Rattle.tallies.proofs.TallyLaw.{edges_repeats}
use Rattle.graphs.specs.declared.Fault.{Fault}
use Rattle.exchange.specs.Answers.{TidyAnswer, tidied_to, tidy_refused, fitting, tidied, answer_of, out_after, Answers, told_words, call_of, code_of, told_after, Reads}

-- ---- the outcome, test by test
module _ (t : List ℕ) (room : ℕ) where
  pub tidied_long : text_most < length t → tidied t room ≡ refused why.Long 0
  tidied_long h = ap (fitting room) (outcome_long t words_least h)

  pub tidied_refused : (r : Refusal) (k : ℕ) → outcome_of t words_least ≡ refused r k → tidied t room ≡ refused r k
  tidied_refused r k e = ap (fitting room) e

  module _ (v : ℕ) (es : List Ends) (o : outcome_of t words_least ≡ graph v es) where
    pub tidied_short : room < length (tidy_text v es) → tidied t room ≡ refused why.Room 0
    tidied_short h = ap (fitting room) o ∙ rw (lt-ltb room (length (tidy_text v es)) h)

    pub tidied_fits : length (tidy_text v es) ≤ room → tidied t room ≡ graph v es
    tidied_fits h = ap (fitting room) o ∙ rw (le-ltb room (length (tidy_text v es)) h)

-- ---- answers
pub after_graph : (v : ℕ) (es : List Ends) (old : List ℕ) → out_after (graph v es) old ≡ tidy_text v es ++ drop (length (tidy_text v es)) old
unfolding out_after
after_graph v es old = refl

after_refused : (r : Refusal) (k : ℕ) (old : List ℕ) → out_after (refused r k) old ≡ old
unfolding out_after
after_refused r k old = refl

module _ (t : List ℕ) (o : Outcome) (old : List ℕ) where
  pub answers_refused : (r : Refusal) (k : ℕ) → o ≡ refused r k → Answers t o old old (tidy_refused r k)
  answers_refused r k e = (sym (ap (answer_of t) e), sym (ap (λ (x : Outcome). out_after x old) e ∙ after_refused r k old))

  pub answers_graph : (v : ℕ) (es : List Ends) (new : List ℕ) (b c r k : ℕ) → o ≡ graph v es → b ≡ length (tidy_text v es) → c ≡ comments_in t → r ≡ repeats_in t → k ≡ turned_in t
      → new ≡ tidy_text v es ++ drop (length (tidy_text v es)) old → Answers t o old new (tidied_to b c r k)
  answers_graph v es new b c r k e p q s u w = (rw (p, q, s, u) (sym (ap (answer_of t) e)), w ∙ sym (ap (λ (x : Outcome). out_after x old) e ∙ after_graph v es old))

-- ---- what was put
pub put_whole : (old s new : List ℕ) (k : ℕ) → Put old 0 s new k → new ≡ s ++ drop (length s) old
put_whole old s new k p =
    let n : k ≡ length s = omega (arith, p.next) in
    sym (take-append-drop k new) ∙ ap₂ (λ (a b : List ℕ). a ++ b) p.front p.rest ∙ ap (λ (j : ℕ). s ++ drop j old) n

-- nothing was
pub put_nothing : (old s new : List ℕ) (j k : ℕ) → j ≡ 0 → Put old 0 (take j s) new k → new ≡ old
put_nothing old s new j k e p = put_whole old [] new k (rw (ap (λ (i : ℕ). take i s) e) at p)

-- all or none: fewer bytes than all are none
module _ (room used part : ℕ) (h : part ≡ pick (ltb room used) 0 used) (l : part < used) where
  cut : (q : Bool) → ltb room used ≡ q → (room < used) × (part ≡ 0)
  cut true e = (ltb-true room used e, h ∙ ap (λ (x : Bool). pick {A = ℕ} x 0 used) e)
  cut false e = let z : part ≡ used = h ∙ ap (λ (x : Bool). pick {A = ℕ} x 0 used) e in absurd (omega arith)

  pub part_none : (room < used) × (part ≡ 0)
  part_none = cut (ltb room used) refl

-- ---- a text that was read
module _ (t : List ℕ) (v e : ℕ) (s : List ℕ) (h : Reads t v e s) where
  pub read_text : flags_text v e s ≡ tidy_text v h.edges
  read_text = whole_text v e h.edges s h.seen (sym h.count ∙ sym (tidy_length t words_least v h.edges h.is))

  pub read_repeats : edges_in t ≡ e + repeats_in t
  read_repeats = edges_repeats t words_least v h.edges h.is ∙ ap (λ (n : ℕ). n + repeats_in t) h.count

  -- the page on which it was put
  module _ (old new : List ℕ) (k : ℕ) (p : Put old 0 (flags_text v e s) new k) where
    pub page_length : k ≡ length (tidy_text v h.edges)
    page_length = let n : k ≡ length (flags_text v e s) = omega (arith, p.next) in n ∙ ap length read_text

    pub page_front : take k new ≡ tidy_text v h.edges
    page_front = p.front ∙ read_text

-- ---- told by words
module _ (t : List ℕ) (room d : ℕ) where
  pub call_long : text_most < length t → call_of t room d ≡ refused why.Long 0
  call_long h = rw (lt-ltb text_most (length t) h)

  pub call_told : length t ≤ text_most → (d ≡ told_words → ⊥) → call_of t room d ≡ refused why.Length 0
  call_told h n = rw (le-ltb text_most (length t) h, ne_eqb d told_words n)

  pub call_tidies : length t ≤ text_most → d ≡ told_words → call_of t room d ≡ tidied t room
  call_tidies h e = rw (le-ltb text_most (length t) h, eq-eqb d told_words e)

-- an answer's number and words
pub told_refused : (x : TidyAnswer) (r : Refusal) (k c : ℕ) (ds : List ℕ) → tidy_refused r k ≡ x → c ≡ number_at r k → (c ≡ code_of x) × (ds ≡ told_after x ds)
told_refused x r k c ds e n = (n ∙ ap code_of e, ap (λ (y : TidyAnswer). told_after y ds) e)

pub told_tidied : (x : TidyAnswer) (a b c d : ℕ) (ds : List ℕ) → tidied_to a b c d ≡ x → (◌≡◌ {A = ℕ} 0 (code_of x)) × (a ∷ b ∷ c ∷ d ∷ [] ≡ told_after x ds)
told_tidied x a b c d ds e = (ap code_of e, ap (λ (y : TidyAnswer). told_after y ds) e)

-- what a refused call leaves
pub call_leaves : (o : Outcome) (r : Refusal) (k : ℕ) (old : List ℕ) → o ≡ refused r k → old ≡ out_after o old
call_leaves o r k old e = sym (ap (λ (x : Outcome). out_after x old) e ∙ after_refused r k old)

-- the line of a refusal
refused_is : (t : List ℕ) (o : Outcome) (r : Refusal) (k : ℕ) → answer_of t o ≡ tidy_refused r k → o ≡ refused r k
refused_is t (graph v es) r k e = absurd (let z : ◌≡◌ {A = ℕ} 0 1 = cc in omega arith)
refused_is t (refused f j) r k e =
    let s : ◌≡◌ {A = Fault} (record { why = f; line = j }) (record { why = r; line = k }) = cc in
    ap (λ (x : Fault). refused x.why x.line) s

fitting_line : (room : ℕ) (o : Outcome) (f : Refusal) (j n : ℕ) → (o ≡ refused f j → j ≤ n) → fitting room o ≡ refused f j → j ≤ n
fitting_line room (graph v es) f j n h e = refuse_line (ltb room (length (tidy_text v es))) why.Room f j n (graph v es) (λ q. absurd (graph_refused v es f j q)) e
fitting_line room (refused r k) f j n h e = h e

pub answer_line : (t : List ℕ) (room : ℕ) (r : Refusal) (k : ℕ) → length t ≤ text_most → answer_of t (tidied t room) ≡ tidy_refused r k → k ≤ 1 + text_most
answer_line t room r k l e = fitting_line room (outcome_of t words_least) r k (1 + text_most) (text_line t words_least r k l) (refused_is t (tidied t room) r k e)
