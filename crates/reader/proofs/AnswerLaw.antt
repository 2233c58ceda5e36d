-- The answer and the words after it, for each way that a reading ends.
use mathlib.Core.Path.{◌≡◌, refl, sym, ap, ap₂, ◌∙◌}
use mathlib.Core.List.{List, [], ◌∷◌, ◌++◌}
use Prim.Native.Nat.{ℕ, ◌+◌, ◌*◌, ◌≤◌, ◌<◌}
use native.Mathlib.Omega.{arith}
use lib.ListN.{length, drop, set}
use borrow.Author.Tests.{lt-ltb, le-ltb, eq-eqb, ne_eqb}
use Rattle.tables.specs.Monomials.{count_of}
use Rattle.tables.specs.Words.{words_of}
use Rattle.refusals.specs.declared.Refusal.{Refusal}
use Rattle.refusals.specs.declared.Refusal.TheVariants as why
use Rattle.refusals.specs.Refusal.{number_of}
use Rattle.graphs.specs.Reading.{text_most, vertices_most, Outcome, graph, refused, outcome_of}
use Rattle.graphs.specs.Edges.{Ends}
use Rattle.graphs.proofs.SoundLaw.{text_drawn}
use Rattle.graphs.specs.declared.Fault.{Fault}
use Rattle.reader.specs.declared.Sizes.{Sizes}
use Rattle.equations.specs.Equations.{system_of}
use Rattle.reader.specs.Answers.{read_graph, read_refused, answer_of, words_after, read_told, outcome_told, told_words, call_of, call_code, told_after}

-- ---- answers
-- an answer tells document 01's number and values
told : (o : Outcome) → read_told (answer_of o) ≡ outcome_told o
told (graph v es) = refl
told (refused r k) = refl

pub answer_refused : (o : Outcome) (r : Refusal) (k : ℕ) (old : List ℕ) → o ≡ refused r k
    → (read_refused r k ≡ answer_of o) × (old ≡ words_after o old) × (read_told (read_refused r k) ≡ outcome_told o)
unfolding words_after
answer_refused o r k old e =
    let a : read_refused r k ≡ answer_of o = sym (ap answer_of e) in
    (a, sym (ap (λ (x : Outcome). words_after x old) e), ap read_told a ∙ told o)

after_graph : (v : ℕ) (es : List Ends) (old : List ℕ) → words_after (graph v es) old ≡ words_of v (length es) (system_of es) ++ drop (2 * count_of v) old
unfolding words_after
after_graph v es old = refl

pub answer_graph : (o : Outcome) (v k used : ℕ) (es : List Ends) (new old : List ℕ) → o ≡ graph v es → length es ≡ k → new ≡ words_of v k (system_of es) → used ≡ 2 * count_of v
    → (read_graph v k ≡ answer_of o) × (new ++ drop used old ≡ words_after o old) × (read_told (read_graph v k) ≡ outcome_told o)
answer_graph o v k used es new old e l n u =
    let a : read_graph v k ≡ answer_of o = sym (ap answer_of e ∙ ap (read_graph v) l) in (
      a,
      ap₂ (λ (x : List ℕ) (y : ℕ). x ++ drop y old) (n ∙ ap (λ (j : ℕ). words_of v j (system_of es)) (sym l)) u ∙ sym (ap (λ (x : Outcome). words_after x old) e ∙ after_graph v es old),
      ap read_told a ∙ told o,
    )

-- ---- what a caller knows of the answer
sizes_are : (v k n m : ℕ) → read_graph v k ≡ read_graph n m → (v ≡ n) × (k ≡ m)
sizes_are v k n m e =
    let s : ◌≡◌ {A = Sizes} (record { n = v; m = k }) (record { n = n; m = m }) = cc in
    (ap (λ (x : Sizes). x.n) s, ap (λ (x : Sizes). x.m) s)

fault_is : (f r : Refusal) (j k : ℕ) → read_refused f j ≡ read_refused r k → (f ≡ r) × (j ≡ k)
fault_is f r j k e =
    let s : ◌≡◌ {A = Fault} (record { why = f; line = j }) (record { why = r; line = k }) = cc in
    (ap (λ (x : Fault). x.why) s, ap (λ (x : Fault). x.line) s)

graph_drawn : (t : List ℕ) (w n m : ℕ) (o : Outcome) → outcome_of t w ≡ o → answer_of o ≡ read_graph n m → (1 ≤ n) × (n ≤ vertices_most)
graph_drawn t w n m (graph v es) e q =
    let p = (sizes_are v (length es) n m q).0 in
    let d = text_drawn t w v es e in
    (rw (← p) d.least, rw (← p) d.most)
graph_drawn t w n m (refused r k) e q = let z : ◌≡◌ {A = ℕ} 0 1 = cc in absurd (omega arith)

pub answer_limits : (t : List ℕ) (w n m : ℕ) → answer_of (outcome_of t w) ≡ read_graph n m → (1 ≤ n) × (n ≤ vertices_most)
answer_limits t w n m q = graph_drawn t w n m (outcome_of t w) refl q

-- ---- what an answer says of the outcome
pub graph_is : (o : Outcome) (n m : ℕ) → answer_of o ≡ read_graph n m → (es : List Ends) × (o ≡ graph n es) × (length es ≡ m)
graph_is (graph v es) n m e = let q = sizes_are v (length es) n m e in (es, ap (λ (x : ℕ). graph x es) q.0, q.1)
graph_is (refused r k) n m e = absurd (let z : ◌≡◌ {A = ℕ} 0 1 = cc in omega arith)

pub refused_is : (o : Outcome) (r : Refusal) (k : ℕ) → answer_of o ≡ read_refused r k → o ≡ refused r k
refused_is (graph v es) r k e = absurd (let z : ◌≡◌ {A = ℕ} 0 1 = cc in omega arith)
refused_is (refused f j) r k e = let q = fault_is f r j k e in ap₂ (λ (x : Refusal) (y : ℕ). refused x y) q.0 q.1

-- ---- a caller that is told by words
module _ (t : List ℕ) (w d : ℕ) where
  pub call_long : text_most < length t → call_of t w d ≡ refused why.Long 0
  call_long h = rw (lt-ltb text_most (length t) h)

  pub call_told : length t ≤ text_most → (d ≡ told_words → ⊥) → call_of t w d ≡ refused why.Length 0
  call_told h n = rw (le-ltb text_most (length t) h, ne_eqb d told_words n)

  pub call_reads : length t ≤ text_most → d ≡ told_words → call_of t w d ≡ outcome_of t w
  call_reads h e = rw (le-ltb text_most (length t) h, eq-eqb d told_words e)

pub told_refused : (o : Outcome) (r : Refusal) (k c : ℕ) (ws ds : List ℕ) → o ≡ refused r k → c ≡ number_of r + 256 * k
    → (c ≡ call_code o) × (ws ≡ words_after o ws) × (ds ≡ told_after o ds)
unfolding words_after
told_refused o r k c ws ds e q =
    (q ∙ sym (ap call_code e), sym (ap (λ (x : Outcome). words_after x ws) e), sym (ap (λ (x : Outcome). told_after x ds) e))

pub told_graph : (o : Outcome) (n m : ℕ) (es : List Ends) (ds : List ℕ) → o ≡ graph n es → length es ≡ m
    → (◌≡◌ {A = ℕ} 0 (call_code o)) × (n ∷ m ∷ [] ≡ told_after o ds)
told_graph o n m es ds e l =
    (sym (ap call_code e), ap (λ (k : ℕ). n ∷ k ∷ []) (sym l) ∙ sym (ap (λ (x : Outcome). told_after x ds) e))
