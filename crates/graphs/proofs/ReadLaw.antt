-- The structs that hold a graph while it is read step as the states do.
use mathlib.Core.Path.{◌≡◌, refl, sym, ap, ap₂, ◌∙◌}
use mathlib.Core.List.{List, [], ◌∷◌, ◌++◌}
use mathlib.Core.Logic.{by_cases}
use Prim.Native.Nat.{ℕ, zero, suc, ◌+◌, ◌≤◌, ◌<◌}
use native.Mathlib.Decide.{dec_lt, ℕ_discrete}
use native.Mathlib.Numerals.{add-one}
use native.Mathlib.Omega.{arith}
use lib.Dec.{eqb, ltb, leb}
use lib.ListN.{length, get_or, set, length-append, get_or-append}
use lib.Seq.{get_or-set_same, get_or-set_other, get_or_at}
use borrow.Author.Tests.{lt-ltb, le-ltb, ltb-false, leb-false, eqb-false}
use Rattle.refusals.specs.declared.Refusal.{Refusal}
use Rattle.refusals.specs.declared.Refusal.TheVariants as why
use Rattle.refusals.specs.Refusal.{Verdict, done}
use Rattle.refusals.proofs.RefusalLaw.{done_test, done_next}
use Rattle.shapes.specs.declared.Shape.TheVariants.{Comment, Problem, Edge, Unknown}
use Rattle.shapes.specs.Shapes.{shape_of}
use Rattle.lines.specs.Lines.{lines_of}
use Rattle.graphs.specs.Reading.{text_most, vertices_most, lines_most, words_least, State, start, declared, on, stop, problem_fault, edge_fault, full_fault, or_else, carry, take_line, graph, refused, end_of, read_lines, outcome_of}
use Rattle.graphs.specs.Edges.{Ends, take_once}
use Rattle.graphs.specs.Drawn.{no_ends}
use Rattle.graphs.specs.Scans.{ends_of}

-- ---- reading on
pub read_none : (k : ℕ) (s : State) → read_lines k s [] ≡ end_of s
unfolding read_lines
read_none k s = refl

pub read_go : (k : ℕ) (s s' : State) (l : List ℕ) (ls : List (List ℕ)) → take_line s (shape_of l) ≡ on s' → read_lines k s (l ∷ ls) ≡ read_lines (k + 1) s' ls
unfolding read_lines
read_go k s s' l ls e = rw (add-one k, e, read_lines)

pub read_stop : (k : ℕ) (s : State) (r : Refusal) (l : List ℕ) (ls : List (List ℕ)) → take_line s (shape_of l) ≡ stop r → read_lines k s (l ∷ ls) ≡ refused r k
unfolding read_lines
read_stop k s r l ls e = rw (e, read_lines)

-- ---- the edges of two arrays
pub length_ends : (k : ℕ) (xs ys : List ℕ) → length (ends_of k xs ys) ≡ k
unfolding ends_of
length_ends zero xs ys = refl
length_ends (suc k) xs ys = length-append (ends_of k xs ys) _ ∙ omega (arith, length_ends k xs ys)

ends_kept : (k j : ℕ) (xs ys : List ℕ) (a b : ℕ) → k ≤ j → ends_of k (set xs j a) (set ys j b) ≡ ends_of k xs ys
unfolding ends_of
ends_kept zero j xs ys a b h = refl
ends_kept (suc k) j xs ys a b h =
    let d : k ≡ j → ⊥ = λ e. omega arith in
    ap₂ (λ (x y : List Ends). x ++ y) (ends_kept k j xs ys a b (omega arith))
    (ap₂ (λ (x y : ℕ). record { one = x; other = y } ∷ []) (get_or-set_other xs j k a 0 d) (get_or-set_other ys j k b 0 d))

pub ends_joined : (k : ℕ) (xs ys : List ℕ) (a b : ℕ) → k < length xs → k < length ys → ends_of (k + 1) (set xs k a) (set ys k b) ≡ ends_of k xs ys ++ (record { one = a; other = b } ∷ [])
unfolding ends_of
ends_joined k xs ys a b h l =
    ap (λ (n : ℕ). ends_of n (set xs k a) (set ys k b)) (add-one k)
    ∙ ap₂ (λ (x y : List Ends). x ++ y) (ends_kept k k xs ys a b (omega arith))
    (ap₂ (λ (x y : ℕ). record { one = x; other = y } ∷ []) (get_or-set_same xs k a 0 h) (get_or-set_same ys k b 0 l))

-- ---- one line
pub problem_again : (v e k : ℕ) (es : List Ends) (v' e' : ℕ) → take_line (declared v e k es) (Problem v' e') ≡ stop why.Order
unfolding take_line
problem_again v e k es v' e' = refl

problem_first : (v e : ℕ) → take_line start (Problem v e) ≡ carry (problem_fault v e) (declared v e 0 [])
unfolding take_line
problem_first v e = refl

pub edge_early : (a b : ℕ) → take_line start (Edge a b) ≡ stop why.Order
unfolding take_line
edge_early a b = refl

edge_next : (v e k : ℕ) (es : List Ends) (a b : ℕ) → take_line (declared v e k es) (Edge a b) ≡ carry (or_else (edge_fault v e k a b) (full_fault es a b)) (declared v e (k + 1) (take_once es a b))
unfolding take_line
edge_next v e k es a b = refl

pub take_comment : (s : State) → take_line s Comment ≡ on s
unfolding take_line
take_comment s = refl

pub take_unknown : (s : State) → take_line s Unknown ≡ stop why.Shape
unfolding take_line
take_unknown s = refl

-- a p line that is the first, and an e line after it
pub first_problem : {f : Verdict} (v e : ℕ) → problem_fault v e ≡ f → carry f (declared v e 0 []) ≡ take_line start (Problem v e)
first_problem v e w = sym (problem_first v e ∙ ap (λ (g : Verdict). carry g (declared v e 0 [])) w)

module _ (v e k : ℕ) (es : List Ends) where
  pub later_edge : {f : Verdict} (a b : ℕ) → edge_fault v e k a b ≡ f
      → carry (or_else f (full_fault es a b)) (declared v e (k + 1) (take_once es a b)) ≡ take_line (declared v e k es) (Edge a b)
  later_edge a b w =
      sym (edge_next v e k es a b ∙ ap (λ (g : Verdict). carry (or_else g (full_fault es a b)) (declared v e (k + 1) (take_once es a b))) w)

  -- the end
  pub end_other : (k ≡ e → ⊥) → refused why.Count 0 ≡ end_of (declared v e k es)
  unfolding end_of
  end_other d =
      by_cases (dec_lt k e) (λ l. rw (lt-ltb k e l))
      (λ l. let j : e ≤ k = omega arith in let i : e < k = omega arith in rw (le-ltb k e j, lt-ltb e k i))

  pub end_same : k ≡ e → graph v es ≡ end_of (declared v e k es)
  unfolding end_of
  end_same l =
      let j : e ≤ k = omega arith in
      let i : k ≤ e = omega arith in
      rw (le-ltb k e j, le-ltb e k i)

pub end_early : refused why.Order 0 ≡ end_of start
unfolding end_of
end_early = refl

-- ---- what is not refused
pub record Declares (v e : ℕ) : Type 0 where
  pub v_least : 1 ≤ v
  pub v_most : v ≤ vertices_most
  pub e_least : 1 ≤ e
  pub e_most : e ≤ lines_most

pub problem_fine : (v e : ℕ) → problem_fault v e ≡ done → Declares v e
problem_fine v e h =
    let h2 = done_next (ltb v 1) _ _ h in
    let h3 = done_next (ltb vertices_most v) _ _ h2 in
    let h4 = done_next (ltb e 1) _ _ h3 in
    record {
      v_least = ltb-false _ _ (done_test (ltb v 1) _ _ h);
      v_most = ltb-false _ _ (done_test (ltb vertices_most v) _ _ h2);
      e_least = ltb-false _ _ (done_test (ltb e 1) _ _ h3);
      e_most = ltb-false _ _ (done_test (ltb lines_most e) _ _ h4);
    }

pub record Fitting (v e k a b : ℕ) : Type 0 where
  pub room : k < e
  pub one_least : 1 ≤ a
  pub one_most : a ≤ v
  pub other_least : 1 ≤ b
  pub other_most : b ≤ v
  pub apart : a ≡ b → ⊥

pub edge_fine : (v e k a b : ℕ) → edge_fault v e k a b ≡ done → Fitting v e k a b
edge_fine v e k a b h =
    let h2 = done_next (leb e k) _ _ h in
    let h3 = done_next (ltb a 1) _ _ h2 in
    let h4 = done_next (ltb v a) _ _ h3 in
    let h5 = done_next (ltb b 1) _ _ h4 in
    let h6 = done_next (ltb v b) _ _ h5 in
    record {
      room = leb-false _ _ (done_test (leb e k) _ _ h);
      one_least = ltb-false _ _ (done_test (ltb a 1) _ _ h2);
      one_most = ltb-false _ _ (done_test (ltb v a) _ _ h3);
      other_least = ltb-false _ _ (done_test (ltb b 1) _ _ h4);
      other_most = ltb-false _ _ (done_test (ltb v b) _ _ h5);
      apart = eqb-false _ _ (done_test (eqb a b) _ _ h6);
    }

-- ---- the states of the reader's own graphs
pub state_is : {v v' e e' k k' : ℕ} {es es' : List Ends} → v ≡ v' → e ≡ e' → k ≡ k' → es ≡ es' → declared v e k es ≡ declared v' e' k' es'
state_is p r t s = rw (p, r, t, s)

pub ends_none : (k : ℕ) (xs ys : List ℕ) → k ≡ 0 → ends_of k xs ys ≡ []
unfolding ends_of
ends_none k xs ys h = rw h

pub ends_next : (k a b : ℕ) (xs ys : List ℕ) {k' : ℕ} {xs' ys' : List ℕ} → k' ≡ k + 1 → xs' ≡ set xs k a → ys' ≡ set ys k b → k < length xs → k < length ys
    → ends_of k' xs' ys' ≡ ends_of k xs ys ++ (record { one = a; other = b } ∷ [])
ends_next k a b xs ys h p q l m = rw (h, p, q) (ends_joined k xs ys a b l m)

-- edge e of the two arrays
pub ends_at : (k : ℕ) (xs ys : List ℕ) (e : ℕ) → e < k → get_or (ends_of k xs ys) e no_ends ≡ record { one = get_or xs e 0; other = get_or ys e 0 }
unfolding ends_of
ends_at zero xs ys e h = absurd (omega arith)
ends_at (suc k) xs ys e h =
    by_cases (ℕ_discrete e k)
    (λ q. rw q (get_or_at (ends_of k xs ys) (record { one = get_or xs k 0; other = get_or ys k 0 }) [] no_ends k (length_ends k xs ys)))
    (λ d.
    let b : ¬ (e ≡ k) = d in
    get_or-append (ends_of k xs ys) _ no_ends e (omega (arith, length_ends k xs ys)) ∙ ends_at k xs ys e (omega arith))

-- ---- the outcome, test by test
module _ (t : List ℕ) (w : ℕ) where
  pub outcome_long : text_most < length t → outcome_of t w ≡ refused why.Long 0
  unfolding outcome_of
  outcome_long h = rw (lt-ltb text_most (length t) h)

  pub outcome_words : length t ≤ text_most → w < words_least → outcome_of t w ≡ refused why.Length 0
  unfolding outcome_of
  outcome_words h l = rw (le-ltb text_most (length t) h, lt-ltb w words_least l)

  pub outcome_lines : length t ≤ text_most → words_least ≤ w → outcome_of t w ≡ read_lines 1 start (lines_of t)
  unfolding outcome_of
  outcome_lines h l = rw (le-ltb text_most (length t) h, le-ltb w words_least l)
