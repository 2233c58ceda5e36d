-- What is read lies within the limits: each line that is taken keeps the state so.
use Rattle.std.specs.Prelude.{Ok, Err}
use mathlib.Core.Path.{◌≡◌, refl, sym, ◌∙◌}
use mathlib.Core.Bool.{Bool, true, false}
use mathlib.Core.List.{List, [], ◌∷◌, ◌++◌}
use mathlib.Core.Logic.{by_cases}
use Prim.Native.Nat.{ℕ, ◌+◌, ◌≤◌, ◌<◌}
use native.Mathlib.Decide.{ℕ_discrete}
use native.Mathlib.Omega.{arith}
use lib.Dec.{ltb}
use lib.ListN.{length, get_or, length-append, get_or-append}
use lib.Seq.{get_or_at}
use borrow.Author.Tests.{ltb-false}
use Rattle.refusals.specs.declared.Refusal.{Refusal}
use Rattle.refusals.specs.declared.Refusal.TheVariants as why
use Rattle.refusals.specs.Refusal.{Verdict, done}
use Rattle.shapes.specs.declared.Shape.{Shape}
use Rattle.shapes.specs.declared.Shape.TheVariants.{Comment, Problem, Edge, Unknown}
use Rattle.lines.specs.Lines.{lines_of}
use Rattle.shapes.specs.Shapes.{shape_of}
use Rattle.graphs.specs.Reading.{text_most, edges_most, words_least, State, start, declared, Turn, on, stop, problem_fault, edge_fault, full_fault, or_else, carry, take_line, Outcome, graph, refused, refuse_at, end_of, read_lines, outcome_of}
use Rattle.graphs.specs.Edges.{Ends, has_edge, take_once}
use Rattle.graphs.specs.Drawn.{no_ends, Edged, Drawn}
use Rattle.graphs.specs.Scans.{ends_of}
use Rattle.lines.proofs.SplitLaw.{lines_few}
use Rattle.graphs.proofs.EdgeLaw.{Among, has_among, once_again, once_new, full_fine}
use Rattle.graphs.proofs.ReadLaw.{Declares, problem_fine, Fitting, edge_fine, read_none, read_go, read_stop, length_ends, ends_at}

-- a state within the limits: after an e line there is an edge
record Good (v e k : ℕ) (es : List Ends) : Type 0 where
  limits : Declares v e
  some : 1 ≤ k → 1 ≤ length es
  few : length es ≤ edges_most
  each : (i : ℕ) → i < length es → Edged v (get_or es i no_ends)

abbrev Sound : State → Type 0
Sound start = ◌≡◌ {A = ℕ} 0 0
Sound (declared v e k es) = Good v e k es

pub stop_on : (r : Refusal) (s : State) → stop r ≡ on s → ⊥
stop_on r s e = let z : ◌≡◌ {A = ℕ} 0 1 = cc in omega arith

pub on_is : (s u : State) → on s ≡ on u → s ≡ u
on_is s u e = cc

carry_done : (f : Verdict) (s u : State) → carry f s ≡ on u → f ≡ done
carry_done (Ok _) s u e = refl
carry_done (Err r) s u e = absurd (stop_on r u e)

pub carry_on : (f : Verdict) (s u : State) → carry f s ≡ on u → s ≡ u
carry_on (Ok _) s u e = on_is s u e
carry_on (Err r) s u e = absurd (stop_on r u e)

first_done : (v w : Verdict) → or_else v w ≡ done → v ≡ done
first_done (Ok _) w e = refl
first_done (Err r) w e = absurd (let z : ◌≡◌ {A = ℕ} 0 1 = cc in omega arith)

next_done : (v w : Verdict) → or_else v w ≡ done → w ≡ done
next_done (Ok _) w e = e
next_done (Err r) w e = absurd (let z : ◌≡◌ {A = ℕ} 0 1 = cc in omega arith)

sound_problem : (v e : ℕ) → problem_fault v e ≡ done → Sound (declared v e 0 [])
sound_problem v e h = record { limits = problem_fine v e h; some = λ l. absurd (omega arith); few = omega arith; each = λ i l. absurd (omega arith) }

module _ (v e k : ℕ) (es : List Ends) (a b : ℕ) (g : Good v e k es) (f : Fitting v e k a b) where
  -- a repeat
  sound_same : has_edge es a b ≡ true → Good v e (k + 1) es
  sound_same h = record { limits = g.limits; some = λ l. some (has_among es a b h); few = g.few; each = g.each }
    where
      some : Among es a b → 1 ≤ length es
      some m = omega (arith, m.within)

  -- a new edge
  sound_new : length es < edges_most → Good v e (k + 1) (es ++ (record { one = a; other = b } ∷ []))
  sound_new h =
      let n = length-append es (record { one = a; other = b } ∷ []) in
      record { limits = g.limits; some = λ l. omega (arith, n); few = omega (arith, n, h); each = at }
    where
      new : Edged v (record { one = a; other = b })
      new = record { one_least = f.one_least; one_most = f.one_most; other_least = f.other_least; other_most = f.other_most; apart = f.apart }

      at : (i : ℕ) → i < length (es ++ (record { one = a; other = b } ∷ [])) → Edged v (get_or (es ++ (record { one = a; other = b } ∷ [])) i no_ends)
      at i l =
          by_cases (ℕ_discrete i (length es))
          (λ q. rw (q, get_or_at es (record { one = a; other = b }) [] no_ends (length es) refl) new)
          (λ d.
          let n : ¬ (i ≡ length es) = d in
          let m : i < length es = omega (arith, length-append es (record { one = a; other = b } ∷ [])) in
          rw (get_or-append es (record { one = a; other = b } ∷ []) no_ends i m) (g.each i m))

  sound_once : full_fault es a b ≡ done → Good v e (k + 1) (take_once es a b)
  sound_once z = by_test (has_edge es a b) refl
    where
      by_test : (q : Bool) → has_edge es a b ≡ q → Good v e (k + 1) (take_once es a b)
      by_test true h = rw (once_again es a b h) (sound_same h)
      by_test false h = rw (once_new es a b h) (sound_new (full_fine es a b h z))

sound_line : (s u : State) (sh : Shape) → Sound s → take_line s sh ≡ on u → Sound u
unfolding take_line
sound_line s u Unknown g e = absurd (stop_on why.Shape u e)
sound_line s u Comment g e = let q = on_is s u e in rw (← q) g
sound_line start u (Problem v e) g q =
    let r = carry_on (problem_fault v e) (declared v e 0 []) u q in
    rw (← r) (sound_problem v e (carry_done (problem_fault v e) (declared v e 0 []) u q))
sound_line (declared v e k es) u (Problem v' e') g q = absurd (stop_on why.Order u q)
sound_line start u (Edge a b) g q = absurd (stop_on why.Order u q)
sound_line (declared v e k es) u (Edge a b) g q =
    let n = declared v e (k + 1) (take_once es a b) in
    let r = carry_on (or_else (edge_fault v e k a b) (full_fault es a b)) n u q in
    let d = carry_done (or_else (edge_fault v e k a b) (full_fault es a b)) n u q in
    rw (← r) (sound_once v e k es a b g (edge_fine v e k a b (first_done (edge_fault v e k a b) (full_fault es a b) d)) (next_done (edge_fault v e k a b) (full_fault es a b) d))

-- ---- the end
pub refused_graph : (r : Refusal) (k v : ℕ) (es : List Ends) → refused r k ≡ graph v es → ⊥
refused_graph r k v es e = let z : ◌≡◌ {A = ℕ} 0 1 = cc in omega arith

pub refuse_graph : (b : Bool) (r : Refusal) (k : ℕ) (o : Outcome) (v : ℕ) (es : List Ends) → refuse_at b r k o ≡ graph v es → o ≡ graph v es
refuse_graph true r k o v es e = absurd (refused_graph r k v es e)
refuse_graph false r k o v es e = e

refuse_test : (b : Bool) (r : Refusal) (k : ℕ) (o : Outcome) (v : ℕ) (es : List Ends) → refuse_at b r k o ≡ graph v es → b ≡ false
refuse_test true r k o v es e = absurd (refused_graph r k v es e)
refuse_test false r k o v es e = refl

drawn_good : (v e k : ℕ) (es : List Ends) → Good v e k es → e ≤ k → Drawn v es
drawn_good v e k es g l =
    record {
      least = g.limits.v_least;
      most = g.limits.v_most;
      some = g.some (omega (arith, l, g.limits.e_least));
      few = g.few;
      each = g.each;
    }

graph_same : (v v' : ℕ) (es es' : List Ends) → graph v es ≡ graph v' es' → Drawn v es → Drawn v' es'
graph_same v v' es es' e d = let p : v ≡ v' = cc in let q : es ≡ es' = cc in rw (← p, ← q) d

sound_end : (s : State) → Sound s → (v : ℕ) (es : List Ends) → end_of s ≡ graph v es → Drawn v es
unfolding end_of
sound_end start g v es e = absurd (refused_graph why.Order 0 v es e)
sound_end (declared n m k xs) g v es e =
    let e1 = refuse_graph (ltb k m) why.Count 0 _ v es e in
    let e2 = refuse_graph (ltb m k) why.Count 0 _ v es e1 in
    graph_same n v xs es e2 (drawn_good n m k xs g (ltb-false _ _ (refuse_test (ltb k m) why.Count 0 _ v es e)))

-- one line, where what follows is sound
sound_turn : (l : List ℕ) (ls : List (List ℕ)) (k : ℕ) (s : State) → Sound s → (v : ℕ) (es : List Ends)
    → ((u : State) → Sound u → read_lines (k + 1) u ls ≡ graph v es → Drawn v es) → (t : Turn) → take_line s (shape_of l) ≡ t → read_lines k s (l ∷ ls) ≡ graph v es → Drawn v es
sound_turn l ls k s g v es next (on u) q e = next u (sound_line s u (shape_of l) g q) (sym (read_go k s u l ls q) ∙ e)
sound_turn l ls k s g v es next (stop r) q e = absurd (refused_graph r k v es (sym (read_stop k s r l ls q) ∙ e))

sound_lines : (ls : List (List ℕ)) (k : ℕ) (s : State) → Sound s → (v : ℕ) (es : List Ends) → read_lines k s ls ≡ graph v es → Drawn v es
sound_lines [] k s g v es e = sound_end s g v es (sym (read_none k s) ∙ e)
sound_lines (l ∷ ls) k s g v es e = sound_turn l ls k s g v es (λ u h q. sound_lines ls (k + 1) u h v es q) (take_line s (shape_of l)) refl e

-- what the lines of a text read to lies within the limits
pub lines_drawn : (t : List ℕ) (v : ℕ) (es : List Ends) → read_lines 1 start (lines_of t) ≡ graph v es → Drawn v es
lines_drawn t v es e = sound_lines (lines_of t) 1 start refl v es e

pub text_drawn : (t : List ℕ) (w v : ℕ) (es : List Ends) → outcome_of t w ≡ graph v es → Drawn v es
unfolding outcome_of
text_drawn t w v es e =
    lines_drawn t v es
    (refuse_graph (ltb w words_least) why.Length 0 _ v es (refuse_graph (ltb text_most (length t)) why.Long 0 _ v es e))

-- ---- the graph that was read
module _ (v k : ℕ) (xs ys : List ℕ) (d : Drawn v (ends_of k xs ys)) where
  pub ends_few : k ≤ edges_most
  ends_few = omega (arith, d.few, length_ends k xs ys)

  pub ends_edged : (e : ℕ) → e < k → Edged v (record { one = get_or xs e 0; other = get_or ys e 0 })
  ends_edged e h = rw (ends_at k xs ys e h) at (d.each e (omega (arith, length_ends k xs ys)))

-- ---- the line of a refusal
refused_line : (r f : Refusal) (k j : ℕ) → refused r k ≡ refused f j → k ≡ j
refused_line r f k j e = cc

pub graph_refused : (v : ℕ) (es : List Ends) (f : Refusal) (j : ℕ) → graph v es ≡ refused f j → ⊥
graph_refused v es f j e = let z : ◌≡◌ {A = ℕ} 0 1 = cc in omega arith

pub refuse_line : (b : Bool) (r f : Refusal) (j n : ℕ) (o : Outcome) → (o ≡ refused f j → j ≤ n) → refuse_at b r 0 o ≡ refused f j → j ≤ n
refuse_line true r f j n o h e = omega (arith, refused_line r f 0 j e)
refuse_line false r f j n o h e = h e

end_line : (s : State) (f : Refusal) (j n : ℕ) → end_of s ≡ refused f j → j ≤ n
unfolding end_of
end_line start f j n e = omega (arith, refused_line why.Order f 0 j e)
end_line (declared v m k es) f j n e =
    refuse_line (ltb k m) why.Count f j n _ (refuse_line (ltb m k) why.Count f j n (graph v es) (λ q. absurd (graph_refused v es f j q))) e

line_turn : (l : List ℕ) (ls : List (List ℕ)) (k : ℕ) (s : State) (f : Refusal) (j : ℕ) → ((u : State) → read_lines (k + 1) u ls ≡ refused f j → j ≤ k + 1 + length ls)
    → (t : Turn) → take_line s (shape_of l) ≡ t → read_lines k s (l ∷ ls) ≡ refused f j → j ≤ k + length (l ∷ ls)
line_turn l ls k s f j next (on u) q e = omega (arith, next u (sym (read_go k s u l ls q) ∙ e))
line_turn l ls k s f j next (stop r) q e = omega (arith, refused_line r f k j (sym (read_stop k s r l ls q) ∙ e))

lines_line : (ls : List (List ℕ)) (k : ℕ) (s : State) (f : Refusal) (j : ℕ) → read_lines k s ls ≡ refused f j → j ≤ k + length ls
lines_line [] k s f j e = end_line s f j (k + 0) (sym (read_none k s) ∙ e)
lines_line (l ∷ ls) k s f j e = line_turn l ls k s f j (λ u q. lines_line ls (k + 1) u f j q) (take_line s (shape_of l)) refl e

-- a text within its limit is refused at a line that it has
pub text_line : (t : List ℕ) (w : ℕ) (f : Refusal) (j : ℕ) → length t ≤ text_most → outcome_of t w ≡ refused f j → j ≤ 1 + text_most
unfolding outcome_of
text_line t w f j h =
    refuse_line (ltb text_most (length t)) why.Long f j (1 + text_most) _
    (refuse_line (ltb w words_least) why.Length f j (1 + text_most) (read_lines 1 start (lines_of t)) (λ q. omega (arith, h, lines_few t, lines_line (lines_of t) 1 start f j q)))
