-- What a text means: its lines, read in order; the refusals of each line and at the end, in document 01's order.
use Rattle.std.specs.Prelude.{Bool, true, false, not, ◌&&◌, List, [], ◌∷◌, ℕ, suc, ◌+◌, ◌*◌, eqb, ltb, leb, length, Ok, Err}
use Rattle.refusals.specs.declared.Refusal.{Refusal}
use Rattle.refusals.specs.declared.Refusal.TheVariants as why
use Rattle.refusals.specs.Refusal.{Verdict, number_of, refuse, done}
use Rattle.lines.specs.Lines.{lines_of}
use Rattle.shapes.specs.declared.Shape.{Shape}
use Rattle.shapes.specs.declared.Shape.TheVariants.{Comment, Problem, Edge, Unknown}
use Rattle.shapes.specs.Shapes.{shape_of}
use Rattle.graphs.specs.Edges.{Ends, has_edge, take_once}

-- a text has at most 32,768 bytes and 4,096 e lines, a graph at most 20 vertices and 64 different edges; the reader is lent at least 462 words
abbrev pub text_most : ℕ
text_most = 32768

abbrev pub vertices_most : ℕ
vertices_most = 20

abbrev pub lines_most : ℕ
lines_most = 4096

abbrev pub edges_most : ℕ
edges_most = 64

abbrev pub words_least : ℕ
words_least = 462

-- what is known after some lines: no p line yet, or the declared numbers, how many e lines there were, and the different edges so far
pub data State : Type 0 where
  start : State
  declared : (vertices edges lines : ℕ) (list : List Ends) → State

-- what one more line gives
pub data Turn : Type 0 where
  on : State → Turn
  stop : Refusal → Turn

-- a p line with these numbers: 12 for vertices not 1 to 20, or edges not 1 to 4,096
abbrev pub problem_fault : ℕ → ℕ → Verdict
problem_fault v e =
    refuse (ltb v 1) why.Limits (refuse (ltb vertices_most v) why.Limits (refuse (ltb e 1) why.Limits (refuse (ltb lines_most e) why.Limits done)))

-- an e line after a p line with v and e, and after k e lines: 14 for one too many, then 13 for its vertices
abbrev pub edge_fault : ℕ → ℕ → ℕ → ℕ → ℕ → Verdict
edge_fault v e k a b =
    refuse (leb e k) why.Count
    (refuse (ltb a 1) why.Vertex
    (refuse (ltb v a) why.Vertex (refuse (ltb b 1) why.Vertex (refuse (ltb v b) why.Vertex (refuse (eqb a b) why.Vertex done)))))

-- then 16 for an edge that is new after 64 different ones
abbrev pub full_fault : List Ends → ℕ → ℕ → Verdict
full_fault es a b = refuse (not (has_edge es a b) && leb edges_most (length es)) why.Edges done

-- what was refused first, else what is asked next
abbrev pub or_else : Verdict → Verdict → Verdict
or_else (Ok _) v = v
or_else (Err r) v = Err r

abbrev pub carry : Verdict → State → Turn
carry (Ok _) s = on s
carry (Err r) s = stop r

-- a line of the given shape
unfoldable pub take_line : State → Shape → Turn
take_line s Unknown = stop why.Shape
take_line s Comment = on s
take_line start (Problem v e) = carry (problem_fault v e) (declared v e 0 [])
take_line (declared v e k es) (Problem v' e') = stop why.Order
take_line start (Edge a b) = stop why.Order
take_line (declared v e k es) (Edge a b) = carry (or_else (edge_fault v e k a b) (full_fault es a b)) (declared v e (k + 1) (take_once es a b))

-- what a text reads to: vertices and different edges, or a refusal and its line
pub data Outcome : Type 0 where
  graph : (vertices : ℕ) (list : List Ends) → Outcome
  refused : (why : Refusal) (line : ℕ) → Outcome

-- a refusal and its line in one number
abbrev pub number_at : Refusal → ℕ → ℕ
number_at r k = number_of r + 256 * k

-- r at line k where the test holds, else what is asked next
abbrev pub refuse_at : Bool → Refusal → ℕ → Outcome → Outcome
refuse_at true r k o = refused r k
refuse_at false r k o = o

-- after the last line
unfoldable pub end_of : State → Outcome
end_of start = refused why.Order 0
end_of (declared v e k es) = refuse_at (ltb k e) why.Count 0 (refuse_at (ltb e k) why.Count 0 (graph v es))

-- the lines from number k on, from the state s
unfoldable pub read_lines : ℕ → State → List (List ℕ) → Outcome
read_lines k s [] = end_of s
read_lines k s (l ∷ ls) = elim (take_line s (shape_of l)) [ on s' ↦ read_lines (suc k) s' ls | stop r ↦ refused r k ]

-- the e lines of a text, in order and with repeats
abbrev pub with_edge : Shape → List Ends → List Ends
with_edge Unknown xs = xs
with_edge Comment xs = xs
with_edge (Problem v e) xs = xs
with_edge (Edge a b) xs = record { one = a; other = b } ∷ xs

unfoldable pub edge_lines : List (List ℕ) → List Ends
edge_lines [] = []
edge_lines (l ∷ ls) = with_edge (shape_of l) (edge_lines ls)

-- a whole text, and the number of words lent: 15, then 2, then the lines from number 1 on
unfoldable pub outcome_of : List ℕ → ℕ → Outcome
outcome_of t w = refuse_at (ltb text_most (length t)) why.Long 0 (refuse_at (ltb w words_least) why.Length 0 (read_lines 1 start (lines_of t)))
