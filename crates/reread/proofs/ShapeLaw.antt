-- The lines of a tidied text, one by one: what stands in each, and how long it is.
use mathlib.Core.Path.{◌≡◌, refl, sym, ap, ap₂, ◌∙◌}
use mathlib.Core.Bool.{Bool, false, ◌||◌}
use mathlib.Core.List.{List, [], ◌∷◌, ◌++◌, append_assoc}
use Prim.Native.Nat.{ℕ, suc, ◌+◌, ◌≤◌, ◌<◌}
use native.Mathlib.Omega.{arith}
use lib.ListN.{length, length-append}
use Rattle.lines.specs.Lines.{has, starts, lines_of}
use Rattle.lines.proofs.LineLaw.{comment_none}
use Rattle.lines.proofs.ReturnLaw.{has_next, has_append}
use Rattle.lines.proofs.WrittenLaw.{lines_written, pair_written}
use Rattle.shapes.specs.declared.Shape.TheVariants.{Problem, Edge}
use Rattle.shapes.specs.Shapes.{problem_front, edge_front, as_problem, as_edge, shape_of}
use Rattle.shapes.proofs.ShapeLaw.{shape_problem, shape_edge}
use Rattle.texts.specs.Text.{decimal_of}
use Rattle.tidying.specs.Tidy.{problem_line, edge_line}
use Rattle.reread.proofs.SpeltLaw.{Spelt, spelt}

-- a line of two numbers, without its line feed
abbrev pub body_of : List ℕ → ℕ → ℕ → List ℕ
body_of f a b = f ++ (decimal_of a ++ (32 ∷ decimal_of b))

-- a line and what follows it
line_body : (f s t r : List ℕ) → (f ++ (s ++ ((32 ∷ []) ++ (t ++ (10 ∷ []))))) ++ r ≡ (f ++ (s ++ (32 ∷ t))) ++ (10 ∷ r)
line_body f s t r =
    append_assoc f (s ++ ((32 ∷ []) ++ (t ++ (10 ∷ [])))) r
    ∙ ap (λ (l : List ℕ). f ++ l) (append_assoc s ((32 ∷ []) ++ (t ++ (10 ∷ []))) r ∙ ap (λ (l : List ℕ). s ++ (32 ∷ l)) (append_assoc t (10 ∷ []) r))
    ∙ sym (append_assoc f (s ++ (32 ∷ t)) (10 ∷ r) ∙ ap (λ (l : List ℕ). f ++ l) (append_assoc s (32 ∷ t) (10 ∷ r)))

module _ (a b : ℕ) (l : a < 100) (m : b < 100) where
  s : Spelt a (decimal_of a)
  s = spelt a l

  t : Spelt b (decimal_of b)
  t = spelt b m

  no_feed : (f : List ℕ) → has 10 f ≡ false → has 10 (body_of f a b) ≡ false
  no_feed f h =
      has_append 10 f (decimal_of a ++ (32 ∷ decimal_of b))
      ∙ ap₂ (λ (x y : Bool). x || y) h
      (has_append 10 (decimal_of a) (32 ∷ decimal_of b) ∙ ap₂ (λ (x y : Bool). x || y) s.no_feed (has_next 10 32 (decimal_of b) (λ e. omega arith) ∙ t.no_feed))

  line_cut : (f : List ℕ) (r : List ℕ) → has 10 f ≡ false → lines_of ((f ++ (decimal_of a ++ ((32 ∷ []) ++ (decimal_of b ++ (10 ∷ []))))) ++ r) ≡ body_of f a b ∷ lines_of r
  line_cut f r h = ap lines_of (line_body f (decimal_of a) (decimal_of b) r) ∙ lines_written (body_of f a b) r (no_feed f h)

  pub problem_cut : (r : List ℕ) → lines_of (problem_line a b ++ r) ≡ body_of problem_front a b ∷ lines_of r
  unfolding has
  problem_cut r = line_cut problem_front r refl

  pub edge_cut : (r : List ℕ) → lines_of (edge_line a b ++ r) ≡ body_of edge_front a b ∷ lines_of r
  unfolding has
  edge_cut r = line_cut edge_front r refl

  pub problem_shape : shape_of (body_of problem_front a b) ≡ Problem a b
  unfolding starts
  problem_shape =
      sym (shape_problem (body_of problem_front a b) (sym (comment_none (body_of problem_front a b) refl (λ e. omega arith))) refl)
      ∙ ap as_problem (pair_written (decimal_of a) (decimal_of b) a b s.no_space s.value t.value)

  pub edge_shape : shape_of (body_of edge_front a b) ≡ Edge a b
  unfolding starts
  edge_shape =
      sym (shape_edge (body_of edge_front a b) (sym (comment_none (body_of edge_front a b) refl (λ e. omega arith))) refl refl)
      ∙ ap as_edge (pair_written (decimal_of a) (decimal_of b) a b s.no_space s.value t.value)

  -- ---- lengths
  line_short : (f : List ℕ) → length (f ++ (decimal_of a ++ ((32 ∷ []) ++ (decimal_of b ++ (10 ∷ []))))) ≤ length f + 6
  line_short f =
      sum (length f) (length (decimal_of a)) (length (decimal_of b)) _ _ _ (length-append f (decimal_of a ++ ((32 ∷ []) ++ (decimal_of b ++ (10 ∷ [])))))
      (length-append (decimal_of a) ((32 ∷ []) ++ (decimal_of b ++ (10 ∷ [])))) (length-append (decimal_of b) (10 ∷ [])) s.short t.short
    where
      sum : (f x y w u z : ℕ) → w ≡ f + u → u ≡ x + suc z → z ≡ y + 1 → x ≤ 2 → y ≤ 2 → w ≤ f + 6
      sum f x y w u z p q r g h = omega arith

  pub problem_short : length (problem_line a b) ≤ 13
  problem_short = line_short problem_front

  pub edge_short : length (edge_line a b) ≤ 8
  edge_short = line_short edge_front
