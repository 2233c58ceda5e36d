-- How many edges there are in order: one more edge is one more cell, so as many as there are different e lines.
use mathlib.Core.Path.{◌≡◌, refl, sym, ap, ap₂, ◌∙◌}
use mathlib.Core.Bool.{Bool, true, false, ◌&&◌, ◌||◌}
use mathlib.Core.List.{List, [], ◌∷◌, ◌++◌}
use mathlib.Core.Logic.{⊎_elim, by_cases}
use Prim.Native.Nat.{ℕ, zero, suc, ◌+◌, ◌/◌, ◌%◌, ◌≤◌, ◌<◌}
use native.Mathlib.Decide.{dec_lt, ℕ_discrete}
use native.Mathlib.Omega.{arith}
use lib.Dec.{ltb}
use lib.ListN.{length, get_or, length-append}
use borrow.Author.Tests.{lt-ltb, le-ltb}
use Rattle.lines.specs.Lines.{lines_of}
use Rattle.lines.proofs.ReturnLaw.{other_true}
use Rattle.graphs.specs.Edges.{Ends, meets, has_edge, take_once, once_from}
use Rattle.graphs.specs.Reading.{vertices_most, graph, outcome_of, edge_lines}
use Rattle.graphs.specs.Scans.{cell_of, cells, flag}
use Rattle.graphs.specs.Drawn.{no_ends, Edged, Drawn}
use Rattle.graphs.proofs.EdgeLaw.{meets_self, meets_turn, meets_ends, has_none, has_add, has_turn, has_own, Among, has_among, once_again, once_new}
use Rattle.graphs.proofs.SoundLaw.{text_drawn}
use Rattle.graphs.proofs.OnceLaw.{text_once, text_has}
use Rattle.tidying.specs.Tidy.{keep, cell_has, tidy_from, tidy_of}
use Rattle.tidying.proofs.TidyLaw.{tidy_more}

kept_count : (q : Bool) (x : Ends) (es : List Ends) → length (keep q x es) ≡ flag q + length es
kept_count true x es = omega arith
kept_count false x es = omega arith

count_more : (h : ℕ → ℕ → Bool) (c k : ℕ) → length (tidy_from h c (suc k)) ≡ flag (cell_has h c) + length (tidy_from h (suc c) k)
count_more h c k = ap length (tidy_more h c k) ∙ kept_count (cell_has h c) (record { one = c / 21; other = c % 21 }) (tidy_from h (suc c) k)

-- no edge, no cell
count_none : (c k : ℕ) → length (tidy_from (has_edge []) c k) ≡ 0
unfolding tidy_from
count_none c zero = refl
count_none c (suc k) = count_more (has_edge []) c k ∙ ap₂ (λ (q : Bool) (n : ℕ). flag q + n) (none (ltb (c / 21) (c % 21))) (count_none (suc c) k)
  where
    none : (b : Bool) → (b && has_edge [] (c / 21) (c % 21)) ≡ false
    none true = has_none (c / 21) (c % 21)
    none false = refl

-- two sets that differ in one cell
module _ (f h : ℕ → ℕ → Bool) (z : ℕ) (off : cell_has f z ≡ false) (turned : cell_has h z ≡ true) (same : (c : ℕ) → c < cells → (c ≡ z → ⊥) → cell_has h c ≡ cell_has f c) where
  count_past : (c k : ℕ) → z < c → c + k ≤ cells → length (tidy_from h c k) ≡ length (tidy_from f c k)
  unfolding tidy_from
  count_past c zero l m = refl
  count_past c (suc k) l m =
      count_more h c k ∙ ap₂ (λ (q : Bool) (n : ℕ). flag q + n) (same c (omega arith) (λ e. omega arith)) (count_past (suc c) k (omega arith) (omega arith))
      ∙ sym (count_more f c k)

  count_within : (c k : ℕ) → c ≤ z → z < c + k → c + k ≤ cells → length (tidy_from h c k) ≡ suc (length (tidy_from f c k))
  count_within c zero l m n = absurd (omega arith)
  count_within c (suc k) l m n =
      count_more h c k
      ∙ by_cases (ℕ_discrete c z)
      (λ e.
      ap₂ (λ (q : Bool) (j : ℕ). flag q + j) (ap (cell_has h) e ∙ turned) (count_past (suc c) k (omega arith) (omega arith))
      ∙ one (length (tidy_from f (suc c) k)) (flag (cell_has f c)) (ap flag (ap (cell_has f) e ∙ off)))
      (λ d.
      let b : ¬ (c ≡ z) = d in
      ap₂ (λ (q : Bool) (j : ℕ). flag q + j) (same c (omega arith) d) (count_within (suc c) k (omega arith) (omega arith) (omega arith))
      ∙ next (flag (cell_has f c)) (length (tidy_from f (suc c) k)))
      ∙ ap suc (sym (count_more f c k))
    where
      one : (j b : ℕ) → b ≡ 0 → 1 + j ≡ suc (b + j)
      one j b e = omega arith

      next : (b j : ℕ) → b + suc j ≡ suc (b + j)
      next b j = omega arith

-- an edge more, between i and j
module _ (es : List Ends) (x : Ends) (i j : ℕ) (up : i < j) (most : j ≤ vertices_most) (met : meets x i j ≡ true) (new : has_edge es i j ≡ false) where
  at : (h : ℕ → ℕ → Bool) → cell_has h (cell_of i j) ≡ h i j
  at h =
      let p : cell_of i j / 21 ≡ i = omega arith in
      let q : cell_of i j % 21 ≡ j = omega arith in
      ap₂ (λ (a b : ℕ). ltb a b && h a b) p q ∙ ap (λ (b : Bool). b && h i j) (lt-ltb i j up)

  off : cell_has (has_edge es) (cell_of i j) ≡ false
  off = at (has_edge es) ∙ new

  turned : cell_has (has_edge (es ++ (x ∷ []))) (cell_of i j) ≡ true
  turned = at (has_edge (es ++ (x ∷ []))) ∙ has_add es x i j ∙ ap₂ (λ (a b : Bool). a || b) new met

  apart : (a b : ℕ) → a < b → meets x a b ≡ true → (a ≡ i) × (b ≡ j)
  apart a b l m =
      ⊎_elim
      (λ e. ⊎_elim (λ d. (sym d.0 ∙ e.0, sym d.1 ∙ e.1)) (λ d. let p : b ≡ i = sym d.0 ∙ e.0 in let q : a ≡ j = sym d.1 ∙ e.1 in absurd (omega arith)) (meets_ends x a b m))
      (λ e. ⊎_elim (λ d. let p : a ≡ j = sym d.0 ∙ e.0 in let q : b ≡ i = sym d.1 ∙ e.1 in absurd (omega arith)) (λ d. (sym d.1 ∙ e.1, sym d.0 ∙ e.0)) (meets_ends x a b m))
      (meets_ends x i j met)

  same : (c : ℕ) → c < cells → (c ≡ cell_of i j → ⊥) → cell_has (has_edge (es ++ (x ∷ []))) c ≡ cell_has (has_edge es) c
  same c l d =
      by_cases (dec_lt (c / 21) (c % 21))
      (λ u.
      ap (λ (q : Bool). ltb (c / 21) (c % 21) && q)
      (has_add es x (c / 21) (c % 21)
      ∙ ap (λ (q : Bool). has_edge es (c / 21) (c % 21) || q)
      (other_true (meets x (c / 21) (c % 21)) (λ m. let e = apart (c / 21) (c % 21) u m in let p : c / 21 ≡ i = e.0 in let q : c % 21 ≡ j = e.1 in d (omega arith)))
      ∙ or_none (has_edge es (c / 21) (c % 21))))
      (λ n.
      let u : c % 21 ≤ c / 21 = omega arith in
      ap (λ (q : Bool). q && has_edge (es ++ (x ∷ [])) (c / 21) (c % 21)) (le-ltb (c / 21) (c % 21) u)
      ∙ sym (ap (λ (q : Bool). q && has_edge es (c / 21) (c % 21)) (le-ltb (c / 21) (c % 21) u)))
    where
      or_none : (b : Bool) → (b || false) ≡ b
      or_none true = refl
      or_none false = refl

  count_add : length (tidy_of (has_edge (es ++ (x ∷ [])))) ≡ suc (length (tidy_of (has_edge es)))
  count_add = count_within (has_edge es) (has_edge (es ++ (x ∷ []))) (cell_of i j) off turned same 0 cells (omega arith) (omega arith) (omega arith)

-- a new edge, whichever of its ends is the smaller
count_new : (es : List Ends) (x : Ends) → Edged vertices_most x → has_edge es x.one x.other ≡ false → length (tidy_of (has_edge (es ++ (x ∷ [])))) ≡ suc (length (tidy_of (has_edge es)))
count_new es x g n =
    by_cases (dec_lt x.one x.other)
    (λ l. count_add es x x.one x.other l g.other_most (meets_self x.one x.other) n)
    (λ l.
    let d : ¬ (x.one ≡ x.other) = g.apart in
    let m : x.other < x.one = omega arith in
    count_add es x x.other x.one m g.one_most (meets_turn x x.other x.one ∙ meets_self x.one x.other) (has_turn es x.other x.one ∙ n))

-- a row of lines, each edge taken once
count_once : (xs es : List Ends) → ((e : ℕ) → e < length xs → Edged vertices_most (get_or xs e no_ends))
    → length (tidy_of (has_edge (once_from es xs))) + length es ≡ length (once_from es xs) + length (tidy_of (has_edge es))
unfolding once_from
count_once [] es g = turn (length (tidy_of (has_edge es))) (length es)
  where
    turn : (a b : ℕ) → a + b ≡ b + a
    turn a b = omega arith
count_once (x ∷ xs) es g = by_test (λ ys. count_once xs ys (λ e l. g (suc e) (omega arith))) (has_edge es x.one x.other) refl
  where
    less : (a b c d p q : ℕ) → a + p ≡ b + q → p ≡ c + 1 → q ≡ suc d → a + c ≡ b + d
    less a b c d p q h e k = omega arith

    by_test : ((ys : List Ends) → length (tidy_of (has_edge (once_from ys xs))) + length ys ≡ length (once_from ys xs) + length (tidy_of (has_edge ys)))
        → (q : Bool) → has_edge es x.one x.other ≡ q
        → length (tidy_of (has_edge (once_from (take_once es x.one x.other) xs))) + length es
        ≡ length (once_from (take_once es x.one x.other) xs) + length (tidy_of (has_edge es))
    by_test rest true h = rw (once_again es x.one x.other h) (rest es)
    by_test rest false h =
        let ys = es ++ (x ∷ []) in
        rw (once_new es x.one x.other h)
        (less (length (tidy_of (has_edge (once_from ys xs)))) (length (once_from ys xs)) (length es) (length (tidy_of (has_edge es))) (length ys) (length (tidy_of (has_edge ys)))
        (rest ys) (length-append es (x ∷ [])) (count_new es x (g 0 (omega arith)) h))

-- the ends of an edge of the set
pub has_edged : (v : ℕ) (es : List Ends) → Drawn v es → (a b : ℕ) → has_edge es a b ≡ true → Edged v (record { one = a; other = b })
has_edged v es d a b h = from (has_among es a b h)
  where
    from : Among es a b → Edged v (record { one = a; other = b })
    from m =
        let x = get_or es m.place no_ends in
        let g : Edged v x = d.each m.place m.within in
        ⊎_elim
        (λ e.
        let p : x.one ≡ a = e.0 in
        let q : x.other ≡ b = e.1 in
        rw (← p, ← q) g)
        (λ e.
        let p : x.one ≡ b = e.0 in
        let q : x.other ≡ a = e.1 in
        rw (← p, ← q)
        (record { one_least = g.other_least; one_most = g.other_most; other_least = g.one_least; other_most = g.one_most; apart = λ k. g.apart (sym k) }))
        (meets_ends x a b m.met)

-- E is the number of different edges
pub tidy_length : (t : List ℕ) (w v : ℕ) (es : List Ends) → outcome_of t w ≡ graph v es → length (tidy_of (has_edge es)) ≡ length es
tidy_length t w v es o =
    let e = text_once t w v es o in
    rw e (last (length (tidy_of (has_edge (once_from [] xs)))) (length (once_from [] xs)) (length (tidy_of (has_edge []))) (count_none 0 cells) (count_once xs [] each))
  where
    xs : List Ends
    xs = edge_lines (lines_of t)

    d : Drawn v es
    d = text_drawn t w v es o

    wide : (x : Ends) → Edged v x → Edged vertices_most x
    wide x g =
        record { one_least = g.one_least; one_most = omega (arith, g.one_most, d.most); other_least = g.other_least; other_most = omega (arith, g.other_most, d.most); apart = g.apart }

    each : (e : ℕ) → e < length xs → Edged vertices_most (get_or xs e no_ends)
    each e l =
        let x = get_or xs e no_ends in
        wide x (has_edged v es d x.one x.other (text_has t w v es o x.one x.other ∙ has_own xs e l))

    last : (a b c : ℕ) → c ≡ 0 → a + 0 ≡ b + c → a ≡ b
    last a b c z e = omega arith
