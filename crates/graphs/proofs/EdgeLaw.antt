-- Sets of edges: one more edge, an edge taken once, and the flags of those that were seen.
use Rattle.std.specs.Prelude.{Err}
use mathlib.Core.Path.{◌≡◌, refl, sym, ap, ap₂, ◌∙◌}
use mathlib.Core.Bool.{Bool, true, false, not, ◌&&◌, ◌||◌}
use mathlib.Core.List.{List, [], ◌∷◌, ◌++◌}
use mathlib.Core.Logic.{◌⊎◌, inl, inr, ⊎_elim, by_cases}
use Prim.Native.Nat.{ℕ, zero, suc, ◌≤◌, ◌<◌}
use native.Mathlib.Decide.{ℕ_discrete}
use native.Mathlib.Omega.{arith}
use lib.Dec.{eqb, leb}
use lib.ListN.{length, get_or, set, replicate, length-set, length-replicate, get_or-replicate}
use lib.Seq.{get_or-set_same, get_or-set_other}
use borrow.Author.Tests.{eq-eqb, ne_eqb, le-leb, lt-leb, leb-false}
use Rattle.refusals.specs.declared.Refusal.TheVariants as why
use Rattle.refusals.proofs.RefusalLaw.{done_test}
use Rattle.refusals.specs.Refusal.{done}
use Rattle.graphs.specs.Edges.{Ends, meets, has_edge, added, take_once, once_from}
use Rattle.graphs.specs.Reading.{vertices_most, edges_most, full_fault}
use Rattle.graphs.specs.Drawn.{no_ends}
use Rattle.graphs.specs.Scans.{cell_of, cells, flag, Seen}

abbrev edge : ℕ → ℕ → Ends
edge a b = record { one = a; other = b }

-- ---- tests
or_none : (b : Bool) → (b || false) ≡ b
or_none true = refl
or_none false = refl

or_true : (b : Bool) → (b || true) ≡ true
or_true true = refl
or_true false = refl

or_assoc : (a b c : Bool) → (a || (b || c)) ≡ ((a || b) || c)
or_assoc true b c = refl
or_assoc false b c = refl

or_turn : (a b : Bool) → (a || b) ≡ (b || a)
or_turn true true = refl
or_turn true false = refl
or_turn false true = refl
or_turn false false = refl

and_none : (b : Bool) → (b && false) ≡ false
and_none true = refl
and_none false = refl

-- ---- one edge
pub meets_self : (a b : ℕ) → meets (edge a b) a b ≡ true
meets_self a b = rw (eq-eqb a a refl, eq-eqb b b refl)

pub meets_turn : (x : Ends) (a b : ℕ) → meets x a b ≡ meets x b a
meets_turn x a b = or_turn (eqb x.one a && eqb x.other b) (eqb x.one b && eqb x.other a)

-- an edge meets only its own ends
meets_other : (a b x y : ℕ) → ((x ≡ a) × (y ≡ b) → ⊥) → ((x ≡ b) × (y ≡ a) → ⊥) → meets (edge a b) x y ≡ false
meets_other a b x y d n = ap₂ (λ (p q : Bool). p || q) (none a x b y (λ e. d (sym e.0, sym e.1))) (none a y b x (λ e. n (sym e.1, sym e.0)))
  where
    none : (p q r s : ℕ) → ((p ≡ q) × (r ≡ s) → ⊥) → (eqb p q && eqb r s) ≡ false
    none p q r s h =
        by_cases (ℕ_discrete p q)
        (λ e. ap (λ (t : Bool). eqb p q && t) (ne_eqb r s (λ f. h (e, f))) ∙ and_none (eqb p q))
        (λ f. ap (λ (t : Bool). t && eqb r s) (ne_eqb p q f))

clash : false ≡ true → ⊥
clash e = let z : ◌≡◌ {A = ℕ} 0 1 = cc in omega arith

-- what it meets are its ends, one way round or the other
pub meets_ends : (x : Ends) (a b : ℕ) → meets x a b ≡ true → ((x.one ≡ a) × (x.other ≡ b)) ⊎ ((x.one ≡ b) × (x.other ≡ a))
meets_ends x a b m =
    by_cases (ℕ_discrete x.one a)
    (λ e.
    by_cases (ℕ_discrete x.other b) (λ f. inl (e, f))
    (λ d. inr (second (rw (ne_eqb x.other b d, and_none (eqb x.one a)) at m))))
    (λ d. inr (second (rw (ne_eqb x.one a d) at m)))
  where
    second : (eqb x.one b && eqb x.other a) ≡ true → (x.one ≡ b) × (x.other ≡ a)
    second m =
        by_cases (ℕ_discrete x.one b)
        (λ e.
        by_cases (ℕ_discrete x.other a) (λ f. (e, f))
        (λ d. absurd (clash (sym (and_none (eqb x.one b)) ∙ sym (ap (λ (q : Bool). eqb x.one b && q) (ne_eqb x.other a d)) ∙ m))))
        (λ d. absurd (clash (sym (ap (λ (q : Bool). q && eqb x.other a) (ne_eqb x.one b d)) ∙ m)))

-- ---- sets
pub has_none : (a b : ℕ) → has_edge [] a b ≡ false
unfolding has_edge
has_none a b = refl

has_cons : (x : Ends) (es : List Ends) (a b : ℕ) → has_edge (x ∷ es) a b ≡ (meets x a b || has_edge es a b)
unfolding has_edge
has_cons x es a b = refl

pub has_add : (es : List Ends) (x : Ends) (a b : ℕ) → has_edge (es ++ (x ∷ [])) a b ≡ (has_edge es a b || meets x a b)
unfolding has_edge
has_add [] x a b = or_none (meets x a b)
has_add (y ∷ es) x a b = ap (λ (q : Bool). meets y a b || q) (has_add es x a b) ∙ or_assoc (meets y a b) (has_edge es a b) (meets x a b)

pub has_turn : (es : List Ends) (a b : ℕ) → has_edge es a b ≡ has_edge es b a
unfolding has_edge
has_turn [] a b = refl
has_turn (x ∷ es) a b = ap₂ (λ (p q : Bool). p || q) (meets_turn x a b) (has_turn es a b)

-- ---- taken once
pub once_again : (es : List Ends) (a b : ℕ) → has_edge es a b ≡ true → take_once es a b ≡ es
unfolding take_once
once_again es a b h = ap (λ (q : Bool). added q es (edge a b)) h

pub once_new : (es : List Ends) (a b : ℕ) → has_edge es a b ≡ false → take_once es a b ≡ es ++ (edge a b ∷ [])
unfolding take_once
once_new es a b h = ap (λ (q : Bool). added q es (edge a b)) h

-- ---- the 65th
pub full_again : (es : List Ends) (a b : ℕ) → has_edge es a b ≡ true → full_fault es a b ≡ done
full_again es a b h = rw h

pub full_room : (es : List Ends) (a b : ℕ) → length es < edges_most → full_fault es a b ≡ done
full_room es a b h = rw (lt-leb edges_most (length es) h, and_none (not (has_edge es a b)))

pub full_refused : (es : List Ends) (a b : ℕ) → has_edge es a b ≡ false → edges_most ≤ length es → full_fault es a b ≡ Err why.Edges
full_refused es a b h l = rw (h, le-leb edges_most (length es) l)

pub full_fine : (es : List Ends) (a b : ℕ) → has_edge es a b ≡ false → full_fault es a b ≡ done → length es < edges_most
full_fine es a b h z = leb-false edges_most (length es) (done_test (leb edges_most (length es)) why.Edges done (rw h at z))

-- ---- flags
pub seen_none : Seen [] (replicate cells 0)
seen_none = record { size = length-replicate {A = ℕ} cells 0; at = λ a b h l. get_or-replicate cells (cell_of a b) 0 0 (omega arith) ∙ sym (ap flag (has_none a b)) }

pub seen_true : (es : List Ends) (s : List ℕ) (a b : ℕ) → Seen es s → a ≤ vertices_most → b ≤ vertices_most → eqb (get_or s (cell_of a b) 0) 1 ≡ has_edge es a b
seen_true es s a b z h l = ap (λ (k : ℕ). eqb k 1) (z.at a b h l) ∙ flagged (has_edge es a b)
  where
    flagged : (q : Bool) → eqb (flag q) 1 ≡ q
    flagged true = refl
    flagged false = refl

pub seen_next : (es : List Ends) (s : List ℕ) (a b : ℕ) → Seen es s → a ≤ vertices_most → b ≤ vertices_most → Seen (es ++ (edge a b ∷ [])) (set (set s (cell_of a b) 1) (cell_of b a) 1)
seen_next es s a b z h l =
    record {
      size = length-set (set s (cell_of a b) 1) (cell_of b a) 1 ∙ length-set s (cell_of a b) 1 ∙ z.size;
      at = λ x y p q.
          by_cases (ℕ_discrete (cell_of x y) (cell_of b a))
          (λ e.
          let u : x ≡ b = omega arith in
          let w : y ≡ a = omega arith in
          ap₂ (λ (i j : ℕ). get_or (set (set s (cell_of a b) 1) (cell_of b a) 1) (cell_of i j) 0) u w ∙ get_or-set_same (set s (cell_of a b) 1) (cell_of b a) 1 0 long2
          ∙ sym (ap₂ (λ (i j : ℕ). flag (has_edge (es ++ (edge a b ∷ [])) i j)) u w ∙ ap flag (has_add es (edge a b) b a ∙ ap (λ (t : Bool). has_edge es b a || t) (meets_turn (edge a b) b a ∙ meets_self a b) ∙ or_true (has_edge es b a))))
          (λ d.
          get_or-set_other (set s (cell_of a b) 1) (cell_of b a) (cell_of x y) 1 0 d
          ∙ by_cases (ℕ_discrete (cell_of x y) (cell_of a b))
          (λ e.
          let u : x ≡ a = omega arith in
          let w : y ≡ b = omega arith in
          ap₂ (λ (i j : ℕ). get_or (set s (cell_of a b) 1) (cell_of i j) 0) u w ∙ get_or-set_same s (cell_of a b) 1 0 long
          ∙ sym (ap₂ (λ (i j : ℕ). flag (has_edge (es ++ (edge a b ∷ [])) i j)) u w ∙ ap flag (has_add es (edge a b) a b ∙ ap (λ (t : Bool). has_edge es a b || t) (meets_self a b) ∙ or_true (has_edge es a b))))
          (λ n.
          get_or-set_other s (cell_of a b) (cell_of x y) 1 0 n ∙ z.at x y p q
          ∙ sym (ap flag (has_add es (edge a b) x y ∙ ap (λ (t : Bool). has_edge es x y || t) (meets_other a b x y (λ f. n (ap₂ cell_of f.0 f.1)) (λ f. d (ap₂ cell_of f.0 f.1))) ∙ or_none (has_edge es x y)))));
    }
  where
    long : cell_of a b < length s
    long = omega (arith, z.size)

    long2 : cell_of b a < length (set s (cell_of a b) 1)
    long2 = omega (arith, z.size, length-set s (cell_of a b) 1)

-- ---- a row of lines, each edge taken once, has the same edges
has_once : (es : List Ends) (a b x y : ℕ) → has_edge (take_once es a b) x y ≡ (has_edge es x y || meets (edge a b) x y)
has_once es a b x y = by_test (has_edge es a b) refl
  where
    both : (p q : Bool) → (q ≡ true → p ≡ true) → p ≡ (p || q)
    both true q h = refl
    both false true h = h refl
    both false false h = refl

    inside : has_edge es a b ≡ true → meets (edge a b) x y ≡ true → has_edge es x y ≡ true
    inside h m =
        ⊎_elim (λ e. sym (ap₂ (has_edge es) e.0 e.1) ∙ h) (λ e. has_turn es x y ∙ sym (ap₂ (has_edge es) e.0 e.1) ∙ h) (meets_ends (edge a b) x y m)

    by_test : (q : Bool) → has_edge es a b ≡ q → has_edge (take_once es a b) x y ≡ (has_edge es x y || meets (edge a b) x y)
    by_test true h = ap (λ (l : List Ends). has_edge l x y) (once_again es a b h) ∙ both (has_edge es x y) (meets (edge a b) x y) (inside h)
    by_test false h = ap (λ (l : List Ends). has_edge l x y) (once_new es a b h) ∙ has_add es (edge a b) x y

pub once_has : (xs es : List Ends) (a b : ℕ) → has_edge (once_from es xs) a b ≡ (has_edge es a b || has_edge xs a b)
unfolding once_from has_edge
once_has [] es a b = sym (or_none (has_edge es a b))
once_has (x ∷ xs) es a b =
    once_has xs (take_once es x.one x.other) a b
    ∙ ap (λ (q : Bool). q || has_edge xs a b) (has_once es x.one x.other a b)
    ∙ sym (or_assoc (has_edge es a b) (meets x a b) (has_edge xs a b))

-- ---- an edge of the set is one of the list
pub has_own : (es : List Ends) (e : ℕ) → e < length es → has_edge es (get_or es e no_ends).one (get_or es e no_ends).other ≡ true
has_own [] e h = absurd (omega arith)
has_own (x ∷ es) zero h = has_cons x es x.one x.other ∙ ap (λ (q : Bool). q || has_edge es x.one x.other) (meets_self x.one x.other)
has_own (x ∷ es) (suc e) h =
    has_cons x es (get_or es e no_ends).one (get_or es e no_ends).other
    ∙ ap (λ (q : Bool). meets x (get_or es e no_ends).one (get_or es e no_ends).other || q) (has_own es e (omega arith))
    ∙ or_true (meets x (get_or es e no_ends).one (get_or es e no_ends).other)

-- edge e of the list meets a and b
pub record Among (es : List Ends) (a b : ℕ) : Type 0 where
  pub place : ℕ
  pub within : place < length es
  pub met : meets (get_or es place no_ends) a b ≡ true

pub has_among : (es : List Ends) (a b : ℕ) → has_edge es a b ≡ true → Among es a b
has_among [] a b h = absurd (clash (sym (has_none a b) ∙ h))
has_among (x ∷ es) a b h = by_test (meets x a b) refl (has_among es a b)
  where
    by_test : (q : Bool) → meets x a b ≡ q → (has_edge es a b ≡ true → Among es a b) → Among (x ∷ es) a b
    by_test true m next = record { place = 0; within = omega arith; met = m }
    by_test false m next =
        let g = next (sym (has_cons x es a b ∙ ap (λ (q : Bool). q || has_edge es a b) m) ∙ h) in
        record { place = suc g.place; within = omega (arith, g.within); met = g.met }
