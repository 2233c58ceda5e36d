-- One trit of a table changes one coefficient of one equation; four of them make the equation of an edge out of zeros.
use mathlib.Core.Path.{◌≡◌, refl, sym, ap, ap₂, ◌∙◌}
use mathlib.Core.Bool.{Bool, true, false, ◌&&◌}
use mathlib.Core.List.{List}
use mathlib.Core.Logic.{by_cases}
use Prim.Native.Nat.{ℕ, suc, ◌+◌, ◌-◌, ◌*◌, ◌%◌, ◌≤◌, ◌<◌, min, max}
use native.Mathlib.Nat.{add_comm}
use native.Mathlib.Decide.{dec_lt, ℕ_discrete}
use native.Mathlib.Omega.{arith}
use lib.Dec.{eqb}
use lib.ListN.{length, get_or, set, replicate, length-set, length-replicate, get_or-replicate}
use lib.Seq.{get_or-set_same, get_or-set_other}
use borrow.Author.Tests.{eq-eqb, ne_eqb}
use Rattle.residues.specs.Sums.{same}
use Rattle.residues.proofs.SumLaw.{same_self, same_other}
use Rattle.trits.specs.declared.Vector.{Vector}
use Rattle.trits.specs.Trit.{trit, Legal, of_trits, from_bits}
use Rattle.trits.specs.Words.{Put}
use Rattle.trits.proofs.ExtLaw.{is_of, of_ext, trit_of, legal_of, trit_past}
use Rattle.trits.proofs.LegalLaw.{legal_more}
use Rattle.trits.proofs.PutLaw.{put_trit, put_rest, put_legal}
use Rattle.polynomials.specs.Poly.{Poly}
use Rattle.tables.specs.Monomials.{count_of, index_of, nth}
use Rattle.tables.specs.Words.{entry, put_at, tabled, words_of}
use Rattle.tables.proofs.IndexLaw.{index_lt}
use Rattle.tables.proofs.MonomialLaw.{nth_const, nth_lin, nth_quad, nth_ext, by_monomial}
use Rattle.tables.proofs.WordLaw.{is_tabled, entry_words, length_tabled, words_ext}
use Rattle.graphs.specs.Edges.{Ends}
use Rattle.graphs.specs.Drawn.{no_ends, Edged}
use Rattle.equations.specs.Equations.{is_end, edge_poly, system_of}
use Rattle.equations.specs.Parts.{Marked}

-- ---- entries
entry_same : (t : List ℕ) (k : ℕ) (v : Vector) → 2 * k + 1 < length t → entry (put_at t k v) k ≡ v
unfolding entry put_at
entry_same t k v h = λ i. record { high = highs i; low = lows i }
  where
    apart : 2 * k ≡ 2 * k + 1 → ⊥
    apart e = omega arith

    highs : get_or (set (set t (2 * k) v.high) (2 * k + 1) v.low) (2 * k) 0 ≡ v.high
    highs = get_or-set_other (set t (2 * k) v.high) (2 * k + 1) (2 * k) v.low 0 apart ∙ get_or-set_same t (2 * k) v.high 0 (omega arith)

    lows : get_or (set (set t (2 * k) v.high) (2 * k + 1) v.low) (2 * k + 1) 0 ≡ v.low
    lows = get_or-set_same (set t (2 * k) v.high) (2 * k + 1) v.low 0 (simp length-set (omega arith))

entry_other : (t : List ℕ) (k j : ℕ) (v : Vector) → (j ≡ k → ⊥) → entry (put_at t k v) j ≡ entry t j
unfolding entry put_at
entry_other t k j v d = λ i. record { high = at (2 * j) (λ e. d (omega arith)) (λ e. d (omega arith)) i; low = at (2 * j + 1) (λ e. d (omega arith)) (λ e. d (omega arith)) i }
  where
    at : (x : ℕ) → (x ≡ 2 * k → ⊥) → (x ≡ 2 * k + 1 → ⊥) → get_or (set (set t (2 * k) v.high) (2 * k + 1) v.low) x 0 ≡ get_or t x 0
    at x p q = get_or-set_other (set t (2 * k) v.high) (2 * k + 1) x v.low 0 q ∙ get_or-set_other t (2 * k) x v.high 0 p

length_put : (t : List ℕ) (k : ℕ) (v : Vector) → length (put_at t k v) ≡ length t
unfolding put_at
length_put t k v = simp length-set

length_words : (n m : ℕ) (F : ℕ → Poly) → length (words_of n m F) ≡ 2 * count_of n
unfolding words_of
length_words n m F = length_tabled (count_of n) (λ k. of_trits m (λ e. nth n (F e) k))

words_are : (n m : ℕ) (F : ℕ → Poly) → words_of n m F ≡ tabled (count_of n) (λ k. of_trits m (λ e. nth n (F e) k))
unfolding words_of
words_are n m F = refl

-- ---- one trit
-- G is F but for coefficient k of equation e, which is t
pub record Changed (n m e k t : ℕ) (F G : ℕ → Poly) : Type 0 where
  pub here : nth n (G e) k % 3 ≡ t % 3
  pub beside : (j : ℕ) → j < count_of n → (j ≡ k → ⊥) → nth n (G e) j % 3 ≡ nth n (F e) j % 3
  pub other : (i : ℕ) → i < m → (i ≡ e → ⊥) → G i ≡ F i

module _ {n m e k t : ℕ} {F G : ℕ → Poly} (c : Changed n m e k t F G) (he : e < m) (hw : e < 64) (hk : k < count_of n) where
  trits_here : (v : Vector) → Put (entry (words_of n m F) k) e t v → (i : ℕ) → i < m → trit v i ≡ nth n (G i) k % 3
  trits_here v p i h =
      by_cases (ℕ_discrete i e)
      (λ q. rw q (put_trit p hw ∙ sym c.here))
      (λ d. put_rest p i d ∙ ap (λ (w : Vector). trit w i) (entry_words n m F k hk) ∙ trit_of m (λ x. nth n (F x) k) i h ∙ ap (λ (f : Poly). nth n f k % 3) (sym (c.other i h d)))

  same_beside : (j : ℕ) → j < count_of n → (j ≡ k → ⊥) → (i : ℕ) → i < m → nth n (F i) j % 3 ≡ nth n (G i) j % 3
  same_beside j l d i h =
      by_cases (ℕ_discrete i e) (λ q. rw q (sym (c.beside j l d))) (λ b. ap (λ (f : Poly). nth n f j % 3) (sym (c.other i h b)))

  put_words : (v : Vector) → Put (entry (words_of n m F) k) e t v → put_at (words_of n m F) k v ≡ words_of n m G
  put_words v p = rw (words_are n m G) (is_tabled (count_of n) (λ j. of_trits m (λ i. nth n (G i) j)) (put_at (words_of n m F) k v) (length_put (words_of n m F) k v ∙ length_words n m F) each)
    where
      legal : Legal m (entry (words_of n m F) k)
      legal = rw (entry_words n m F k hk) (legal_of m (λ i. nth n (F i) k))

      each : (j : ℕ) → j < count_of n → entry (put_at (words_of n m F) k v) j ≡ of_trits m (λ i. nth n (G i) j)
      each j l =
          by_cases (ℕ_discrete j k)
          (λ q. rw q (entry_same (words_of n m F) k v (omega (arith, length_words n m F)) ∙ is_of m (λ i. nth n (G i) k) v (put_legal p he legal) (trits_here v p)))
          (λ d. entry_other (words_of n m F) k j v d ∙ entry_words n m F j l ∙ of_ext m (λ i. nth n (F i) j) (λ i. nth n (G i) j) (same_beside j l d))

  pub marked_words : (old new : List ℕ) → old ≡ words_of n m F → Marked old k e t new → new ≡ words_of n m G
  marked_words old new q r = r.is ∙ ap (λ (x : List ℕ). put_at x k r.vector) q ∙ put_words r.vector (rw q at r.put)

-- ---- the polynomials on the way to that of an edge
abbrev pick_poly : Bool → Poly → Poly → Poly
pick_poly true p q = p
pick_poly false p q = q

-- F with p as equation e
unfoldable with_at : (ℕ → Poly) → ℕ → Poly → ℕ → Poly
with_at F e p i = pick_poly (eqb i e) p (F i)

with_here : (F : ℕ → Poly) (e : ℕ) (p : Poly) → with_at F e p e ≡ p
unfolding with_at
with_here F e p = rw (eq-eqb e e refl, with_at)

with_other : (F : ℕ → Poly) (e : ℕ) (p : Poly) (i : ℕ) → (i ≡ e → ⊥) → with_at F e p i ≡ F i
unfolding with_at
with_other F e p i d = rw (ne_eqb i e d, with_at)

-- two polynomials that differ at coefficient k alone, as equation e
with_changed : (n e k t : ℕ) (F : ℕ → Poly) (p q : Poly) → nth n q k % 3 ≡ t % 3 → ((j : ℕ) → j < count_of n → (j ≡ k → ⊥) → nth n q j % 3 ≡ nth n p j % 3)
    → Changed n (suc e) e k t (with_at F e p) (with_at F e q)
with_changed n e k t F p q h b =
    record {
      here = ap (λ (f : Poly). nth n f k % 3) (with_here F e q) ∙ h;
      beside = λ j l d. ap (λ (f : Poly). nth n f j % 3) (with_here F e q) ∙ b j l d ∙ ap (λ (f : Poly). nth n f j % 3) (sym (with_here F e p));
      other = λ i l d. with_other F e q i d ∙ sym (with_other F e p i d);
    }

const_poly : ℕ → Poly
const_poly c = record { const = c; lin = λ i. 0; quad = λ i j. 0 }

-- p with 1 as the coefficient of xa·xb
abbrev pick_one : Bool → ℕ → ℕ
pick_one true x = 1
pick_one false x = x

unfoldable with_one : Poly → ℕ → ℕ → Poly
with_one p a b = record { const = p.const; lin = p.lin; quad = λ i j. pick_one (eqb i a && eqb j b) (p.quad i j) }

module _ (p : Poly) (a b : ℕ) where
  one_here : (with_one p a b).quad a b ≡ 1
  unfolding with_one
  one_here = rw (eq-eqb a a refl, eq-eqb b b refl)

  one_row : (i j : ℕ) → (i ≡ a → ⊥) → (with_one p a b).quad i j ≡ p.quad i j
  unfolding with_one
  one_row i j d = rw (ne_eqb i a d)

  one_column : (i j : ℕ) → (j ≡ b → ⊥) → (with_one p a b).quad i j ≡ p.quad i j
  unfolding with_one
  one_column i j d = by_cases (ℕ_discrete i a) (λ e. rw (eq-eqb i a e, ne_eqb j b d)) (λ e. rw (ne_eqb i a e))

  one_const : (with_one p a b).const ≡ p.const
  unfolding with_one
  one_const = refl

  one_lin : (i : ℕ) → (with_one p a b).lin i ≡ p.lin i
  unfolding with_one
  one_lin i = refl

  -- elsewhere nothing changes
  one_beside : (n : ℕ) (j : ℕ) → j < count_of n → (j ≡ index_of n a b → ⊥) → nth n (with_one p a b) j ≡ nth n p j
  one_beside n =
      by_monomial n (λ j. (j ≡ index_of n a b → ⊥) → nth n (with_one p a b) j ≡ nth n p j)
      (λ d. nth_const n (with_one p a b) ∙ one_const ∙ sym (nth_const n p))
      (λ i h d. nth_lin n (with_one p a b) i h ∙ one_lin i ∙ sym (nth_lin n p i h))
      (λ i j h l d. nth_quad n (with_one p a b) i j h l ∙ apart i j d ∙ sym (nth_quad n p i j h l))
    where
      apart : (i j : ℕ) → (index_of n i j ≡ index_of n a b → ⊥) → (with_one p a b).quad i j ≡ p.quad i j
      apart i j d =
          by_cases (ℕ_discrete i a) (λ e. by_cases (ℕ_discrete j b) (λ q. absurd (d (ap₂ (index_of n) e q))) (λ q. one_column i j q)) (λ e. one_row i j e)

  one_changed : (n e : ℕ) (F : ℕ → Poly) → a ≤ b → b < n → Changed n (suc e) e (index_of n a b) 1 (with_at F e p) (with_at F e (with_one p a b))
  one_changed n e F h l =
      with_changed n e (index_of n a b) 1 F p (with_one p a b) (ap (λ (x : ℕ). x % 3) (nth_quad n (with_one p a b) a b h l ∙ one_here))
      (λ j z d. ap (λ (x : ℕ). x % 3) (one_beside n j z d))

-- the constant
const_changed : (n e : ℕ) (F : ℕ → Poly) → Changed n (suc e) e 0 2 (with_at F e (const_poly 0)) (with_at F e (const_poly 2))
unfolding const_poly
const_changed n e F =
    with_changed n e 0 2 F (const_poly 0) (const_poly 2) (ap (λ (x : ℕ). x % 3) (nth_const n (const_poly 2))) (λ j z d. ap (λ (x : ℕ). x % 3) (beside j z d))
  where
    beside : (j : ℕ) → j < count_of n → (j ≡ 0 → ⊥) → nth n (const_poly 2) j ≡ nth n (const_poly 0) j
    beside =
        by_monomial n (λ j. (j ≡ 0 → ⊥) → nth n (const_poly 2) j ≡ nth n (const_poly 0) j) (λ d. absurd (d refl))
        (λ i h d. nth_lin n (const_poly 2) i h ∙ sym (nth_lin n (const_poly 0) i h))
        (λ i j h l d. nth_quad n (const_poly 2) i j h l ∙ sym (nth_quad n (const_poly 0) i j h l))

-- ---- the four marks
module _ (a b : ℕ) (h : a < b) where
  drawn : Poly
  drawn = with_one (with_one (with_one (const_poly 2) a a) b b) a b

  ends_test : (i j : ℕ) → i ≤ j → drawn.quad i j ≡ is_end a b i * is_end a b j
  unfolding drawn with_one const_poly is_end
  ends_test i j l =
      by_cases (ℕ_discrete i a)
      (λ p. by_cases (ℕ_discrete j a)
      (λ q. rw (p, q, eq-eqb a a refl, ne_eqb a b (λ e. omega arith), same_self a, same_other a b (λ e. omega arith)))
      (λ q. by_cases (ℕ_discrete j b)
      (λ r. rw (p, r, eq-eqb a a refl, eq-eqb b b refl, same_self a, same_self b, same_other a b (λ e. omega arith), same_other b a (λ e. omega arith)))
      (λ r. rw (p, eq-eqb a a refl, ne_eqb j a q, ne_eqb j b r, ne_eqb a b (λ e. omega arith), same_self a, same_other a b (λ e. omega arith), same_other j a q, same_other j b r))))
      (λ p. by_cases (ℕ_discrete i b)
      (λ q. by_cases (ℕ_discrete j b)
      (λ r. rw (q, r, eq-eqb b b refl, ne_eqb b a (λ e. omega arith), same_self b, same_other b a (λ e. omega arith)))
      (λ r. let z : j ≡ a → ⊥ = λ e. omega arith in
      rw (q, eq-eqb b b refl, ne_eqb j b r, ne_eqb b a (λ e. omega arith), same_self b, same_other b a (λ e. omega arith), same_other j a z, same_other j b r)))
      (λ q. rw (ne_eqb i a p, ne_eqb i b q, same_other i a p, same_other i b q) (sym (none (is_end a b j)))))
    where
      none : (x : ℕ) → (0 + 0) * x ≡ 0
      none x = omega arith

  drawn_const : drawn.const ≡ (edge_poly a b).const
  unfolding drawn with_one const_poly edge_poly
  drawn_const = refl

  drawn_lin : (i : ℕ) → drawn.lin i ≡ (edge_poly a b).lin i
  unfolding drawn with_one const_poly edge_poly
  drawn_lin i = refl

  edge_quad : (i j : ℕ) → (edge_poly a b).quad i j ≡ is_end a b i * is_end a b j
  unfolding edge_poly
  edge_quad i j = refl

  -- the four marks make the polynomial of the edge
  drawn_is : (n k : ℕ) → k < count_of n → nth n drawn k ≡ nth n (edge_poly a b) k
  drawn_is n = nth_ext n drawn (edge_poly a b) drawn_const (λ i l. drawn_lin i) (λ i j l m. ends_test i j l ∙ sym (edge_quad i j))

zero_const : (const_poly 0).const ≡ 0
unfolding const_poly
zero_const = refl

zero_lin : (i : ℕ) → (const_poly 0).lin i ≡ 0
unfolding const_poly
zero_lin i = refl

zero_quad : (i j : ℕ) → (const_poly 0).quad i j ≡ 0
unfolding const_poly
zero_quad i j = refl

zero_entry : (n : ℕ) (F : ℕ → Poly) (k : ℕ) → k < count_of n → entry (replicate (2 * count_of n) 0) k ≡ of_trits 0 (λ e. nth n (F e) k)
unfolding entry of_trits from_bits
zero_entry n F k h = λ i. record { high = get_or-replicate (2 * count_of n) (2 * k) 0 0 (omega arith) i; low = get_or-replicate (2 * count_of n) (2 * k + 1) 0 0 (omega arith) i }

-- a table of e equations is one of e + 1, of which the last is zero
words_more : (n e : ℕ) (F : ℕ → Poly) → words_of n e F ≡ words_of n (suc e) (with_at F e (const_poly 0))
words_more n e F =
    rw (words_are n (suc e) (with_at F e (const_poly 0)))
    (is_tabled (count_of n) (λ k. of_trits (suc e) (λ i. nth n (with_at F e (const_poly 0) i) k)) (words_of n e F) (length_words n e F) each)
  where
    zero_at_lem : (k : ℕ) → k < count_of n → nth n (const_poly 0) k ≡ 0
    zero_at_lem = by_monomial n (λ k. nth n (const_poly 0) k ≡ 0) (nth_const n (const_poly 0) ∙ zero_const) (λ i h. nth_lin n (const_poly 0) i h ∙ zero_lin i) (λ i j h l. nth_quad n (const_poly 0) i j h l ∙ zero_quad i j)

    below : (i : ℕ) → (i ≡ e → ⊥) → i < suc e → i < e
    below i d l = let m : ¬ (i ≡ e) = d in omega arith

    each : (k : ℕ) → k < count_of n → entry (words_of n e F) k ≡ of_trits (suc e) (λ i. nth n (with_at F e (const_poly 0) i) k)
    each k h =
        entry_words n e F k h
        ∙ is_of (suc e) (λ i. nth n (with_at F e (const_poly 0) i) k) (of_trits e (λ i. nth n (F i) k)) (legal_more (omega arith) (legal_of e (λ i. nth n (F i) k)))
        (λ i l.
        by_cases (ℕ_discrete i e)
        (λ q.
        trit_past (of_trits e (λ x. nth n (F x) k)) (legal_of e (λ x. nth n (F x) k)) i (omega arith)
        ∙ sym (ap (λ (x : ℕ). x % 3) (ap (λ (x : ℕ). nth n (with_at F e (const_poly 0) x) k) q ∙ ap (λ (f : Poly). nth n f k) (with_here F e (const_poly 0)) ∙ zero_at_lem k h)))
        (λ d. trit_of e (λ x. nth n (F x) k) i (below i d l) ∙ ap (λ (f : Poly). nth n f k % 3) (sym (with_other F e (const_poly 0) i d))))

-- the table after the four marks
pub joins : (n a b e : ℕ) → a < b → b < n → e < 64 → (t t1 t2 t3 t4 : List ℕ) → Marked t 0 e 2 t1 → Marked t1 (index_of n a a) e 1 t2
    → Marked t2 (index_of n b b) e 1 t3 → Marked t3 (index_of n a b) e 1 t4 → (F : ℕ → Poly) → F e ≡ edge_poly a b → t ≡ words_of n e F → t4 ≡ words_of n (suc e) F
unfolding drawn
joins n a b e h l w t t1 t2 t3 t4 m1 m2 m3 m4 F q p =
    let p0 = const_poly 2 in
    let p1 = with_one p0 a a in
    let p2 = with_one p1 b b in
    let z : e < suc e = omega arith in
    let i1 = index_lt n a a (omega arith) (omega arith) in
    let i2 = index_lt n b b (omega arith) (omega arith) in
    let i3 = index_lt n a b (omega arith) (omega arith) in
    let i0 : 0 < count_of n = omega arith in
    let e1 = marked_words (const_changed n e F) z w i0 t t1 (p ∙ words_more n e F) m1 in
    let e2 = marked_words (one_changed p0 a a n e F (omega arith) (omega arith)) z w i1 t1 t2 e1 m2 in
    let e3 = marked_words (one_changed p1 b b n e F (omega arith) (omega arith)) z w i2 t2 t3 e2 m3 in
    let e4 = marked_words (one_changed p2 a b n e F (omega arith) (omega arith)) z w i3 t3 t4 e3 m4 in
    e4 ∙ words_ext n (suc e) (with_at F e (drawn a b h)) F last
  where
    last : (i : ℕ) → i < suc e → (k : ℕ) → k < count_of n → nth n (with_at F e (drawn a b h) i) k % 3 ≡ nth n (F i) k % 3
    last i y k x =
        by_cases (ℕ_discrete i e)
        (λ r. ap (λ (j : ℕ). nth n (with_at F e (drawn a b h) j) k % 3) r ∙ ap (λ (f : Poly). nth n f k % 3) (with_here F e (drawn a b h)) ∙ ap (λ (v : ℕ). v % 3) (drawn_is a b h n k x)
        ∙ ap (λ (f : Poly). nth n f k % 3) (sym q) ∙ ap (λ (j : ℕ). nth n (F j) k % 3) (sym r))
        (λ d. ap (λ (f : Poly). nth n f k % 3) (with_other F e (drawn a b h) i d))

-- a table of no equations is all zeros
pub words_none : (n : ℕ) (F : ℕ → Poly) → replicate (2 * count_of n) 0 ≡ words_of n 0 F
words_none n F =
    rw (words_are n 0 F) (is_tabled (count_of n) (λ k. of_trits 0 (λ e. nth n (F e) k)) (replicate (2 * count_of n) 0) (length-replicate (2 * count_of n) 0) (zero_entry n F))

-- the order of the ends does not matter
pub edge_swap : (a b : ℕ) → edge_poly a b ≡ edge_poly b a
unfolding edge_poly is_end
edge_swap a b = λ k. record { const = 2; lin = λ i. 0; quad = λ i j. both i j k }
  where
    both : (i j : ℕ) → (same i a + same i b) * (same j a + same j b) ≡ (same i b + same i a) * (same j b + same j a)
    both i j = ap₂ (λ (x y : ℕ). x * y) (add_comm (same i a) (same i b)) (add_comm (same j a) (same j b))

-- a mark keeps the length
pub marked_length : {old new : List ℕ} {k e t : ℕ} → Marked old k e t new → length new ≡ length old
marked_length {old} {new} {k} m = ap length m.is ∙ length_put old k m.vector

-- the equation of edge e, with its ends in order
pub system_at : (es : List Ends) (e x y : ℕ) → get_or es e no_ends ≡ record { one = x; other = y } → (x ≡ y → ⊥) → system_of es e ≡ edge_poly (min x y - 1) (max x y - 1)
unfolding system_of
system_at es e x y q d =
    ap (λ (p : Ends). edge_poly (p.one - 1) (p.other - 1)) q
    ∙ by_cases (dec_lt x y)
    (λ h. let l : min x y ≡ x = omega arith in let g : max x y ≡ y = omega arith in rw (l, g))
    (λ h. let l : min x y ≡ y = omega arith in let g : max x y ≡ x = omega arith in rw (l, g) (edge_swap (x - 1) (y - 1)))

-- ---- the graph that was read
-- the ends in order, as unknowns
pub record Ordered (v x y : ℕ) : Type 0 where
  pub low : 1 ≤ min x y
  pub high : 1 ≤ max x y
  pub apart : min x y - 1 < max x y - 1
  pub most : max x y - 1 < v

pub in_order : (v x y : ℕ) → Edged v (record { one = x; other = y }) → Ordered v x y
in_order v x y h =
    let d : ¬ (x ≡ y) = h.apart in
    let a : 1 ≤ x = h.one_least in
    let b : x ≤ v = h.one_most in
    let c : 1 ≤ y = h.other_least in
    let e : y ≤ v = h.other_most in
    record { low = omega arith; high = omega arith; apart = omega arith; most = omega arith }
