-- A table is its entries: lists two words at a time; legal entries at the front; a legal table is the words of its own system.
use mathlib.Core.Path.{◌≡◌, refl, sym, ap, ◌∙◌}
use mathlib.Core.Bool.{Bool, true, false, Bool-discrete}
use mathlib.Core.List.{List, [], ◌∷◌}
use mathlib.Core.Logic.{◌↔◌, by_cases}
use Prim.Native.Nat.{ℕ, zero, suc, ◌+◌, ◌-◌, ◌*◌, ◌%◌, ◌≤◌, ◌<◌}
use native.Mathlib.Nat.{mod-eq_of_lt}
use native.Mathlib.Omega.{arith}
use lib.ListN.{length}
use Rattle.trits.specs.declared.Vector.{Vector}
use Rattle.trits.specs.Trit.{trit, Legal, of_trits}
use Rattle.trits.specs.Words.{is_legal}
use Rattle.trits.proofs.LegalLaw.{legal_test, trit_lt}
use Rattle.trits.proofs.ExtLaw.{trit_of, legal_of, is_of, of_ext}
use Rattle.polynomials.specs.Poly.{Poly}
use Rattle.tables.specs.Monomials.{count_of, index_of, nth}
use Rattle.tables.specs.Words.{entry, tabled, legal_front, Table, poly_at, words_of}
use Rattle.tables.proofs.IndexLaw.{index_lt, count_is}
use Rattle.tables.proofs.MonomialLaw.{nth_const, nth_lin, nth_quad, by_monomial}

-- ---- lists, two words at a time
pub entry_next : (h l : ℕ) (t : List ℕ) (k : ℕ) → entry (h ∷ l ∷ t) (suc k) ≡ entry t k
unfolding entry
entry_next h l t k = let e : 2 * suc k ≡ suc (suc (2 * k)) = omega arith in let d : suc (suc (2 * k)) + 1 ≡ suc (suc (2 * k + 1)) = omega arith in rw (e, d)

pub length_tabled : (k : ℕ) (g : ℕ → Vector) → length (tabled k g) ≡ 2 * k
unfolding tabled
length_tabled zero g = refl
length_tabled (suc k) g = omega (arith, length_tabled k (λ i. g (suc i)))

pub entry_tabled : (k : ℕ) (g : ℕ → Vector) (i : ℕ) → i < k → entry (tabled k g) i ≡ g i
unfolding tabled entry
entry_tabled zero g i h = absurd (omega arith)
entry_tabled (suc k) g zero h = refl
entry_tabled (suc k) g (suc i) h = entry_next (g 0).high (g 0).low (tabled k (λ j. g (suc j))) i ∙ entry_tabled k (λ j. g (suc j)) i (omega arith)

-- a list with the entries g is the table of g
pub is_tabled : (k : ℕ) (g : ℕ → Vector) (t : List ℕ) → length t ≡ 2 * k → ((i : ℕ) → i < k → entry t i ≡ g i) → t ≡ tabled k g
unfolding tabled entry
is_tabled zero g [] n h = refl
is_tabled zero g (x ∷ t) n h = absurd (omega arith)
is_tabled (suc k) g [] n h = absurd (omega arith)
is_tabled (suc k) g (x ∷ []) n h = absurd (omega arith)
is_tabled (suc k) g (x ∷ y ∷ t) n h =
    let e : t ≡ tabled k (λ i. g (suc i)) = is_tabled k (λ i. g (suc i)) t (omega arith) (λ i l. sym (entry_next x y t i) ∙ h (suc i) (omega arith)) in
    λ i. (h 0 (omega arith) i).high ∷ (h 0 (omega arith) i).low ∷ e i

pub tabled_ext : (k : ℕ) (g h : ℕ → Vector) → ((i : ℕ) → i < k → g i ≡ h i) → tabled k g ≡ tabled k h
tabled_ext k g h e = is_tabled k h (tabled k g) (length_tabled k g) (λ i l. entry_tabled k g i l ∙ e i l)

-- ---- legal entries at the front
front_more : (m h l : ℕ) (t : List ℕ) → Legal m (record { high = h; low = l }) → legal_front m (h ∷ l ∷ t) ≡ suc (legal_front m t)
unfolding legal_front
front_more m h l t p = ap (pick (legal_front m t)) ((legal_test m (record { high = h; low = l })).1 p)
  where
    pick : ℕ → Bool → ℕ
    pick n b = elim b [ true ↦ suc n | false ↦ 0 ]

front_stop : (m h l : ℕ) (t : List ℕ) → (Legal m (record { high = h; low = l }) → ⊥) → legal_front m (h ∷ l ∷ t) ≡ 0
unfolding legal_front
front_stop m h l t p = ap (pick (legal_front m t)) (not-true _ (λ e. p ((legal_test m (record { high = h; low = l })).0 e)))
  where
    pick : ℕ → Bool → ℕ
    pick n b = elim b [ true ↦ suc n | false ↦ 0 ]

    not-true : (b : Bool) → (b ≡ true → ⊥) → b ≡ false
    not-true true n = absurd (n refl)
    not-true false n = refl

-- the front ends at the first entry that is not legal, or at the end of the table
pub front_is : (m : ℕ) (t : List ℕ) (k i : ℕ) → length t ≡ 2 * k → i ≤ k → ((j : ℕ) → j < i → Legal m (entry t j)) → (i < k → Legal m (entry t i) → ⊥) → legal_front m t ≡ i
unfolding entry legal_front
front_is m [] k i n h below stop = omega arith
front_is m (x ∷ []) k i n h below stop = absurd (omega arith)
front_is m (x ∷ y ∷ t) k zero n h below stop = front_stop m x y t (stop (omega arith))
front_is m (x ∷ y ∷ t) k (suc i) n h below stop =
    front_more m x y t (below 0 (omega arith))
    ∙ ap suc (front_is m t (k - 1) i (omega arith) (omega arith) (λ j l. rw (entry_next x y t j) at (below (suc j) (omega arith))) (λ l p. stop (omega arith) (rw (← entry_next x y t i) at p)))

-- i is the number of legal entries at the front of the k entries of t
pub record Front (m k : ℕ) (t : List ℕ) (i : ℕ) : Type 0 where
  pub most : i ≤ k
  pub below : (j : ℕ) → j < i → Legal m (entry t j)
  pub stop : i < k → Legal m (entry t i) → ⊥

front_none : (m k h l : ℕ) (t : List ℕ) → (Legal m (record { high = h; low = l }) → ⊥) → Front m k (h ∷ l ∷ t) 0
unfolding entry
front_none m k h l t p = record { most = omega arith; below = λ j z. absurd (omega arith); stop = λ z q. p q }

front_next : (m k h l : ℕ) (t : List ℕ) (i : ℕ) → Legal m (record { high = h; low = l }) → Front m k t i → Front m (suc k) (h ∷ l ∷ t) (suc i)
unfolding entry
front_next m k h l t i p f =
    record {
      most = omega (arith, f.most);
      below = λ j z. at j z;
      stop = λ z q. f.stop (omega arith) (rw (entry_next h l t i) at q);
    }
  where
    at : (j : ℕ) → j < suc i → Legal m (entry (h ∷ l ∷ t) j)
    at zero z = p
    at (suc j) z = rw (entry_next h l t j) (f.below j (omega arith))

pub front_of : (m k : ℕ) (t : List ℕ) → length t ≡ 2 * k → Front m k t (legal_front m t)
unfolding legal_front
front_of m k [] n = record { most = omega arith; below = λ j z. absurd (omega arith); stop = λ z q. absurd (omega arith) }
front_of m zero (x ∷ []) n = absurd (omega arith)
front_of m (suc k) (x ∷ []) n = absurd (omega arith)
front_of m zero (x ∷ y ∷ t) n = absurd (omega arith)
front_of m (suc k) (x ∷ y ∷ t) n =
    by_cases (Bool-discrete (is_legal m (record { high = x; low = y })) true)
    (λ e. let p = (legal_test m (record { high = x; low = y })).0 e in rw (front_more m x y t p) (front_next m k x y t (legal_front m t) p (front_of m k t (omega arith))))
    (λ d.
    let p : Legal m (record { high = x; low = y }) → ⊥ = λ l. d ((legal_test m (record { high = x; low = y })).1 l) in
    rw (front_stop m x y t p) (front_none m (suc k) x y t p))

-- all k entries are legal where the front is all of them
pub front_whole : (m k : ℕ) (t : List ℕ) → length t ≡ 2 * k → (legal_front m t ≡ k) ↔ ((j : ℕ) → j < k → Legal m (entry t j))
front_whole m k t n = (
  (λ e j h. (front_of m k t n).below j (omega arith)),
  (λ all. front_is m t k k n (omega arith) all (λ h. absurd (omega arith))),
)

-- ---- systems and their words
pub entry_words : (n m : ℕ) (F : ℕ → Poly) (k : ℕ) → k < count_of n → entry (words_of n m F) k ≡ of_trits m (λ e. nth n (F e) k)
unfolding words_of
entry_words n m F k h = entry_tabled (count_of n) (λ k. of_trits m (λ e. nth n (F e) k)) k h

-- a table made of vectors of trits is legal
pub table_of_lem : (n m : ℕ) (f : ℕ → ℕ → ℕ) → Table n m (tabled (count_of n) (λ k. of_trits m (f k)))
table_of_lem n m f =
    record { size = length_tabled _ _; legal = λ k h. rw (entry_tabled (count_of n) (λ k. of_trits m (f k)) k h) (legal_of m (f k)) }

pub words_table : (n m : ℕ) (F : ℕ → Poly) → Table n m (words_of n m F)
unfolding words_of
words_table n m F = table_of_lem n m (λ k e. nth n (F e) k)

trit_words : (n m : ℕ) (F : ℕ → Poly) (k e : ℕ) → k < count_of n → e < m → trit (entry (words_of n m F) k) e ≡ nth n (F e) k % 3
trit_words n m F k e h l = ap (λ (v : Vector). trit v e) (entry_words n m F k h) ∙ trit_of m (λ e. nth n (F e) k) e l

-- the system that a table of words holds is the one that it was made from, modulo 3
pub const_words : (n m : ℕ) (F : ℕ → Poly) (e : ℕ) → e < m → (poly_at n (words_of n m F) e).const ≡ (F e).const % 3
unfolding poly_at
const_words n m F e l = trit_words n m F 0 e (omega (arith, count_is n)) l ∙ ap (λ (x : ℕ). x % 3) (nth_const n (F e))

pub lin_words : (n m : ℕ) (F : ℕ → Poly) (e i : ℕ) → e < m → i < n → (poly_at n (words_of n m F) e).lin i ≡ (F e).lin i % 3
unfolding poly_at
lin_words n m F e i l h = trit_words n m F (1 + i) e (omega (arith, count_is n)) l ∙ ap (λ (x : ℕ). x % 3) (nth_lin n (F e) i h)

pub quad_words : (n m : ℕ) (F : ℕ → Poly) (e i j : ℕ) → e < m → i ≤ j → j < n → (poly_at n (words_of n m F) e).quad i j ≡ (F e).quad i j % 3
unfolding poly_at
quad_words n m F e i j l h k = trit_words n m F (index_of n i j) e (index_lt n i j h k) l ∙ ap (λ (x : ℕ). x % 3) (nth_quad n (F e) i j h k)

-- coefficient k of the system that a table holds is its entry k
pub nth_poly : (n : ℕ) (t : List ℕ) (e k : ℕ) → k < count_of n → nth n (poly_at n t e) k ≡ trit (entry t k) e
unfolding poly_at
nth_poly n t e =
    by_monomial n (λ k. nth n (poly_at n t e) k ≡ trit (entry t k) e) (nth_const n (poly_at n t e))
    (λ i h. nth_lin n (poly_at n t e) i h) (λ i j h l. nth_quad n (poly_at n t e) i j h l)

-- a legal table is the words of the system that it holds
pub is_words : (n m : ℕ) (t : List ℕ) → Table n m t → t ≡ words_of n m (poly_at n t)
unfolding words_of
is_words n m t l =
    is_tabled (count_of n) (λ k. of_trits m (λ e. nth n (poly_at n t e) k)) t l.size
    (λ k h. is_of m (λ e. nth n (poly_at n t e) k) (entry t k) (l.legal k h)
    (λ e z. sym (mod-eq_of_lt (trit_lt (entry t k) e)) ∙ ap (λ (x : ℕ). x % 3) (sym (nth_poly n t e k h))))

-- systems that are equal modulo 3 have equal words
pub words_ext : (n m : ℕ) (F G : ℕ → Poly) → ((e : ℕ) → e < m → (k : ℕ) → k < count_of n → nth n (F e) k % 3 ≡ nth n (G e) k % 3) → words_of n m F ≡ words_of n m G
unfolding words_of
words_ext n m F G h =
    tabled_ext (count_of n) (λ k. of_trits m (λ e. nth n (F e) k)) (λ k. of_trits m (λ e. nth n (G e) k))
    (λ k l. of_ext m (λ e. nth n (F e) k) (λ e. nth n (G e) k) (λ e z. h e z k l))
