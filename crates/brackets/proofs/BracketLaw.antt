-- The code's vectors hold the numbers of the brackets: what each reads stands before what is made of it.
use mathlib.Core.Path.{◌≡◌, refl, sym, ap, ap₂, ◌∙◌}
use mathlib.Core.List.{List}
use mathlib.Core.Logic.{by_cases}
use Prim.Native.Nat.{ℕ, zero, suc, ◌+◌, ◌-◌, ◌*◌, ◌%◌, ◌≤◌, ◌<◌}
use native.Mathlib.Nat.{mod-eq_of_lt}
use native.Mathlib.Decide.{dec_lt}
use native.Mathlib.Omega.{arith}
use Rattle.residues.specs.Sums.{same}
use Rattle.residues.proofs.SumLaw.{same_self, same_other}
use Rattle.residues.proofs.ModLaw.{Cong, cof, csym, ◌⨾◌, cdrop}
use Rattle.trits.specs.declared.Vector.{Vector}
use Rattle.trits.specs.Trit.{trit, Holds, none}
use Rattle.trits.specs.Words.{Added, Negated}
use Rattle.trits.proofs.LegalLaw.{bit_zero}
use Rattle.trits.proofs.HoldLaw.{holds_ext, holds_add, holds_negate}
use Rattle.tables.specs.Monomials.{count_of, row_start}
use Rattle.tables.specs.Words.{entry}
use Rattle.trits.proofs.LegalLaw.{trit_lt}
use Rattle.cubics.specs.Triples.{Triples, prev3, low3, high3, table_of3}
use Rattle.cubics.proofs.BackLaw.{low_same, low_other, table_all_same, table_all_other}
use Rattle.cubic_tables.specs.Order.{cubic_count, triple_index, triple_start}
use Rattle.brackets.specs.Brackets.{brackets_at, entries_at, cell_of, back_cell, extra_single, extra_pair}
use Rattle.cubic_tables.specs.Words.{CubicTable}
use Rattle.brackets.specs.Brackets.{Known}
use Rattle.cubic_tables.proofs.OrderLaw.{row_order, row_far, index_at, rank_low, triple_lt, triple_ge, plane_next, cube_last}

-- ---- which triple stands before which
pub row_less : (n b c d y z : ℕ) → b ≤ c → c ≤ d → b < d → d < n → c < y → y ≤ z → triple_index n b c d + 1 ≤ triple_index n b y z
row_less n b c d y z h l m o p q =
    rw (index_at n b c d, index_at n b y z) (is (count_of n + triple_start n b) (row_start n c) (row_start n b) (row_start n y) (d - c) (n - c) (z - y) (row_order n b c h) (row_far n c y p) (omega arith) (rank_low n b c d h l m o))
  where
    is : (k x w u a e i : ℕ) → w ≤ x → x + e ≤ u → a < e → 1 ≤ x - w + a → k + (x - w + a - 1) + 1 ≤ k + (u - w + i - 1)
    is k x w u a e i f g h o = omega arith

pub place_less : (n b c d z : ℕ) → b ≤ c → c ≤ d → b < d → d < n → d < z → triple_index n b c d + 1 ≤ triple_index n b c z
place_less n b c d z h l m o p =
    rw (index_at n b c d, index_at n b c z) (is (count_of n + triple_start n b) (row_start n c - row_start n b) (rank_low n b c d h l m o))
  where
    is : (k w : ℕ) → 1 ≤ w + (d - c) → k + (w + (d - c) - 1) + 1 ≤ k + (w + (z - c) - 1)
    is k w e = omega arith

pub plane_less : (n b c d : ℕ) → b ≤ c → c ≤ d → b < d → d < n → triple_index n b c d + 1 ≤ triple_index n (suc b) (suc b) (suc b)
plane_less n b c d h l m o = rw (plane_next n b (omega arith)) (row_less n b c d n n h l m o (omega arith) (omega arith))

pub start_le : (n b c d : ℕ) → b ≤ c → triple_index n b b b ≤ triple_index n b c d
start_le n b c d h = rw (index_at n b b b, index_at n b c d) (is (count_of n + triple_start n b) (row_start n b) (row_start n c))
  where
    is : (k x w : ℕ) → k + (x - x + (b - b) - 1) ≤ k + (w - x + (d - c) - 1)
    is k x w = omega arith

pub place_le : (n b c d : ℕ) → c ≤ d → triple_index n b c c ≤ triple_index n b c d
place_le n b c d h = rw (index_at n b c c, index_at n b c d) (is (count_of n + triple_start n b) (row_start n c - row_start n b))
  where
    is : (k w : ℕ) → k + (w + (c - c) - 1) ≤ k + (w + (d - c) - 1)
    is k w = omega arith

pub prior_less : (n b k : ℕ) → 0 < b → b ≤ k → k < n → triple_index n (b - 1) b k + 1 ≤ triple_index n b b b
prior_less n zero k z h o = absurd (omega arith)
prior_less n (suc b) k z h o = let e : suc b - 1 ≡ b = omega arith in rw e (plane_less n b (suc b) k (omega arith) h (omega arith) o)

pub low_count : (n b c : ℕ) → b < c → c < n → triple_index n b c c ≤ cubic_count n
low_count n b c h l = omega (arith, triple_lt n b c c (omega arith) (omega arith) h l)

pub start_count : (n b : ℕ) → b < n → triple_index n b b b ≤ cubic_count n
start_count n b h = by_cases (dec_lt (suc b) n) (λ l. omega (arith, start_le n b (suc b) (suc b) (omega arith), low_count n b (suc b) (omega arith) l))
    (λ l. let e : n ≡ suc b = omega arith in omega (arith, plane_next n b h, start_le n b n n (omega arith), same n (suc b) e, cube_last n))
  where
    same : (n x : ℕ) → n ≡ x → triple_index n x x x ≡ triple_index n n n n
    same n x e = rw e refl

-- ---- what is known
pub known_le : (n m : ℕ) (g : List ℕ) (j k : ℕ) (t : List ℕ) → k ≤ j → Known n m g j t → Known n m g k t
known_le n m g j k t h w = record { table = w.table; same = λ i a b. w.same i a (omega arith) }

pub known_self : (n m : ℕ) (t : List ℕ) (k : ℕ) → CubicTable n m t → Known n m t k t
known_self n m t k l = record { table = l; same = λ i a b. refl }

-- an entry that is known
module _ (n m : ℕ) (g t : List ℕ) where
  holds_entry : (k : ℕ) (v : Vector) → count_of n ≤ k → k < cubic_count n → Known n m g (k + 1) t → v ≡ entry t k → Holds m (trit (entry g k)) v
  holds_entry k v a h w e =
      let z : v ≡ entry g k = e ∙ w.same k a (omega arith) in
      rw z (record { legal = w.table.legal k h; each = λ i l. sym (mod-eq_of_lt (trit_lt (entry g k) i)) })

  -- ---- the brackets
  module _ (b k : ℕ) (l : b < k) (o : k < n) where
    pub two_holds : (v r : Vector) → v ≡ entry t (triple_index n b b k) → Negated v r → Known n m g (triple_index n b b k + 1) t → Holds m (λ e. (brackets_at n g e).two b k) r
    unfolding brackets_at
    two_holds v r x y w = holds_negate y (holds_entry (triple_index n b b k) v (triple_ge n b b k) (triple_lt n b b k (omega arith) (omega arith) l o) w x)

  module _ (b c k : ℕ) (l : b < c) (h : c ≤ k) (o : k < n) where
    pub all_other : (v : Vector) → v ≡ entry t (triple_index n b c k) → (c ≡ k → ⊥) → Known n m g (triple_index n b c k + 1) t → Holds m (λ e. (brackets_at n g e).all b c k) v
    unfolding brackets_at
    all_other v x d w = rw (same_other c k d, brackets_at) (holds_entry (triple_index n b c k) v (triple_ge n b c k) (triple_lt n b c k (omega arith) h (omega arith) o) w x)

    pub all_same : (v r : Vector) → v ≡ entry t (triple_index n b c k) → c ≡ k → Negated v r → Known n m g (triple_index n b c k + 1) t → Holds m (λ e. (brackets_at n g e).all b c k) r
    unfolding brackets_at
    all_same v r x d y w = rw (ap (same c) (sym d) ∙ same_self c, brackets_at) (holds_negate y (holds_entry (triple_index n b c k) v (triple_ge n b c k) (triple_lt n b c k (omega arith) h (omega arith) o) w x))

-- ---- numbers modulo 3 and vectors
pub holds_eq : {m : ℕ} {f g : ℕ → ℕ} {v : Vector} → ((e : ℕ) → f e ≡ g e) → Holds m g v → Holds m f v
holds_eq h = holds_ext (λ e l. ap (λ (x : ℕ). x % 3) (sym (h e)))

holds_cong : {m : ℕ} {f g : ℕ → ℕ} {v : Vector} → ((e : ℕ) → Cong 3 (g e) (f e)) → Holds m g v → Holds m f v
holds_cong h = holds_ext (λ e l. (h e).same)

pub holds_none : (m : ℕ) → Holds m (λ e. 0) none
unfolding trit
holds_none m = record { legal = record { paired = λ e. omega (arith, bit_zero e); above = λ e h. bit_zero e }; each = λ e l. ap₂ (λ (x y : ℕ). x + y) (bit_zero e) (bit_zero e) }

-- ---- definitions by cases
prev_some : (t : Triples) (b k : ℕ) → 0 < b → prev3 t b k ≡ t.all (b - 1) b k
unfolding prev3
prev_some t zero k h = absurd (omega arith)
prev_some t (suc b) k h = let e : suc b - 1 ≡ b = omega arith in ap (λ (x : ℕ). t.all x (suc b) k) (sym e)

prev_none : (t : Triples) (b k : ℕ) → b ≡ 0 → prev3 t b k ≡ 0
unfolding prev3
prev_none t b k e = rw e

low_one : (t : Triples) (b c : ℕ) → c ≡ suc b → low3 t b c ≡ t.two b c + prev3 t b b
low_one t b c e = rw e (low_same t b)

low_more : (t : Triples) (b c p : ℕ) → c ≡ suc p → (b ≡ p → ⊥) → low3 t b c ≡ t.two b p + t.all b p c + prev3 t b p
low_more t b c p e d = rw e (low_other t b p d)

pub cell_two : (t : Triples) (b c d : ℕ) → b ≡ c → cell_of t b c d ≡ t.two b d
unfolding cell_of
cell_two t b c d e = rw (ap (same b) (sym e) ∙ same_self b, cell_of)

pub cell_all : (t : Triples) (b c d : ℕ) → (b ≡ c → ⊥) → cell_of t b c d ≡ t.all b c d
unfolding cell_of
cell_all t b c d e = rw (same_other b c e, cell_of)

pub back_two : (t e : Triples) (b c d : ℕ) → b ≡ c → back_cell t e b c d ≡ 2 * (e.two b d + prev3 t b d + 2 * prev3 t b b)
unfolding back_cell
back_two t e b c d i = rw (ap (same b) (sym i) ∙ same_self b, back_cell)

pub back_same : (t e : Triples) (b c d : ℕ) → (b ≡ c → ⊥) → c ≡ d → back_cell t e b c d ≡ 2 * (e.all b c d + low3 t b c + 2 * (t.two b d + prev3 t b d))
unfolding back_cell
back_same t e b c d i j = rw (same_other b c i, ap (same c) (sym j) ∙ same_self c, back_cell)

pub back_other : (t e : Triples) (b c d : ℕ) → (b ≡ c → ⊥) → (c ≡ d → ⊥) → back_cell t e b c d ≡ e.all b c d + 2 * e.all b c c + low3 t b c + 2 * (t.two b d + prev3 t b d)
unfolding back_cell
back_other t e b c d i j = rw (same_other b c i, same_other c d j, back_cell)

pub single_none : (t : Triples) (b : ℕ) → b ≡ 0 → extra_single t b ≡ 0
unfolding extra_single
single_none t b e = rw e

pub single_some : (t : Triples) (b : ℕ) → 0 < b → extra_single t b ≡ prev3 t b b + 2 * t.two (b - 1) b
unfolding extra_single
single_some t zero h = absurd (omega arith)
single_some t (suc b) h = let e : suc b - 1 ≡ b = omega arith in ap (λ (x : ℕ). prev3 t (suc b) (suc b) + 2 * t.two x (suc b)) (sym e)

pub pair_same : (t : Triples) (b c : ℕ) → b ≡ c → extra_pair t b c ≡ 2 * prev3 t b b
unfolding extra_pair
pair_same t b c e = rw (ap (same b) (sym e) ∙ same_self b, extra_pair)

pub pair_other : (t : Triples) (b c : ℕ) → (b ≡ c → ⊥) → extra_pair t b c ≡ 2 * (high3 t b c c + low3 t b c)
unfolding extra_pair
pair_other t b c e = rw (same_other b c e, extra_pair)

-- ---- the code's sums
module _ (n m : ℕ) (g : List ℕ) where
  pub prior_none : (b k : ℕ) → b ≡ 0 → Holds m (λ e. prev3 (brackets_at n g e) b k) none
  prior_none b k z = holds_eq (λ e. prev_none (brackets_at n g e) b k z) (holds_none m)

  pub prior_some : (b k : ℕ) (r : Vector) → 0 < b → Holds m (λ e. (brackets_at n g e).all (b - 1) b k) r → Holds m (λ e. prev3 (brackets_at n g e) b k) r
  prior_some b k r z h = holds_eq (λ e. prev_some (brackets_at n g e) b k z) h

  module _ (b c : ℕ) where
    pub high_holds : (k : ℕ) (x y s z r : Vector) → Added x y s → Added s z r → Holds m (λ e. (brackets_at n g e).two b k) x → Holds m (λ e. (brackets_at n g e).all b c k) y
        → Holds m (λ e. prev3 (brackets_at n g e) b k) z → Holds m (λ e. high3 (brackets_at n g e) b c k) r
    unfolding high3
    high_holds k x y s z r a d hx hy hz = holds_add d (holds_add a hx hy) hz

    pub low_first : (x z r : Vector) → c ≡ suc b → Added x z r → Holds m (λ e. (brackets_at n g e).two b c) x → Holds m (λ e. prev3 (brackets_at n g e) b b) z → Holds m (λ e. low3 (brackets_at n g e) b c) r
    low_first x z r i a hx hz = holds_eq (λ e. low_one (brackets_at n g e) b c i) (holds_add a hx hz)

    pub low_later : (p : ℕ) (x y s z r : Vector) → c ≡ suc p → (b ≡ p → ⊥) → Added x y s → Added s z r → Holds m (λ e. (brackets_at n g e).two b p) x → Holds m (λ e. (brackets_at n g e).all b p c) y
        → Holds m (λ e. prev3 (brackets_at n g e) b p) z → Holds m (λ e. low3 (brackets_at n g e) b c) r
    low_later p x y s z r i j a d hx hy hz = holds_eq (λ e. low_more (brackets_at n g e) b c p i j) (holds_add d (holds_add a hx hy) hz)

    -- differences
    pub difference_two : (d : ℕ) (x p q s z r : Vector) → b ≡ c → Negated p q → Added x q s → Added s z r → Holds m (λ e. (brackets_at n g e).two b d) x
        → Holds m (λ e. prev3 (brackets_at n g e) b d) p → Holds m (λ e. prev3 (brackets_at n g e) b b) z → Holds m (λ e. cell_of (table_of3 (brackets_at n g e)) b c d) r
    unfolding table_of3
    difference_two d x p q s z r i a u w hx hp hz =
        holds_cong (λ e. csym (cdrop ((brackets_at n g e).two b d + 2 * prev3 (brackets_at n g e) b d + prev3 (brackets_at n g e) b b)) ⨾ cof (sym (cell_two (table_of3 (brackets_at n g e)) b c d i)))
        (holds_add w (holds_add u hx (holds_negate a hp)) hz)

    pub difference_same : (d : ℕ) (h l q r : Vector) → (b ≡ c → ⊥) → c ≡ d → Negated l q → Added h q r → Holds m (λ e. high3 (brackets_at n g e) b c c) h
        → Holds m (λ e. low3 (brackets_at n g e) b c) l → Holds m (λ e. cell_of (table_of3 (brackets_at n g e)) b c d) r
    difference_same d h l q r i j a u hh hl =
        holds_cong (λ e. csym (cdrop (high3 (brackets_at n g e) b c c + 2 * low3 (brackets_at n g e) b c)) ⨾ cof (sym (cell_all (table_of3 (brackets_at n g e)) b c d i
        ∙ ap ((table_of3 (brackets_at n g e)).all b c) (sym j) ∙ table_all_same (brackets_at n g e) b c)))
        (holds_add u hh (holds_negate a hl))

    pub difference_other : (d : ℕ) (h k s l r : Vector) → (b ≡ c → ⊥) → (c ≡ d → ⊥) → Added h k s → Added s l r → Holds m (λ e. high3 (brackets_at n g e) b c c) h
        → Holds m (λ e. high3 (brackets_at n g e) b c d) k → Holds m (λ e. low3 (brackets_at n g e) b c) l → Holds m (λ e. cell_of (table_of3 (brackets_at n g e)) b c d) r
    difference_other d h k s l r i j a u hh hk hl =
        holds_cong (λ e. csym (cdrop (high3 (brackets_at n g e) b c c + high3 (brackets_at n g e) b c d + low3 (brackets_at n g e) b c)) ⨾ cof (sym (cell_all (table_of3 (brackets_at n g e)) b c d i
        ∙ table_all_other (brackets_at n g e) b c d j)))
        (holds_add u (holds_add a hh hk) hl)

-- an entry of a whole table
pub holds_whole : (n m : ℕ) (t : List ℕ) (b c d : ℕ) (v : Vector) → b ≤ c → c ≤ d → b < d → d < n → CubicTable n m t → v ≡ entry t (triple_index n b c d) → Holds m (λ e. (entries_at n t e).all b c d) v
unfolding entries_at
holds_whole n m t b c d v h l p o w e = holds_entry n m t t (triple_index n b c d) v (triple_ge n b c d) (triple_lt n b c d h l p o) (known_self n m t _ w) e

module _ (n m : ℕ) (f g : List ℕ) (b c d : ℕ) where
  pub coefficient_two : (x p s z q u r : Vector) → b ≡ c → Added x p s → Negated z q → Added s q u → Negated u r → Holds m (λ e. (entries_at n f e).all b c d) x
      → Holds m (λ e. prev3 (brackets_at n g e) b d) p → Holds m (λ e. prev3 (brackets_at n g e) b b) z → Holds m (λ e. back_cell (brackets_at n g e) (entries_at n f e) b c d) r
  unfolding entries_at
  coefficient_two x p s z q u r i a k v w hx hp hz =
      holds_eq (λ e. back_two (brackets_at n g e) (entries_at n f e) b c d i ∙ ap (λ (y : ℕ). 2 * (trit (entry f (triple_index n b y d)) e + prev3 (brackets_at n g e) b d + 2 * prev3 (brackets_at n g e) b b)) i)
      (holds_negate w (holds_add v (holds_add a hx hp) (holds_negate k hz)))

  pub coefficient_same : (x p l y s minus v u r : Vector) → (b ≡ c → ⊥) → c ≡ d → Added y p s → Negated s minus → Added x l v → Added v minus u → Negated u r → Holds m (λ e. (entries_at n f e).all b c d) x
      → Holds m (λ e. prev3 (brackets_at n g e) b d) p → Holds m (λ e. low3 (brackets_at n g e) b c) l → Holds m (λ e. (brackets_at n g e).two b d) y → Holds m (λ e. back_cell (brackets_at n g e) (entries_at n f e) b c d) r
  coefficient_same x p l y s minus v u r i j a1 a2 a3 a4 a5 hx hp hl hy =
      holds_eq (λ e. back_same (brackets_at n g e) (entries_at n f e) b c d i j) (holds_negate a5 (holds_add a4 (holds_add a3 hx hl) (holds_negate a2 (holds_add a1 hy hp))))

  pub coefficient_other : (x p l y s minus k q w v r : Vector) → (b ≡ c → ⊥) → (c ≡ d → ⊥) → Added y p s → Negated s minus → Negated k q → Added x q w → Added w l v → Added v minus r
      → Holds m (λ e. (entries_at n f e).all b c d) x → Holds m (λ e. prev3 (brackets_at n g e) b d) p → Holds m (λ e. low3 (brackets_at n g e) b c) l → Holds m (λ e. (brackets_at n g e).two b d) y
      → Holds m (λ e. (entries_at n f e).all b c c) k → Holds m (λ e. back_cell (brackets_at n g e) (entries_at n f e) b c d) r
  coefficient_other x p l y s minus k q w v r i j a1 a2 a3 a4 a5 a6 hx hp hl hy hk =
      holds_eq (λ e. back_other (brackets_at n g e) (entries_at n f e) b c d i j) (holds_add a6 (holds_add a5 (holds_add a4 hx (holds_negate a3 hk)) hl) (holds_negate a2 (holds_add a1 hy hp)))
