-- Words as bytes: reading and writing by halves, pasting one part after another, and the round trips.
use Rattle.std.specs.Int.{w64, byte_at, bytes_low_first, to_le_bytes, from_le_bytes}
use mathlib.Core.Path.{◌≡◌, refl, sym, ap, ap₂, subst, ◌∙◌}
use mathlib.Core.List.{List, [], ◌∷◌, ◌++◌, append_assoc, append-nil}
use Prim.Native.Nat.{ℕ, zero, suc, ◌+◌, ◌-◌, ◌*◌, ◌/◌, ◌%◌, ◌^◌, ◌≤◌, ◌<◌}
use native.Mathlib.Numerals.{add-one}
use native.Mathlib.Omega.{arith}
use native.Mathlib.Nat.{pow-succ', div-div-eq-div-mul}
use lib.ListN.{length, get_or, take, drop, length-append, length-take, length-drop, take-append-drop}
use lib.Seq.{drop-length, get_or-drop, get_or-take, take-suc, drop-drop, length-take-le, take_at, drop_at}
use Rattle.codec.specs.Codec.{value_of, bytes_of, word_at, words_of, bytes_from, pasted, AllBelow}

pub value_nil : value_of [] ≡ 0
unfolding value_of
value_nil = refl

pub value_cons : (b : ℕ) (bs : List ℕ) → value_of (b ∷ bs) ≡ b + 256 * value_of bs
unfolding value_of
value_cons b bs = refl

pub bytes_zero : (w : ℕ) → bytes_of 0 w ≡ []
unfolding bytes_of
bytes_zero w = refl

pub bytes_suc : (k w : ℕ) → bytes_of (suc k) w ≡ w % 256 ∷ bytes_of k (w / 256)
unfolding bytes_of
bytes_suc k w = refl

-- eight bytes are the number that they stand for, and back
pub value_eight : (l : List ℕ) → length l ≡ 8 → from_le_bytes w64 l ≡ value_of l
unfolding value_of
value_eight (a ∷ b ∷ c ∷ d ∷ e ∷ f ∷ g ∷ h ∷ []) n = omega arith
value_eight [] n = absurd (omega (arith, n))
value_eight (a ∷ []) n = absurd (omega (arith, n))
value_eight (a ∷ b ∷ []) n = absurd (omega (arith, n))
value_eight (a ∷ b ∷ c ∷ []) n = absurd (omega (arith, n))
value_eight (a ∷ b ∷ c ∷ d ∷ []) n = absurd (omega (arith, n))
value_eight (a ∷ b ∷ c ∷ d ∷ e ∷ []) n = absurd (omega (arith, n))
value_eight (a ∷ b ∷ c ∷ d ∷ e ∷ f ∷ []) n = absurd (omega (arith, n))
value_eight (a ∷ b ∷ c ∷ d ∷ e ∷ f ∷ g ∷ []) n = absurd (omega (arith, n))
value_eight (a ∷ b ∷ c ∷ d ∷ e ∷ f ∷ g ∷ h ∷ i ∷ l) n = absurd (omega (arith, n))

byte_is : (i n : ℕ) → byte_at i n ≡ n / 256 ^ i % 256
byte_is zero n = omega arith
byte_is (suc i) n = refl

bytes_low : (i k n : ℕ) → bytes_low_first i k n ≡ bytes_of k (n / 256 ^ i)
unfolding bytes_of
bytes_low i zero n = refl
bytes_low i (suc k) n =
    let m : 256 * 256 ^ i ≡ 256 ^ i * 256 = omega arith in
    let e : n / 256 ^ suc i ≡ n / 256 ^ i / 256 = ap (λ (p : ℕ). n / p) (pow-succ' 256 i ∙ m) ∙ sym (div-div-eq-div-mul n (256 ^ i) 256) in
    ap₂ (λ (b : ℕ) (bs : List ℕ). b ∷ bs) (byte_is i n) (bytes_low (suc i) k n ∙ ap (bytes_of k) e)

pub bytes_eight : (w : ℕ) → to_le_bytes w64 w ≡ bytes_of 8 w
bytes_eight w = bytes_low 0 8 w ∙ ap (bytes_of 8) (omega arith)

pub length_bytes : (k w : ℕ) → length (bytes_of k w) ≡ k
unfolding bytes_of
length_bytes zero w = refl
length_bytes (suc k) w = ap suc (length_bytes k (w / 256))

pub length_pasted : (l : List ℕ) (at : ℕ) (vs : List ℕ) → at + length vs ≤ length l → length (pasted l at vs) ≡ length l
length_pasted l at vs h =
    let a : at ≤ length l = omega arith in
    length-append (take at l) (vs ++ drop (at + length vs) l)
    ∙ omega (arith, length-take-le at l a, length-append vs (drop (at + length vs) l), length-drop (at + length vs) l)

pub paste_paste : (l : List ℕ) (at : ℕ) (u v : List ℕ) → at + length u + length v ≤ length l → pasted (pasted l at u) (at + length u) v ≡ pasted l at (u ++ v)
paste_paste l at u v h =
    let a : at ≤ length l = omega arith in
    let p = take at l ++ u in
    let n : length p ≡ at + length u = length-append (take at l) u ∙ ap (λ (k : ℕ). k + length u) (length-take-le at l a) in
    let e : pasted l at u ≡ p ++ drop (at + length u) l = sym (append_assoc (take at l) u (drop (at + length u) l)) in
    let f : take (at + length u) (pasted l at u) ≡ p = ap (take (at + length u)) e ∙ take_at p (drop (at + length u) l) (at + length u) n in
    let z : at + length u + length v ≡ at + length (u ++ v) = omega (arith, length-append u v) in
    let g : drop (at + length u + length v) (pasted l at u) ≡ drop (at + length (u ++ v)) l =
    sym (drop-drop (length v) (at + length u) (pasted l at u))
    ∙ ap (λ (m : List ℕ). drop (length v) (drop (at + length u) m)) e
    ∙ ap (drop (length v)) (drop_at p (drop (at + length u) l) (at + length u) n)
    ∙ drop-drop (length v) (at + length u) l
    ∙ ap (λ (k : ℕ). drop k l) z
    in
    ap (λ (m : List ℕ). m ++ (v ++ drop (at + length u + length v) (pasted l at u))) f
    ∙ ap (λ (m : List ℕ). p ++ (v ++ m)) g
    ∙ append_assoc (take at l) u (v ++ drop (at + length (u ++ v)) l)
    ∙ ap (λ (m : List ℕ). take at l ++ m) (sym (append_assoc u v (drop (at + length (u ++ v)) l)))

pub paste_none : (l : List ℕ) (at : ℕ) → l ≡ pasted l at []
paste_none l at =
    let z : at ≡ at + 0 = omega arith in
    sym (take-append-drop at l) ∙ ap (λ (k : ℕ). take at l ++ drop k l) z

-- the words, one more at the end
pub words_zero : (b : List ℕ) → words_of 0 b ≡ []
unfolding words_of
words_zero b = refl

pub words_more : (i : ℕ) (b : List ℕ) → words_of (suc i) b ≡ words_of i b ++ (word_at b i ∷ [])
unfolding words_of
words_more zero b = refl
words_more (suc i) b =
    let e : 8 + 8 * i ≡ 8 * suc i = omega arith in
    ap (λ (m : List ℕ). value_of (take 8 b) ∷ m) (words_more i (drop 8 b) ∙ ap (λ (m : List ℕ). words_of i (drop 8 b) ++ (value_of (take 8 m) ∷ [])) (drop-drop (8 * i) 8 b ∙ ap (λ (k : ℕ). drop k b) e))

pub length_words : (k : ℕ) (b : List ℕ) → length (words_of k b) ≡ k
unfolding words_of
length_words zero b = refl
length_words (suc k) b = ap suc (length_words k (drop 8 b))

-- the words of two parts
pub words_join : (j k : ℕ) (b : List ℕ) → words_of (j + k) b ≡ words_of j b ++ words_of k (drop (8 * j) b)
unfolding words_of
words_join zero k b = ap (λ (i : ℕ). words_of i b) (plain k)
  where
    plain : (k : ℕ) → 0 + k ≡ k
    plain k = omega arith
words_join (suc j) k b =
    ap (λ (i : ℕ). words_of i b) (next j k)
    ∙ ap (λ (m : List ℕ). value_of (take 8 b) ∷ m) (words_join j k (drop 8 b) ∙ ap (λ (m : List ℕ). words_of j (drop 8 b) ++ words_of k m) (drop-drop (8 * j) 8 b ∙ ap (λ (i : ℕ). drop i b) (eight j)))
  where
    next : (j k : ℕ) → suc j + k ≡ suc (j + k)
    next j k = omega arith

    eight : (j : ℕ) → 8 + 8 * j ≡ 8 * suc j
    eight j = omega arith

pub from_append : (u v : List ℕ) → bytes_from (u ++ v) ≡ bytes_from u ++ bytes_from v
unfolding bytes_from
from_append [] v = refl
from_append (w ∷ u) v = ap (λ (m : List ℕ). bytes_of 8 w ++ m) (from_append u v) ∙ sym (append_assoc (bytes_of 8 w) (bytes_from u) (bytes_from v))

pub from_nil : bytes_from [] ≡ []
unfolding bytes_from
from_nil = refl

pub from_one : (w : ℕ) → bytes_from (w ∷ []) ≡ bytes_of 8 w
unfolding bytes_from
from_one w = append-nil (bytes_of 8 w)

pub length_from : (u : List ℕ) → length (bytes_from u) ≡ 8 * length u
unfolding bytes_from
length_from [] = refl
length_from (w ∷ u) = length-append (bytes_of 8 w) (bytes_from u) ∙ omega (arith, length_bytes 8 w, length_from u)

-- ---- round trips

pub value_bytes : (k w : ℕ) → w < 256 ^ k → value_of (bytes_of k w) ≡ w
unfolding bytes_of
value_bytes zero w h = value_nil ∙ omega (arith, h)
value_bytes (suc k) w h =
    let p : w < 256 * 256 ^ k = subst (λ (n : ℕ). w < n) (pow-succ' 256 k) h in
    let q : w / 256 < 256 ^ k = omega (arith, p) in
    value_cons (w % 256) (bytes_of k (w / 256)) ∙ ap (λ (n : ℕ). w % 256 + 256 * n) (value_bytes k (w / 256) q) ∙ omega arith

pub below_tail : (m b : ℕ) (bs : List ℕ) → AllBelow m (b ∷ bs) → AllBelow m bs
below_tail m b bs h = record { each = λ i l. h.each (suc i) (omega (arith, l)) }

pub below_drop : (m k : ℕ) (l : List ℕ) → AllBelow m l → AllBelow m (drop k l)
below_drop m k l h = record { each = λ i j. subst (λ (n : ℕ). n < m) (sym (get_or-drop k l i 0)) (h.each (k + i) (omega (arith, j, length-drop k l))) }

below_take : (m k : ℕ) (l : List ℕ) → AllBelow m l → AllBelow m (take k l)
below_take m k l h =
    record { each = λ i j. let e = length-take k l in subst (λ (n : ℕ). n < m) (sym (get_or-take k l i 0 (omega (arith, j, e)))) (h.each i (omega (arith, j, e))) }

pub bytes_value : (l : List ℕ) → AllBelow 256 l → bytes_of (length l) (value_of l) ≡ l
bytes_value [] h = bytes_zero (value_of [])
bytes_value (b ∷ bs) h =
    let p : b < 256 = h.each 0 (omega arith) in
    let q : (b + 256 * value_of bs) % 256 ≡ b = omega (arith, p) in
    let r : (b + 256 * value_of bs) / 256 ≡ value_of bs = omega (arith, p) in
    rw (value_cons, bytes_suc, q, r) (ap (λ (m : List ℕ). b ∷ m) (bytes_value bs (below_tail 256 b bs h)))

pub words_bytes : (ws : List ℕ) → AllBelow (2 ^ 64) ws → words_of (length ws) (bytes_from ws) ≡ ws
unfolding words_of bytes_from
words_bytes [] h = refl
words_bytes (w ∷ ws) h =
    let p : w < 256 ^ 8 = h.each 0 (omega arith) in
    let e : take 8 (bytes_of 8 w ++ bytes_from ws) ≡ bytes_of 8 w = take_at (bytes_of 8 w) (bytes_from ws) 8 (length_bytes 8 w) in
    let f : drop 8 (bytes_of 8 w ++ bytes_from ws) ≡ bytes_from ws = drop_at (bytes_of 8 w) (bytes_from ws) 8 (length_bytes 8 w) in
    ap (λ (m : List ℕ). value_of m ∷ words_of (length ws) (drop 8 (bytes_of 8 w ++ bytes_from ws))) e
    ∙ ap (λ (n : ℕ). n ∷ words_of (length ws) (drop 8 (bytes_of 8 w ++ bytes_from ws))) (value_bytes 8 w p)
    ∙ ap (λ (m : List ℕ). w ∷ words_of (length ws) m) f
    ∙ ap (λ (m : List ℕ). w ∷ m) (words_bytes ws (below_tail (2 ^ 64) w ws h))

pub bytes_words : (k : ℕ) (b : List ℕ) → length b ≡ 8 * k → AllBelow 256 b → bytes_from (words_of k b) ≡ b
unfolding words_of bytes_from
bytes_words zero [] e h = refl
bytes_words zero (x ∷ b) e h = absurd (omega (arith, e))
bytes_words (suc k) b e h =
    let l : length (take 8 b) ≡ 8 = length-take-le 8 b (omega (arith, e)) in
    let d : length (drop 8 b) ≡ 8 * k = length-drop 8 b ∙ omega (arith, e) in
    let f : bytes_of 8 (value_of (take 8 b)) ≡ take 8 b = ap (λ (n : ℕ). bytes_of n (value_of (take 8 b))) (sym l) ∙ bytes_value (take 8 b) (below_take 256 8 b h) in
    ap (λ (m : List ℕ). m ++ bytes_from (words_of k (drop 8 b))) f ∙ ap (λ (m : List ℕ). take 8 b ++ m) (bytes_words k (drop 8 b) d (below_drop 256 8 b h)) ∙ take-append-drop 8 b

-- a word that is set is read again, at its place; and at another it is as it was
pub put_same : (b : List ℕ) (i w : ℕ) → w < 2 ^ 64 → 8 * i + 8 ≤ length b → word_at (pasted b (8 * i) (bytes_of 8 w)) i ≡ w
put_same b i w h g =
    let a : 8 * i ≤ length b = omega arith in
    ap (λ (m : List ℕ). value_of (take 8 m)) (drop_at (take (8 * i) b) (bytes_of 8 w ++ drop (8 * i + length (bytes_of 8 w)) b) (8 * i) (length-take-le (8 * i) b a))
    ∙ ap value_of (take_at (bytes_of 8 w) (drop (8 * i + length (bytes_of 8 w)) b) 8 (length_bytes 8 w))
    ∙ value_bytes 8 w h

-- ---- what the functions do

-- eight bytes written in their place
pub put_eight : (l : List ℕ) (at w : ℕ) (bs : List ℕ) → bs ≡ bytes_of 8 w
    → take at l ++ (bs ++ drop (at + 8 - at) (drop at l)) ≡ pasted l at (bytes_of 8 w)
put_eight l at w bs e =
    let n : at + 8 - at ≡ 8 = omega arith in
    ap (λ (k : ℕ). take at l ++ (bs ++ drop k (drop at l))) n
    ∙ ap (λ (m : List ℕ). take at l ++ (bs ++ m)) (drop-drop 8 at l)
    ∙ ap (λ (v : List ℕ). take at l ++ (v ++ drop (at + 8) l)) e
    ∙ ap (λ (k : ℕ). take at l ++ (bytes_of 8 w ++ drop (at + k) l)) (sym (length_bytes 8 w))

pub encode_turn : (l : List ℕ) (at i : ℕ) (ws : List ℕ) → i < length ws → 8 * (at + length ws) ≤ length l
    → pasted (pasted l (8 * at) (bytes_from (take i ws))) (8 * (at + i)) (bytes_of 8 (get_or ws i 0)) ≡ pasted l (8 * at) (bytes_from (take (i + 1) ws))
encode_turn l at i ws h g =
    let n : length (bytes_from (take i ws)) ≡ 8 * i = length_from (take i ws) ∙ ap (λ (k : ℕ). 8 * k) (length-take-le i ws (omega arith)) in
    let m = length_bytes 8 (get_or ws i 0) in
    let p : 8 * (at + i) ≡ 8 * at + length (bytes_from (take i ws)) = omega (arith, n) in
    ap (λ (k : ℕ). pasted (pasted l (8 * at) (bytes_from (take i ws))) k (bytes_of 8 (get_or ws i 0))) p
    ∙ paste_paste l (8 * at) (bytes_from (take i ws)) (bytes_of 8 (get_or ws i 0)) (omega (arith, n, m))
    ∙ ap (pasted l (8 * at)) (
    ap (λ (v : List ℕ). bytes_from (take i ws) ++ v) (sym (from_one (get_or ws i 0)))
    ∙ sym (from_append (take i ws) (get_or ws i 0 ∷ []))
    ∙ ap bytes_from (sym (take-suc ws i 0 h) ∙ ap (λ (k : ℕ). take k ws) (sym (add-one i)))
    )

pub pasted_length : (l l' : List ℕ) (at k w : ℕ) → l' ≡ pasted l at (bytes_of k w) → at + k ≤ length l → length l' ≡ length l
pasted_length l l' at k w e h = let n = length_bytes k w in ap length e ∙ length_pasted l at (bytes_of k w) (omega (arith, n))

-- words that take up all of the bytes
pub paste_whole : (b ws : List ℕ) → length b ≡ 8 * length ws → pasted b 0 (bytes_from ws) ≡ bytes_from ws
paste_whole b ws e =
    let n : 0 + length (bytes_from ws) ≡ length b = omega (arith, e, length_from ws) in
    ap (λ (k : ℕ). bytes_from ws ++ drop k b) n ∙ ap (λ (m : List ℕ). bytes_from ws ++ m) (drop-length b) ∙ append-nil (bytes_from ws)

-- the first k of the words to which `decode` was lent the front
pub decoded : (k : ℕ) (words b l : List ℕ) → k ≤ length words → l ≡ words_of (length (take k words)) b → take k (l ++ drop k words) ≡ words_of k b
decoded k words b l h e =
    let a : l ≡ words_of k b = e ∙ ap (λ (n : ℕ). words_of n b) (length-take-le k words h) in
    take_at l (drop k words) k (ap length a ∙ length_words k b) ∙ a

-- the bytes past j words are those of the words past j
pub drop_bytes : (j k : ℕ) (l : List ℕ) → j ≤ k → length l ≡ 8 * k → AllBelow 256 l → drop (8 * j) l ≡ bytes_from (drop j (words_of k l))
drop_bytes j k l h e a =
    let w = words_of k l in
    let s : l ≡ bytes_from (take j w) ++ bytes_from (drop j w) =
    sym (bytes_words k l e a) ∙ ap bytes_from (sym (take-append-drop j w)) ∙ from_append (take j w) (drop j w)
    in
    let n : length (bytes_from (take j w)) ≡ 8 * j = length_from (take j w) ∙ ap (λ (i : ℕ). 8 * i) (length-take-le j w (omega (arith, h, length_words k l))) in
    ap (drop (8 * j)) s ∙ drop_at (bytes_from (take j w)) (bytes_from (drop j w)) (8 * j) n
