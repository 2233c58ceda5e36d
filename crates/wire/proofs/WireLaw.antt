-- A record as words: one slot after another, and the round trips.
use mathlib.Core.Path.{◌≡◌, refl, sym, ap, ap₂, ◌∙◌}
use mathlib.Core.List.{List, [], ◌∷◌, ◌++◌, append_assoc, append-nil}
use Prim.Native.Nat.{ℕ, zero, suc, ◌+◌, ◌-◌, ◌*◌, ◌≤◌, ◌<◌}
use native.Mathlib.Numerals.{add-one}
use native.Mathlib.Omega.{arith}
use lib.ListN.{length, get_or, set, take, drop, replicate, length-set, length-drop, length-append, take-append-drop, drop_of_length-le}
use lib.Seq.{take-suc, take-suc-set, drop-cons, take_all, drop-length, length-take-le, take_at, drop_at}
use Rattle.trits.specs.declared.Vector.{Vector}
use Rattle.codec.specs.Codec.{value_of, bytes_of, words_of, bytes_from, pasted}
use Rattle.codec.proofs.CodecLaw.{words_join, length_words, length_from, from_append, from_nil, paste_none, paste_paste, paste_whole}
use Rattle.given.specs.declared.Degree.{Degree}
use Rattle.given.specs.declared.Degree.TheVariants.{Two, Three}
use Rattle.opening.specs.declared.First.{First}
use Rattle.opening.specs.declared.Record.{Record}
use Rattle.opening.specs.First.{lent_words, seconds_from, first_of, whole_of}
use Rattle.wire.specs.Wire.{vectors_of, words_from, part_words, first_with, record_words, record_with, record_of, record_in, parts_in}

pub vectors_two : (h l : ℕ) (t : List ℕ) → vectors_of (h ∷ l ∷ t) ≡ record { high = h; low = l } ∷ vectors_of t
unfolding vectors_of
vectors_two h l t = refl

pub vectors_nil : vectors_of [] ≡ []
unfolding vectors_of
vectors_nil = refl

pub words_nil : words_from [] ≡ []
unfolding words_from
words_nil = refl

-- one slot more is read
pub read_turn : (w : List ℕ) (s : List Vector) (i : ℕ) (v : Vector) → length w ≡ 45 → length s ≡ 20 → i < 20 → v ≡ record { high = get_or w (5 + 2 * i) 0; low = get_or w (6 + 2 * i) 0 }
    → take (i + 1) (set s i v) ++ vectors_of (drop (5 + 2 * (i + 1)) w) ≡ take i s ++ vectors_of (drop (5 + 2 * i) w)
read_turn w s i v lw ls h e =
    let a : 5 + 2 * i < length w = omega (arith, lw) in
    let b : suc (5 + 2 * i) < length w = omega (arith, lw) in
    let six : suc (5 + 2 * i) ≡ 6 + 2 * i = omega arith in
    let seven : 5 + 2 * (i + 1) ≡ suc (suc (5 + 2 * i)) = omega arith in
    let rest = vectors_of (drop (suc (suc (5 + 2 * i))) w) in
    let f : vectors_of (drop (5 + 2 * i) w) ≡ v ∷ rest =
    ap vectors_of (drop-cons w (5 + 2 * i) 0 a ∙ ap (λ (m : List ℕ). get_or w (5 + 2 * i) 0 ∷ m) (drop-cons w (suc (5 + 2 * i)) 0 b))
    ∙ vectors_two (get_or w (5 + 2 * i) 0) (get_or w (suc (5 + 2 * i)) 0) (drop (suc (suc (5 + 2 * i))) w)
    ∙ ap (λ (k : ℕ). record { high = get_or w (5 + 2 * i) 0; low = get_or w k 0 } ∷ rest) six
    ∙ ap (λ (u : Vector). u ∷ rest) (sym e)
    in
    ap (λ (k : ℕ). take k (set s i v) ++ vectors_of (drop (5 + 2 * (i + 1)) w)) (add-one i)
    ∙ ap (λ (m : List Vector). m ++ vectors_of (drop (5 + 2 * (i + 1)) w)) (take-suc-set s i v (omega (arith, ls)))
    ∙ append_assoc (take i s) (v ∷ []) (vectors_of (drop (5 + 2 * (i + 1)) w))
    ∙ ap (λ (k : ℕ). take i s ++ v ∷ vectors_of (drop k w)) seven
    ∙ ap (λ (m : List Vector). take i s ++ m) (sym f)

pub read_end : (w : List ℕ) (s : List Vector) (i : ℕ) → length w ≡ 45 → length s ≡ 20 → i ≡ 20 → take i s ++ vectors_of (drop (5 + 2 * i) w) ≡ vectors_of (drop 5 w) → s ≡ vectors_of (drop 5 w)
read_end w s i lw ls e inv =
    let z : drop (5 + 2 * i) w ≡ [] = ap (λ (k : ℕ). drop (5 + 2 * k) w) e ∙ ap (λ (k : ℕ). drop k w) (sym lw) ∙ drop-length w in
    sym (take_all i s (omega (arith, ls, e))) ∙ sym (append-nil (take i s)) ∙ ap (λ (m : List Vector). take i s ++ m) (sym (ap vectors_of z ∙ vectors_nil)) ∙ inv

pub words_append : (u v : List Vector) → words_from (u ++ v) ≡ words_from u ++ words_from v
unfolding words_from
words_append [] v = refl
words_append (x ∷ u) v = ap (λ (m : List ℕ). x.high ∷ x.low ∷ m) (words_append u v)

pub words_one : (v : Vector) → words_from (v ∷ []) ≡ v.high ∷ v.low ∷ []
unfolding words_from
words_one v = refl

-- the words before those of the slots
abbrev pub front : First → List ℕ
front r = r.n ∷ r.m ∷ r.place.0 ∷ r.value.high ∷ r.value.low ∷ []

-- the first five words are written
pub five : (w : List ℕ) (n m p h l : ℕ) → length w ≡ 45 → take 5 (set (set (set (set (set w 0 n) 1 m) 2 p) 3 h) 4 l) ≡ n ∷ m ∷ p ∷ h ∷ l ∷ []
five [] n m p h l e = absurd (omega (arith, e))
five (a ∷ []) n m p h l e = absurd (omega (arith, e))
five (a ∷ b ∷ []) n m p h l e = absurd (omega (arith, e))
five (a ∷ b ∷ c ∷ []) n m p h l e = absurd (omega (arith, e))
five (a ∷ b ∷ c ∷ d ∷ []) n m p h l e = absurd (omega (arith, e))
five (a ∷ b ∷ c ∷ d ∷ f ∷ w) n m p h l e = refl

pub length_five : (w : List ℕ) (n m p h l : ℕ) → length (set (set (set (set (set w 0 n) 1 m) 2 p) 3 h) 4 l) ≡ length w
length_five w n m p h l =
    length-set (set (set (set (set w 0 n) 1 m) 2 p) 3 h) 4 l ∙ length_four w n m p h
  where
    length_four : (w : List ℕ) (n m p h : ℕ) → length (set (set (set (set w 0 n) 1 m) 2 p) 3 h) ≡ length w
    length_four w n m p h =
        length-set (set (set (set w 0 n) 1 m) 2 p) 3 h ∙ length-set (set (set w 0 n) 1 m) 2 p ∙ length-set (set w 0 n) 1 m ∙ length-set w 0 n

-- two words more are written
pub write_turn : (p : List ℕ) (w : List ℕ) (s : List Vector) (i : ℕ) (none : Vector) → length w ≡ 45 → length s ≡ 20 → i < 20 → take (5 + 2 * i) w ≡ p ++ words_from (take i s)
    → take (5 + 2 * (i + 1)) (set (set w (5 + 2 * i) (get_or s i none).high) (6 + 2 * i) (get_or s i none).low) ≡ p ++ words_from (take (i + 1) s)
write_turn p w s i none lw ls h inv =
    let v = get_or s i none in
    let w₁ = set w (5 + 2 * i) v.high in
    let l₁ = length-set w (5 + 2 * i) v.high in
    let seven : 5 + 2 * (i + 1) ≡ suc (6 + 2 * i) = omega arith in
    let six : 6 + 2 * i ≡ suc (5 + 2 * i) = omega arith in
    ap (λ (k : ℕ). take k (set w₁ (6 + 2 * i) v.low)) seven
    ∙ take-suc-set w₁ (6 + 2 * i) v.low (omega (arith, lw, l₁))
    ∙ ap (λ (k : ℕ). take k w₁ ++ (v.low ∷ [])) six
    ∙ ap (λ (m : List ℕ). m ++ (v.low ∷ [])) (take-suc-set w (5 + 2 * i) v.high (omega (arith, lw)))
    ∙ append_assoc (take (5 + 2 * i) w) (v.high ∷ []) (v.low ∷ [])
    ∙ ap (λ (m : List ℕ). m ++ (v.high ∷ v.low ∷ [])) inv
    ∙ append_assoc p (words_from (take i s)) (v.high ∷ v.low ∷ [])
    ∙ ap (λ (m : List ℕ). p ++ m) (
    ap (λ (m : List ℕ). words_from (take i s) ++ m) (sym (words_one v))
    ∙ sym (words_append (take i s) (v ∷ []))
    ∙ ap words_from (sym (take-suc s i none (omega (arith, ls))) ∙ ap (λ (k : ℕ). take k s) (sym (add-one i)))
    )

-- ---- round trips

pub vectors_words : (vs : List Vector) → vectors_of (words_from vs) ≡ vs
unfolding vectors_of words_from
vectors_words [] = refl
vectors_words (v ∷ vs) = ap (λ (m : List Vector). v ∷ m) (vectors_words vs)

pub words_vectors : (k : ℕ) (w : List ℕ) → length w ≡ 2 * k → words_from (vectors_of w) ≡ w
unfolding vectors_of words_from
words_vectors k [] e = refl
words_vectors k (h ∷ []) e = absurd (omega (arith, e))
words_vectors zero (h ∷ l ∷ w) e = absurd (omega (arith, e))
words_vectors (suc k) (h ∷ l ∷ w) e = ap (λ (m : List ℕ). h ∷ l ∷ m) (words_vectors k w (omega (arith, e)))

pub words_length : (vs : List Vector) → length (words_from vs) ≡ 2 * length vs
unfolding words_from
words_length [] = refl
words_length (v ∷ vs) = omega (arith, words_length vs)

pub first_length : (r : First) → length r.slots ≡ 20 → length (part_words r) ≡ 45
first_length r e = omega (arith, words_length r.slots, e)

pub record_words_lem : (r : Record) → length r.slots ≡ 20 → record_of (record_words r) ≡ r
record_words_lem r e =
    let l = first_length (first_of r) e in
    ap₂ record_with (take_at (part_words (first_of r)) r.seconds 45 l) (drop_at (part_words (first_of r)) r.seconds 45 l)
    ∙ ap (λ (s : List Vector). record { n = r.n; m = r.m; place = r.place; value = r.value; slots = s; seconds = r.seconds }) (vectors_words r.slots)

-- the first words of a record that was read are those that were read
first_words_lem : (w : List ℕ) → length w ≡ 45 → part_words (first_with w) ≡ w
first_words_lem w e =
    let d : length (drop 5 w) ≡ 2 * 20 = length-drop 5 w ∙ omega (arith, e) in
    ap (λ (m : List ℕ). get_or w 0 0 ∷ get_or w 1 0 ∷ get_or w 2 0 ∷ get_or w 3 0 ∷ get_or w 4 0 ∷ m) (words_vectors 20 (drop 5 w) d)
    ∙ sym (
    drop-cons w 0 0 (omega (arith, e))
    ∙ ap (λ (m : List ℕ). get_or w 0 0 ∷ m) (drop-cons w 1 0 (omega (arith, e))
    ∙ ap (λ (m : List ℕ). get_or w 1 0 ∷ m) (drop-cons w 2 0 (omega (arith, e))
    ∙ ap (λ (m : List ℕ). get_or w 2 0 ∷ m) (drop-cons w 3 0 (omega (arith, e))
    ∙ ap (λ (m : List ℕ). get_or w 3 0 ∷ m) (drop-cons w 4 0 (omega (arith, e)))))))

pub words_record : (w : List ℕ) → length w ≡ 465 → record_words (record_of w) ≡ w
words_record w e =
    ap (λ (m : List ℕ). m ++ drop 45 w) (first_words_lem (take 45 w) (length-take-le 45 w (omega (arith, e)))) ∙ take-append-drop 45 w

-- ---- in two parts: the first words, and those of the second slots

module _ (b : List ℕ) where
  joined : words_of 465 b ≡ words_of 45 b ++ words_of 420 (drop 360 b)
  joined = words_join 45 420 b

  pub first_in : first_with (words_of 45 b) ≡ first_of (record_in b)
  first_in = ap first_with (sym (ap (take 45) joined ∙ take_at (words_of 45 b) (words_of 420 (drop 360 b)) 45 (length_words 45 b)))

  pub seconds_in : words_of 420 (drop 360 b) ≡ (record_in b).seconds
  seconds_in = sym (ap (drop 45) joined ∙ drop_at (words_of 45 b) (words_of 420 (drop 360 b)) 45 (length_words 45 b))

  -- the front of the second slots
  pub seconds_front : (k : ℕ) → k ≤ 420 → words_of k (take (length b - 360) (drop 360 b)) ≡ take k (record_in b).seconds
  seconds_front k h =
      let x = drop 360 b in
      let s : take (length b - 360) x ≡ x = take_all (length b - 360) x (omega (arith, length-drop 360 b)) in
      let i : k + (420 - k) ≡ 420 = omega (arith, h) in
      ap (words_of k) s
      ∙ sym (take_at (words_of k x) (words_of (420 - k) (drop (8 * k) x)) k (length_words k x))
      ∙ ap (take k) (sym (words_join k (420 - k) x) ∙ ap (λ (y : ℕ). words_of y x) i ∙ seconds_in)

-- each written into its own words
pub put_parts : (w x y : List ℕ) (k : ℕ) → length x ≡ 45 → length (drop 45 w) ≤ k → take 45 (x ++ drop 45 w) ++ (y ++ drop k (drop 45 (x ++ drop 45 w))) ≡ x ++ y
put_parts w x y k e h =
    ap₂ (λ (u v : List ℕ). u ++ (y ++ v)) (take_at x (drop 45 w) 45 e) (ap (drop k) (drop_at x (drop 45 w) 45 e) ∙ drop_of_length-le (drop 45 w) {i = k} h)
    ∙ ap (λ (u : List ℕ). x ++ u) (append-nil y)

-- and into bytes, one after the other
pub write_parts : (b u v : List ℕ) → length b ≡ 3720 → length u ≡ 45 → length v ≡ 420 → pasted (pasted b 0 (bytes_from u)) 360 (bytes_from v) ≡ bytes_from (u ++ v)
write_parts b u v e eu ev =
    let lu : length (bytes_from u) ≡ 360 = length_from u ∙ ap (λ (k : ℕ). 8 * k) eu in
    let lv : length (bytes_from v) ≡ 3360 = length_from v ∙ ap (λ (k : ℕ). 8 * k) ev in
    let at : 360 ≡ 0 + length (bytes_from u) = omega (arith, lu) in
    ap (λ (k : ℕ). pasted (pasted b 0 (bytes_from u)) k (bytes_from v)) at
    ∙ paste_paste b 0 (bytes_from u) (bytes_from v) (omega (arith, lu, lv, e))
    ∙ ap (pasted b 0) (sym (from_append u v))
    ∙ paste_whole b (u ++ v) (omega (arith, e, length-append u v, eu, ev))

-- ---- bytes of words that are zero
value_none : (l : List ℕ) → value_of l ≡ 0 → l ≡ replicate (length l) 0
unfolding value_of
value_none [] e = refl
value_none (x ∷ l) e =
    let h : x ≡ 0 = omega (arith, e) in
    let t : value_of l ≡ 0 = omega (arith, e) in
    ap₂ (λ (y : ℕ) (k : List ℕ). y ∷ k) h (value_none l t)

bytes_none : bytes_of 8 0 ≡ replicate 8 0
unfolding bytes_of
bytes_none = refl

zero_bytes : (k : ℕ) (b : List ℕ) → length b ≡ 8 * k → words_of k b ≡ replicate k 0 → b ≡ bytes_from (replicate k 0)
unfolding words_of bytes_from
zero_bytes zero [] l e = refl
zero_bytes zero (x ∷ b) l e = absurd (omega (arith, l))
zero_bytes (suc k) b l e =
    let h : length (take 8 b) ≡ 8 = length-take-le 8 b (omega (arith, l)) in
    let u : take 8 b ≡ bytes_of 8 0 = value_none (take 8 b) (ap (λ (x : List ℕ). get_or x 0 0) e) ∙ ap (λ (i : ℕ). replicate i 0) h ∙ sym bytes_none in
    let v : drop 8 b ≡ bytes_from (replicate k 0) = zero_bytes k (drop 8 b) (length-drop 8 b ∙ omega (arith, l)) (ap (drop 1) e) in
    sym (take-append-drop 8 b) ∙ ap₂ (λ (x y : List ℕ). x ++ y) u v

-- what is written of a record in two parts is the whole record
pub parts_written : (d : Degree) (f : First) (s b : List ℕ) → length b ≡ 3720 → length f.slots ≡ 20 → length s ≡ lent_words d
    → seconds_from d (record_in b).seconds ≡ (record_in b).seconds → parts_in b f s ≡ bytes_from (record_words (whole_of d f s))
parts_written Three f s b e n l z = write_parts b (part_words f) s e (first_length f n) l
parts_written Two f (x ∷ s) b e n l z = absurd (omega (arith, l))
parts_written Two f [] b e n l z =
    let u = part_words f in
    let lu : length (bytes_from u) ≡ 360 = length_from u ∙ ap (λ (k : ℕ). 8 * k) (first_length f n) in
    let at : 0 + length (bytes_from u) ≡ 360 = omega (arith, lu) in
    let x = pasted b 0 (bytes_from u) in
    let rest : drop 360 b ≡ bytes_from (replicate 420 0) = zero_bytes 420 (drop 360 b) (length-drop 360 b ∙ omega (arith, e)) (seconds_in b ∙ sym z) in
    ap (pasted x 360) from_nil ∙ sym (paste_none x 360)
    ∙ ap (λ (k : ℕ). bytes_from u ++ drop k b) at
    ∙ ap (λ (y : List ℕ). bytes_from u ++ y) rest
    ∙ sym (from_append u (replicate 420 0))
