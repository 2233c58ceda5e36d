-- Words that pass through bytes: lists, answers and zeros are read as they were written.
use Rattle.std.specs.Prelude.{Ok}
use mathlib.Core.Path.{◌≡◌, refl, sym, ap, ◌∙◌}
use mathlib.Core.Bool.{Bool, true, false}
use mathlib.Core.List.{List, [], ◌∷◌, ◌++◌}
use Prim.Native.Nat.{ℕ, zero, suc, ◌+◌, ◌*◌, ◌/◌, ◌^◌, ◌≤◌, ◌<◌}
use native.Mathlib.Omega.{arith}
use lib.Dec.{ltb}
use lib.ListN.{length, take, drop, take-append-drop}
use lib.Seq.{drop_at, length-take-le}
use borrow.Author.Tests.{ltb-true}
use Rattle.trits.proofs.Bits.{and_left, and_right}
use Rattle.walks.specs.declared.Report.{Report}
use Rattle.walks.specs.declared.Stop.{Stop}
use Rattle.walks.specs.declared.Stop.TheVariants.{Ended, Full, Spent}
use Rattle.walks.specs.Calls.{Trail, listed, zeros_in, stop_number, stop_place}
use Rattle.codec.specs.Codec.{words_of, words_in, bytes_from, pasted, AllBelow}
use Rattle.codec.proofs.CodecLaw.{words_bytes, length_from, from_append, below_drop}
use Rattle.outcomes.specs.Search.{answer_values}
use Rattle.wire.proofs.SmallLaw.{below_nil, below_cons, below_append}
use Rattle.harness.specs.Harness.{stop_said, report_said, are_words}

-- ---- lists of words
pub are_below : (l : List ℕ) → are_words l ≡ true → AllBelow (2 ^ 64) l
unfolding are_words
are_below [] e = below_nil (2 ^ 64)
are_below (w ∷ ws) e =
    below_cons (2 ^ 64) w ws (ltb-true w (2 ^ 64) (and_left (ltb w (2 ^ 64)) (are_words ws) e)) (are_below ws (and_right (ltb w (2 ^ 64)) (are_words ws) e))

pub words_back : (l : List ℕ) → AllBelow (2 ^ 64) l → words_in (bytes_from l) ≡ l
words_back l a =
    let e : length (bytes_from l) / 8 ≡ length l = omega (arith, length_from l) in
    ap (λ (k : ℕ). words_of k (bytes_from l)) e ∙ words_bytes l a

drop_from : (j : ℕ) (l : List ℕ) → j ≤ length l → drop (8 * j) (bytes_from l) ≡ bytes_from (drop j l)
drop_from j l h =
    let n : length (bytes_from (take j l)) ≡ 8 * j = length_from (take j l) ∙ ap (λ (i : ℕ). 8 * i) (length-take-le j l h) in
    ap (λ (x : List ℕ). drop (8 * j) (bytes_from x)) (sym (take-append-drop j l)) ∙ ap (drop (8 * j)) (from_append (take j l) (drop j l))
    ∙ drop_at (bytes_from (take j l)) (bytes_from (drop j l)) (8 * j) n

-- words put in front of a list, through its bytes
pub front_back : (l z : List ℕ) → length z ≤ length l → AllBelow (2 ^ 64) l → AllBelow (2 ^ 64) z
    → words_in (pasted (bytes_from l) 0 (bytes_from z)) ≡ z ++ drop (length z) l
front_back l z h a b =
    let n : 0 + length (bytes_from z) ≡ 8 * length z = omega (arith, length_from z) in
    ap (λ (x : ℕ). words_in (bytes_from z ++ drop x (bytes_from l))) n
    ∙ ap (λ (x : List ℕ). words_in (bytes_from z ++ x)) (drop_from (length z) l h)
    ∙ ap words_in (sym (from_append z (drop (length z) l)))
    ∙ words_back (z ++ drop (length z) l) (below_append (2 ^ 64) z (drop (length z) l) b (below_drop (2 ^ 64) (length z) l a))

-- the entries of zeros
listed_below : (b : ℕ) (z : Bool) (x : ℕ) (l : List ℕ) → x < b → AllBelow b l → AllBelow b (listed z x l)
listed_below b true x l h a = below_cons b x l h a
listed_below b false x l h a = a

pub zeros_below : (T : Trail) (b : ℕ) → ((x : ℕ) → T.entry x < b) → (p k : ℕ) → AllBelow b (zeros_in T p k)
unfolding zeros_in
zeros_below T b h p zero = below_nil b
zeros_below T b h p (suc k) = listed_below b (T.zero_at p) (T.entry p) (zeros_in T (suc p) k) (h p) (zeros_below T b h (suc p) k)

-- ---- answers
stop_back : (e : ℕ) (s : Stop) → stop_said (stop_number s) (stop_place e s) ≡ s
stop_back e Ended = refl
stop_back e (Full x) = refl
stop_back e (Spent x) = refl

stop_small : (s : Stop) → stop_number s < 2 ^ 64
stop_small Ended = omega arith
stop_small (Full x) = omega arith
stop_small (Spent x) = omega arith

pub values_back : (e : ℕ) (w : Report) → stop_place e w.stop < 2 ^ 64 → w.points < 2 ^ 64 → w.additions < 2 ^ 64 → w.found < 2 ^ 64
    → words_in (bytes_from (answer_values e (Ok w))) ≡ answer_values e (Ok w)
values_back e w a b c d =
    let k = 2 ^ 64 in
    words_back (answer_values e (Ok w))
    (below_cons k (stop_number w.stop) (stop_place e w.stop ∷ w.points ∷ w.additions ∷ w.found ∷ []) (stop_small w.stop)
    (below_cons k (stop_place e w.stop) (w.points ∷ w.additions ∷ w.found ∷ []) a
    (below_cons k w.points (w.additions ∷ w.found ∷ []) b
    (below_cons k w.additions (w.found ∷ []) c (below_cons k w.found [] d (below_nil k))))))

pub answer_back : (e : ℕ) (w : Report) → report_said (answer_values e (Ok w)) ≡ w
answer_back e w i = record { stop = stop_back e w.stop i; points = w.points; additions = w.additions; found = w.found }
