-- The words of an opened record are words: below 2^64, and 465 of them, so that its bytes say it.
use mathlib.Core.Path.{◌≡◌, sym, ap, ◌∙◌}
use mathlib.Core.Bool.{Bool, true, false, ◌&&◌}
use mathlib.Core.List.{List, [], ◌∷◌, ◌++◌}
use Prim.Native.Nat.{ℕ, zero, suc, ◌+◌, ◌-◌, ◌/◌, ◌^◌, ◌≤◌, ◌<◌}
use native.Mathlib.Omega.{arith}
use lib.Dec.{ltb}
use lib.ListN.{length, get_or, length-append}
use Rattle.refusals.specs.Choice.{pick}
use Rattle.trits.specs.declared.Vector.{Vector}
use Rattle.trits.specs.Trit.{bit, Legal, none}
use Rattle.trits.proofs.LegalLaw.{shr_none, legal_none, legal_more}
use Rattle.trits.proofs.ExtLaw.{legal_of}
use Rattle.codec.specs.Codec.{words_of, bytes_from, AllBelow}
use Rattle.codec.proofs.CodecLaw.{words_bytes, length_from, below_tail}
use Rattle.tables.specs.Words.{tabled}
use Rattle.given.specs.Given.{Given, depth_of}
use Rattle.given.specs.Slots.{value_at, slot_at, slots_at, second_at, seconds_at}
use Rattle.given.proofs.SlotLaw.{slots_length, seconds_long}
use Rattle.opening.specs.Opened.{opened_at}
use Rattle.wire.specs.Wire.{words_from, record_words, record_of, record_in}
use Rattle.wire.proofs.WireLaw.{words_length, record_words_lem}

pub below_nil : (k : ℕ) → AllBelow k []
below_nil k = record { each = λ i h. absurd (omega (arith, h)) }

pub below_cons : (k x : ℕ) (l : List ℕ) → x < k → AllBelow k l → AllBelow k (x ∷ l)
below_cons k x l h a = record { each = go }
  where
    go : (i : ℕ) → i < length (x ∷ l) → get_or (x ∷ l) i 0 < k
    go zero j = h
    go (suc i) j = a.each i (omega (arith, j))

pub below_append : (k : ℕ) (u v : List ℕ) → AllBelow k u → AllBelow k v → AllBelow k (u ++ v)
below_append k [] v a b = b
below_append k (x ∷ u) v a b =
    below_cons k x (u ++ v) (a.each 0 (omega arith)) (below_append k u v (below_tail k x u a) b)

-- a legal vector's words
fits_word : (x : ℕ) → ((e : ℕ) → 64 ≤ e → bit x e ≡ 0) → x < 2 ^ 64
fits_word x f = let e : x / 2 ^ 64 ≡ 0 = (shr_none x 64).1 f in omega (arith, e)

pub small : {m : ℕ} (v : Vector) → m ≤ 64 → Legal m v → (v.high < 2 ^ 64) × (v.low < 2 ^ 64)
small v h l =
    let k : Legal 64 v = legal_more h l in
    (fits_word v.high k.above, fits_word v.low (λ e j. omega (arith, k.paired e, k.above e j)))

tabled_below : {m : ℕ} → m ≤ 64 → (k : ℕ) (f : ℕ → Vector) → ((i : ℕ) → Legal m (f i)) → AllBelow (2 ^ 64) (tabled k f)
unfolding tabled
tabled_below h zero f l = below_nil (2 ^ 64)
tabled_below h (suc k) f l =
    let s = small (f 0) h (l 0) in
    let t = tabled k (λ i. f (suc i)) in
    below_cons (2 ^ 64) (f 0).high ((f 0).low ∷ t) s.0 (below_cons (2 ^ 64) (f 0).low t s.1 (tabled_below h k (λ i. f (suc i)) (λ i. l (suc i))))

module _ (g : Given) where
  value_legal : (q : ℕ) → Legal g.m (value_at g q)
  unfolding value_at
  value_legal q = legal_of g.m _

  legal_or : (z : Bool) (v : Vector) → Legal g.m v → Legal g.m (pick z v none)
  legal_or true v l = l
  legal_or false v l = legal_none g.m

  slot_legal : (q b : ℕ) → Legal g.m (slot_at g q b)
  unfolding slot_at
  slot_legal q b = legal_or (ltb b g.n) _ (legal_of g.m _)

  second_legal : (q b c : ℕ) → Legal g.m (second_at g q b c)
  unfolding second_at
  second_legal q b c = legal_or (ltb 2 (depth_of g.degree) && ltb c g.n) _ (legal_of g.m _)

  module _ (wide : g.m ≤ 64) where
    slots_below : (q b k : ℕ) → AllBelow (2 ^ 64) (words_from (slots_at g q b k))
    unfolding slots_at words_from
    slots_below q b zero = below_nil (2 ^ 64)
    slots_below q b (suc k) =
        let s = small (slot_at g q b) wide (slot_legal q b) in
        below_cons (2 ^ 64) (slot_at g q b).high ((slot_at g q b).low ∷ words_from (slots_at g q (suc b) k)) s.0
        (below_cons (2 ^ 64) (slot_at g q b).low (words_from (slots_at g q (suc b) k)) s.1 (slots_below q (suc b) k))

    seconds_below : (q b k : ℕ) → AllBelow (2 ^ 64) (seconds_at g q b k)
    unfolding seconds_at
    seconds_below q b zero = below_nil (2 ^ 64)
    seconds_below q b (suc k) =
        below_append (2 ^ 64) (tabled (suc k) (λ i. second_at g q b (b + i))) (seconds_at g q (suc b) k)
        (tabled_below wide (suc k) (λ i. second_at g q b (b + i)) (λ i. second_legal q b (b + i))) (seconds_below q (suc b) k)

    pub record_below : g.n < 2 ^ 64 → (p : ℕ) → p < 2 ^ 64 → AllBelow (2 ^ 64) (record_words (opened_at g p))
    unfolding opened_at
    record_below hn p hp =
        let v = value_at g (p - 1) in
        let s = small v wide (value_legal (p - 1)) in
        let w = words_from (slots_at g (p - 1) 0 20) ++ seconds_at g (p - 1) 0 20 in
        below_cons (2 ^ 64) g.n (g.m ∷ p ∷ v.high ∷ v.low ∷ w) hn
        (below_cons (2 ^ 64) g.m (p ∷ v.high ∷ v.low ∷ w) (omega (arith, wide))
        (below_cons (2 ^ 64) p (v.high ∷ v.low ∷ w) hp
        (below_cons (2 ^ 64) v.high (v.low ∷ w) s.0 (below_cons (2 ^ 64) v.low w s.1
        (below_append (2 ^ 64) (words_from (slots_at g (p - 1) 0 20)) (seconds_at g (p - 1) 0 20) (slots_below (p - 1) 0 20) (seconds_below (p - 1) 0 20))))))

  slots_twenty : (p : ℕ) → length (opened_at g p).slots ≡ 20
  unfolding opened_at
  slots_twenty p = slots_length g (p - 1) 0 20

  pub record_long : (p : ℕ) → length (record_words (opened_at g p)) ≡ 465
  unfolding opened_at
  record_long p =
      let w = words_from (slots_at g (p - 1) 0 20) in
      omega (arith, length-append w (seconds_at g (p - 1) 0 20), words_length (slots_at g (p - 1) 0 20), slots_length g (p - 1) 0 20, seconds_long g (p - 1))

  -- the bytes of an opened record are 3,720, and say it
  pub record_bytes_lem : (p : ℕ) → length (bytes_from (record_words (opened_at g p))) ≡ 3720
  record_bytes_lem p = omega (arith, length_from (record_words (opened_at g p)), record_long p)

  pub record_back : g.m ≤ 64 → g.n < 2 ^ 64 → (p : ℕ) → p < 2 ^ 64 → record_in (bytes_from (record_words (opened_at g p))) ≡ opened_at g p
  record_back wide hn p hp =
      let w = record_words (opened_at g p) in
      ap record_of (ap (λ (k : ℕ). words_of k (bytes_from w)) (sym (record_long p)) ∙ words_bytes w (record_below wide hn p hp))
      ∙ record_words_lem (opened_at g p) (slots_twenty p)
