-- A whole block of 27 places, its first move included: three slots move inside, and one from 3 on at its first place.
use mathlib.Core.Path.{◌≡◌, refl, sym, ap, ◌∙◌}
use mathlib.Core.List.{List, ◌∷◌}
use Prim.Native.Nat.{ℕ, ◌+◌, ◌-◌, ◌*◌, ◌/◌, ◌%◌, ◌≤◌, ◌<◌}
use native.Mathlib.Omega.{arith}
use lib.ListN.{length, set}
use Rattle.trits.specs.declared.Vector.{Vector}
use Rattle.gray.specs.Numbers.{point_of}
use Rattle.positions.specs.Positions.{positions}
use Rattle.tables.specs.Words.{entry}
use Rattle.walks.specs.Walk.{iterate, block}
use Rattle.walks.proofs.BlockLaw.{block_is}
use Rattle.moves.specs.Moves.{turned_in}
use Rattle.moves.proofs.MoveLaw.{two}
use Rattle.blocks.proofs.PartLaw.{set3, with3}
use Rattle.cubic_tables.specs.Order.{pair_of}
use Rattle.cubic_moves.specs.Step.{State, move_of, walk_by, walk_of}
use Rattle.cubic_tables.specs.Order.{cubic_count}
use Rattle.cubic_tables.specs.Order.{pairs_of}
use Rattle.cubic_tables.specs.Words.{triple_at}
use Rattle.cubic_moves.specs.Moves.{headed}
use Rattle.cubic_blocks.specs.Parts.{whole, keys_of, Fits, big_of}
use Rattle.moves.specs.declared.Moved.{Moved}
use Rattle.blocks.specs.declared.parts.Part.{Part}
use Rattle.cubic_blocks.specs.declared.parts.Keys.{Keys}
use Rattle.cubic_moves.proofs.MoveLaw.{lawful}
use Rattle.cubic_moves.proofs.EntryLaw.{converted, entries_turned}
use Rattle.cubic_blocks.proofs.BlockLaw.{pair_one, pair_two, big_is}
use Rattle.cubic_tables.proofs.PairLaw.{within, pair_lt}

-- 27 places from one that 27 divides, with two positions at least
pub big_step : (t : List ℕ) (n p b c : ℕ) (ps : List ℕ) (s : State) → s.place ≡ p → p % 27 ≡ 0 → positions 3 p ≡ b ∷ c ∷ ps
    → iterate 3 (walk_by (λ p. p) (triple_at t n)) 27 s ≡ big_of (entry t) (keys_of n) b (pair_of n b c) (move_of (triple_at t n) (b ∷ c ∷ ps) s)
big_step t n p b c ps s sp m w =
    let k : 27 * (p / 27) ≡ p = omega arith in
    let T = triple_at t n in
    block_is 3 two (walk_by (λ p. p) T) (lawful (λ p. p) T) 3 (p / 27) s (sp ∙ sym k)
    ∙ ap (λ (x : ℕ). block 3 (walk_by (λ p. p) T) 3 (positions 3 x) (move_of T (positions 3 x) s)) k
    ∙ ap (λ (qs : List ℕ). block 3 (walk_by (λ p. p) T) 3 qs (move_of T qs s)) w
    ∙ big_is t n b c ps (move_of T (b ∷ c ∷ ps) s)

-- every entry that a block reads is there
pub fits_head : (t : List ℕ) (n : ℕ) (k : Keys) (b c p : ℕ) → 4 ≤ n → n ≤ 20 → length t ≡ 2 * cubic_count n → k ≡ keys_of n → b ≤ c → c < n → p ≡ pair_of n b c → Fits t k b p
fits_head t n k b c p h l e f g i j =
    let w0 = within n 0 l (omega arith) in
    let w1 = within n 1 l (omega arith) in
    let w2 = within n 2 l (omega arith) in
    let v : Fits t (keys_of n) b p =
    record {
      pairs = pairs_of n;
      room0 = omega (arith, w0.key, e);
      room1 = omega (arith, w1.key, e);
      room2 = omega (arith, w2.key, e);
      least = omega arith;
      most = omega arith;
      one = omega (arith, pair_lt n 1 (n - 1) l (omega arith) (omega arith), pair_one n (n - 1));
      two = omega (arith, pair_lt n 2 (n - 1) l (omega arith) (omega arith), pair_two n (n - 1));
      low = omega arith;
      pair = omega (arith, pair_lt n b c l g i, j);
    } in
    rw f v

-- the first move of a block, in its parts
pub headed3 : (x : Part) (rest : List Vector) (w l : List ℕ) (b : ℕ) (r : Moved) (v : List ℕ) → 3 ≤ b
    → whole (with3 x r) (set rest (b - 3) r.slot) w l ≡ headed (whole x rest v l) b r w
headed3 x rest w l b r v h =
    ap (λ (z : List Vector). record { place = x.place; value = r.value; slots = z; seconds = w; additions = r.additions; found = x.found; list = l })
    (sym (set3 x.s0 x.s1 x.s2 rest b r.slot h))

-- 27 places, from what the parts of the code give
pub block27_is : (t : List ℕ) (n : ℕ) (k : Keys) (x y : Part) (rest : List Vector) (v v' v'' l l' l'' : List ℕ) (b c p : ℕ) (ps : List ℕ) (r : Moved)
    → k ≡ keys_of n → p ≡ pair_of n b c → x.place % 27 ≡ 0 → 3 ≤ b → positions 3 x.place ≡ b ∷ c ∷ ps → x.found + 27 ≤ length l
    → move_of (triple_at t n) (b ∷ c ∷ ps) (whole x rest v l) ≡ headed (whole x rest v l) b r v'
    → whole y (set rest (b - 3) r.slot) v'' l' ≡ big_of (entry t) k b p (whole (with3 x r) (set rest (b - 3) r.slot) v' l)
    → l'' ≡ turned_in (point_of 3 n) x.found (y.found - x.found) l'
    → whole y (set rest (b - 3) r.slot) v'' l'' ≡ iterate 3 (walk_of n (triple_at t n)) 27 (whole x rest v l)
block27_is t n k x y rest v v' v'' l l' l'' b c p ps r ek ep m h w room hm hb hl =
    let u : whole y (set rest (b - 3) r.slot) v'' l' ≡ iterate 3 (walk_by (λ p. p) (triple_at t n)) 27 (whole x rest v l) =
    hb ∙ ap (big_of (entry t) k b p) (headed3 x rest v' l b r v h ∙ sym hm)
    ∙ ap (λ (j : Keys). big_of (entry t) j b p (move_of (triple_at t n) (b ∷ c ∷ ps) (whole x rest v l))) ek
    ∙ ap (λ (q : ℕ). big_of (entry t) (keys_of n) b q (move_of (triple_at t n) (b ∷ c ∷ ps) (whole x rest v l))) ep
    ∙ sym (big_step t n x.place b c ps (whole x rest v l) refl m w) in
    ap (λ (z : List ℕ). whole y (set rest (b - 3) r.slot) v'' z) hl
    ∙ ap (converted (point_of 3 n) x.found) u
    ∙ entries_turned (point_of 3 n) (triple_at t n) 27 (whole x rest v l) room
