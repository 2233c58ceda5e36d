-- An operation that works at each place on its own: a test at the sixteen fours of bits says it of all vectors.
use mathlib.Core.Path.{◌≡◌}
use mathlib.Core.Bool.{Bool, true, ◌&&◌}
use Prim.Native.Nat.{ℕ, ◌+◌, ◌%◌, ◌≤◌, ◌<◌}
use native.Mathlib.Omega.{arith}
use lib.Dec.{leb, eqb}
use borrow.Author.Tests.{leb-true, le-leb, eqb-true}
use Rattle.trits.specs.declared.Vector.{Vector}
use Rattle.trits.specs.Trit.{bit, trit, Legal, Holds}
use Rattle.trits.proofs.Bits.{bit_lt, at_bits4, both4, imp, and_left, and_right}

-- the pair of bits e of a vector: a vector of one trit
abbrev pub single : ℕ → ℕ → Vector
single x1 x0 = record { high = x1; low = x0 }

abbrev pub place : Vector → ℕ → Vector
place v e = single (bit v.high e) (bit v.low e)

-- an operation on two vectors, and what it should be of two trits
module _ (op : Vector → Vector → Vector) (f : ℕ → ℕ → ℕ) where
  abbrev high : ℕ → ℕ → ℕ → ℕ → ℕ
  high x1 x0 y1 y0 = (op (single x1 x0) (single y1 y0)).high

  abbrev low : ℕ → ℕ → ℕ → ℕ → ℕ
  low x1 x0 y1 y0 = (op (single x1 x0) (single y1 y0)).low

  abbrev paired : ℕ → ℕ → ℕ → ℕ → Bool
  paired x1 x0 y1 y0 = leb (low x1 x0 y1 y0) (high x1 x0 y1 y0)

  abbrev right : ℕ → ℕ → ℕ → ℕ → Bool
  right x1 x0 y1 y0 = eqb (high x1 x0 y1 y0 + low x1 x0 y1 y0) (f (x1 + x0) (y1 + y0) % 3)

  -- at four bits, the low ones not above their high ones: the result is paired, and is f modulo 3
  abbrev pub test : ℕ → ℕ → ℕ → ℕ → Bool
  test x1 x0 y1 y0 = imp (leb x0 x1) (imp (leb y0 y1) (paired x1 x0 y1 y0 && right x1 x0 y1 y0))

  at : both4 test ≡ true → (x1 x0 y1 y0 : ℕ) → x1 < 2 → x0 < 2 → y1 < 2 → y0 < 2 → x0 ≤ x1 → y0 ≤ y1
      → (low x1 x0 y1 y0 ≤ high x1 x0 y1 y0) × (high x1 x0 y1 y0 + low x1 x0 y1 y0 ≡ f (x1 + x0) (y1 + y0) % 3)
  at ok x1 x0 y1 y0 h1 h2 h3 h4 p q =
      let t = simp (le-leb x0 x1 p, le-leb y0 y1 q) at (at_bits4 test ok x1 x0 y1 y0 h1 h2 h3 h4) in
      (leb-true _ _ (and_left (paired x1 x0 y1 y0) (right x1 x0 y1 y0) t), eqb-true _ _ (and_right (paired x1 x0 y1 y0) (right x1 x0 y1 y0) t))

  -- it passes the test, gives nothing for nothing, and works at each place on its own
  module _ (ok : both4 test ≡ true) (zero_high : high 0 0 0 0 ≡ 0) (a b : Vector)
      (highs : (e : ℕ) → bit (op a b).high e ≡ (op (place a e) (place b e)).high)
      (lows : (e : ℕ) → bit (op a b).low e ≡ (op (place a e) (place b e)).low)
      (m : ℕ) (la : Legal m a) (lb : Legal m b) where
    here : (e : ℕ) → (bit (op a b).low e ≤ bit (op a b).high e) × (bit (op a b).high e + bit (op a b).low e ≡ f (bit a.high e + bit a.low e) (bit b.high e + bit b.low e) % 3)
    here e = rw (highs e, lows e) (at ok _ _ _ _ (bit_lt a.high e) (bit_lt a.low e) (bit_lt b.high e) (bit_lt b.low e) (la.paired e) (lb.paired e))

    past : (e : ℕ) → m ≤ e → bit (op a b).high e ≡ 0
    past e h =
        let p = la.above e h in
        let q = lb.above e h in
        let s : bit a.low e ≡ 0 = omega (arith, la.paired e) in
        let t : bit b.low e ≡ 0 = omega (arith, lb.paired e) in
        rw (highs e, p, q, s, t) zero_high

    pub slices : Holds m (λ e. f (trit a e) (trit b e)) (op a b)
    unfolding trit
    slices = record { legal = record { paired = λ e. (here e).0; above = past }; each = λ e h. (here e).1 }
