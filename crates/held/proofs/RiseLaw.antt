-- The positions of a place of n digits rise and are below n, and so are the first of them.
use mathlib.Core.Path.{◌≡◌, ap, ◌∙◌}
use mathlib.Core.List.{List, [], ◌∷◌}
use Prim.Native.Nat.{ℕ, zero, suc, ◌+◌, ◌*◌, ◌^◌, ◌<◌, ◌≤◌}
use native.Mathlib.Nat.{one-mul, pow-zero, mul-zero, mul-suc, one-le-pow}
use native.Mathlib.Omega.{arith}
use lib.ListN.{take}
use Rattle.positions.specs.Positions.{positions}
use Rattle.positions.proofs.LowestLaw.{of_lt}
use Rattle.positions.proofs.PositionLaw.{positions_none}
use Rattle.held.specs.Stands.{Rises}
use Rattle.held.proofs.StemLaw.{split, joined, lowest_at, positions_at}

pub rises_take : (k c n : ℕ) (L : List ℕ) → Rises c n L → Rises c n (take k L)
rises_take zero c n L r = omega arith
rises_take (suc k) c n [] r = r
rises_take (suc k) c n (b ∷ L) r = (r.0, r.1, rises_take k b n L r.2)

module _ (q : ℕ) (two : 1 < q) where
  pos : 0 < q
  pos = omega arith

  level_rises : (L : List ℕ) (c y n : ℕ) → positions q (q ^ c * y) ≡ L → q ^ c * y < q ^ n → Rises c n L
  level_rises [] c y n e l = omega arith
  level_rises (d ∷ L) c zero n e l = absurd (let z : ◌≡◌ {A = ℕ} 0 1 = cc (ap (positions q) (mul-zero (q ^ c)), positions_none q two) in omega arith)
  level_rises (d ∷ L) c (suc y) n e l =
      let h : 0 < suc y = omega arith in
      let s = split q two (suc y) h in
      let b = s.low in
      let z = s.over in
      let i : q ^ c * suc y ≡ q ^ (c + b) * suc z = ap (λ (x : ℕ). q ^ c * x) s.is ∙ joined q two c b (suc z) in
      let t : positions q (q ^ c * suc y) ≡ (c + b) ∷ positions q (q ^ (c + b) * z) = ap (positions q) i ∙ positions_at q two (c + b) z s.digit in
      let d-is : c + b ≡ d = cc in
      let r : positions q (q ^ (c + b) * z) ≡ L = cc in
      let w = one-le-pow (c + b) q pos in
      let m = mul-suc (q ^ (c + b)) z in
      let big : 0 < q ^ (c + b) * suc z = omega arith in
      let less : q ^ (c + b) * suc z < q ^ n = omega arith in
      let below : c + b < n = omega (arith, of_lt q two n (q ^ (c + b) * suc z) big less, lowest_at q two (c + b) z s.digit) in
      let rest : Rises (c + b) n L = level_rises L (c + b) z n r (omega arith) in
      rw (← d-is) (up c b, below, rest)
    where
      up : (c b : ℕ) → c ≤ c + b
      up c b = omega arith

  pub positions_rise : (p n : ℕ) → p < q ^ n → Rises 0 n (positions q p)
  positions_rise p n l =
      let e : q ^ 0 * p ≡ p = ap (λ (w : ℕ). w * p) (pow-zero q) ∙ one-mul p in
      let m : q ^ 0 * p < q ^ n = omega arith in
      level_rises (positions q p) 0 p n (ap (positions q) e) m
