-- `moves::head` meets its contract: by the number of positions, none, one or two.
use mathlib.Core.Path.{◌≡◌, sym, ap, ◌∙◌}
use Prim.Native.Nat.{ℕ, ◌+◌, ◌-◌, ◌*◌, ◌^◌, ◌<◌}
use native.Mathlib.Nat.{mul-zero}
use native.Mathlib.Omega.{arith}
use Rattle.positions.specs.Positions.{lowest_of}
use Rattle.positions.proofs.LowestLaw.{of_lt}
use Rattle.moves.specs.Moves.{product}
use Rattle.moves.proofs.MoveLaw.{two, head_none, head_one, head_two, second, alone, above}
use Rattle.moves.proofs.head.Goals as goal

pub returns-then-rest-eq0 : goal.returns-then-rest-eq0
returns-then-rest-eq0 c =
    let a = c.args in
    let q = c.requires.place_bound in
    let z : a.place ≡ 0 = q.2 ∙ (ap (λ (x : ℕ). 3 ^ a.b * x) c.if-rest-eq0.true ∙ mul-zero (3 ^ a.b)) in
    record { state = (λ st hv ha hs l. head_none a.n (product a.table.now a.n) a.place a.b st _ z (sym hs) (sym hv) (sym ha)); count = omega arith }

pub returns-then-rest-eq1 : goal.returns-then-rest-eq1
returns-then-rest-eq1 c =
    let a = c.args in
    let q = c.requires.place_bound in
    let v = c.plus-v.ensures in
    let z = alone a.place a.b (q.2 ∙ ap (λ (x : ℕ). 3 ^ a.b * x) c.if-rest-eq1.true) in
    let h : 0 < a.place = above a.place a.b a.rest q.2 (omega (arith, c.if-rest-eq1)) in
    record { state = (λ st hv ha hs l. head_one a.n (product a.table.now a.n) a.place a.b st _ h q.1 z (sym hs) (v.0 ∙ rw (hv, hs)) (omega arith)); count = omega arith }

pub overflow_add-b : goal.overflow_add-b
overflow_add-b c =
    let a = c.args in
    let q = c.requires.place_bound in
    let o : 1 < a.rest = omega arith in
    let u = second a.place a.b a.rest q.2 o in
    let f : lowest_of 3 (a.place - 3 ^ a.b) < a.n = of_lt 3 two a.n (a.place - 3 ^ a.b) u.0 (omega arith) in
    omega (arith, c.split-f.ensures.position, c.requires.sized.small)

pub entry-t-requires : goal.entry-t-requires
entry-t-requires c =
    let a = c.args in
    let q = c.requires.place_bound in
    let o : 1 < a.rest = omega arith in
    let u = second a.place a.b a.rest q.2 o in
    let f : lowest_of 3 (a.place - 3 ^ a.b) < a.n = of_lt 3 two a.n (a.place - 3 ^ a.b) u.0 (omega arith) in
    (c.requires.sized.small, omega arith, omega (arith, c.split-f.ensures.position), c.requires.sized.table)

pub returns : goal.returns
returns c =
    let a = c.args in
    let q = c.requires.place_bound in
    let o : 1 < a.rest = omega arith in
    let u = second a.place a.b a.rest q.2 o in
    let h : 0 < a.place = above a.place a.b a.rest q.2 (omega arith) in
    let v = c.raise.ensures in
    let g = c.split-f in record {
      state = (λ st hv ha hs l.
          head_two a.n (product a.table.now a.n) a.place a.b (a.b + g.result.position) st _ h q.1 u.0
          (ap (λ (x : ℕ). a.b + x) g.ensures.position ∙ sym u.1) l
          (v.0 ∙ rw (hs, c.entry-t.ensures)) (v.1 ∙ rw (hv, v.0)) (omega (arith, v.2)));
      count = omega (arith, v.2);
    }
