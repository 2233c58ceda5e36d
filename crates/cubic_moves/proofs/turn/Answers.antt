-- `cubic_moves::turn` meets its contract: by the number of positions, none, one, or more.
use mathlib.Core.Path.{◌≡◌, sym, ap, ◌∙◌}
use mathlib.Core.List.{List}
use Prim.Native.Nat.{ℕ, ◌*◌, ◌^◌, ◌<◌}
use native.Mathlib.Nat.{mul-zero}
use native.Mathlib.Omega.{arith}
use Rattle.moves.proofs.MoveLaw.{above, alone, first_lt}
use Rattle.cubic_moves.specs.Step.{move_of}
use Rattle.cubic_tables.specs.Words.{triple_at}
use Rattle.cubic_moves.specs.Moves.{headed}
use Rattle.cubic_moves.proofs.MoveLaw.{heads, turn_none, turn_one}
use Rattle.cubic_moves.proofs.turn.Goals as goal

pub returns-then-rest-eq0 : goal.returns-then-rest-eq0
returns-then-rest-eq0 c =
    let a = c.args in
    let q = c.requires.place_bound in
    let z : a.place ≡ 0 = q.2 ∙ (ap (λ (x : ℕ). 3 ^ a.b * x) c.if-rest-eq0.true ∙ mul-zero (3 ^ a.b)) in record { state = (λ st hv ha hw hs. turn_none (triple_at a.table.now a.n) a.place a.b st _ z (sym hs) (sym hv) (sym ha) ∙ ap (headed st a.b _) hw); count = omega arith }

pub returns-then-rest-eq1 : goal.returns-then-rest-eq1
returns-then-rest-eq1 c =
    let a = c.args in
    let q = c.requires.place_bound in
    let v = c.plus-v.ensures in
    let one : a.rest ≡ 1 = omega arith in
    let z = alone a.place a.b (q.2 ∙ ap (λ (x : ℕ). 3 ^ a.b * x) one) in
    let h : 0 < a.place = above a.place a.b a.rest q.2 (omega arith) in record {
      state = (λ st hv ha hw hs.
          turn_one (triple_at a.table.now a.n) a.place a.b st _ h q.1 z (sym hs) (v.0 ∙ rw (hv, hs)) (omega (arith, v.1, ha)) ∙ ap (headed st a.b _) hw);
      count = omega (arith, v.1);
    }

pub overflow_add-c : goal.overflow_add-c
overflow_add-c c =
    let a = c.args in
    let q = c.requires.place_bound in
    let g = c.split-f.ensures in
    let o : 1 < a.rest = omega arith in
    let w = heads a.n a.place a.b a.rest _ _ q.0 q.1 q.2 o g.position g.whole (g.above (omega arith)) in
    omega (arith, w.low, c.requires.sized.small)

pub key-kb-requires : goal.key-kb-requires
key-kb-requires c =
    let a = c.args in
    let q = c.requires.place_bound in
    (c.requires.sized.small, omega (arith, first_lt a.n a.place c.requires.sized.some q.0, q.1))

pub head-requires : goal.head-requires
head-requires c =
    let a = c.args in
    let q = c.requires.place_bound in
    let g = c.split-f.ensures in
    let o : 1 < a.rest = omega arith in
    let w = heads a.n a.place a.b a.rest _ _ q.0 q.1 q.2 o g.position g.whole (g.above (omega arith)) in
    record { sized = c.requires.sized; kb_value = (c.key-kb.ensures.0, omega arith, w.low, w.rest, q.3) }

pub returns : goal.returns
returns c =
    let a = c.args in
    let q = c.requires.place_bound in
    let g = c.split-f.ensures in
    let o : 1 < a.rest = omega arith in
    let w = heads a.n a.place a.b a.rest _ _ q.0 q.1 q.2 o g.position g.whole (g.above (omega arith)) in
    let h = c.head.ensures in
    record { state = (λ st hv ha hw hs. ap (λ (ps : List ℕ). move_of (triple_at a.table.now a.n) ps st) w.positions ∙ h.state st hv ha hw hs); count = h.count }
