-- `cubic_blocks::parts::nine` meets its contract: what the rows left make of the parts stays the same.
use mathlib.Core.Path.{◌≡◌, refl, sym, ◌∙◌}
use Prim.Native.Nat.{ℕ, ◌-◌}
use native.Mathlib.Omega.{arith}
use lib.ListN.{length}
use Rattle.tables.specs.Words.{entry}
use Rattle.cubic_blocks.specs.Parts.{whole, rows_of, nine_of}
use Rattle.cubic_blocks.proofs.PartLaw.{left_more, left_none, fits_one, rows_turn, rows_end}
use Rattle.cubic_blocks.proofs.parts.nine.Goals as goal
use Rattle.cubic_blocks.proofs.parts.nine.Goals.{then-j-lt2, else-j-lt2}

pub loop-j-init : goal.loop-j-init
loop-j-init c =
    let a = c.args in (
      refl,
      record { place = omega arith; found = omega arith; additions = omega arith },
      c.requires.fits,
      (λ rest. left_more (λ (i : ℕ). rows_of (entry a.table.now) a.k i a.c a.p) 3 2 (whole a.x rest a.seconds.now a.list.now) refl),
    )

pub loop-j-preserved : goal.loop-j-preserved
loop-j-preserved c =
    let g = c.three-y in
    let l = c.loop-j in
    let a = c.args in
    let E = entry a.table.now in
    let w = l.invariant.1 in
    let e = g.ensures.went in
    let n : length g.new.list ≡ length a.list.now = omega (arith, g.auto, l.invariant.0) in
    elim c.if-j-lt2.branch [
      | then-j-lt2 b ↦
          let m = b.raise_slot-y.ensures in
          let v = m.went in
          let h = b.if-j-lt2.true in
          rw (b.y-is, b.seconds-is, b.at-is, b.q-is) (
            n,
            record { place = omega arith; found = omega arith; additions = omega arith },
            fits_one l.invariant.2,
            (λ rest.
                rows_turn E a.k l.j l.at l.q (whole l.y rest l.seconds l.list) (whole g.result rest g.new.seconds g.new.list) _ b.vector.result h (g.ensures.state rest) b.vector.ensures (m.state rest g.new.list)
                ∙ l.invariant.3 rest),
          )
      | else-j-lt2 b ↦
          let h = b.if-j-lt2.false in
          let i = c.loop-j-test.true in
          rw (b.y-is, b.seconds-is, b.at-is, b.q-is) (
            n,
            record { place = omega arith; found = omega arith; additions = omega arith },
            l.invariant.2,
            (λ rest. rows_end E a.k l.j l.at l.q (whole l.y rest l.seconds l.list) _ h i (g.ensures.state rest) ∙ l.invariant.3 rest),
          )
    ]

pub returns-clause-state : goal.returns-clause-state
unfolding nine_of
returns-clause-state c = λ rest.
    let l = c.loop-j in
    let a = c.args in
    let h : 3 - l.j ≡ 0 = omega (arith, c.loop-j-test) in
    sym (left_none (λ (i : ℕ). rows_of (entry a.table.now) a.k i l.at l.q) (3 - l.j) (whole l.y rest l.seconds l.list) h) ∙ l.invariant.3 rest
