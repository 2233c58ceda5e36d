-- `lists::filled` meets its contract: what was done and what is still to be done make up the whole call.
use mathlib.Core.Path.{◌≡◌, refl, sym, ap, subst, ◌∙◌}
use mathlib.Core.Logic.{⊎_elim, inl, inr}
use Prim.Native.Nat.{ℕ, ◌+◌, ◌-◌, ◌/◌, ◌^◌}
use native.Mathlib.Omega.{arith}
use borrow.Author.Tests.{not-true, not-false}
use lib.ListN.{length}
use Rattle.given.specs.Told.{told}
use Rattle.walks.specs.Calls.{stop_from}
use Rattle.given.proofs.TableLaw.{within}
use Rattle.lists.proofs.PieceLaw.{Held, starts, long, at_within, own, closed, points_fit, found_fit, few, moved, again}
use Rattle.opening.specs.First.{whole_of}
use Rattle.outcomes.specs.First.{outcome_with}
use Rattle.lists.proofs.filled.Goals as goal

pub loop-stop-init : goal.loop-stop-init
loop-stop-init c =
    let a = c.args in
    let z : 0 ≡ a.budget - a.budget = omega arith in
    (subst (λ (k : ℕ). Held (told a.table) (whole_of a.table.degree a.f a.seconds.now) a.budget a.list.now k a.budget 0 0 a.list.now (whole_of a.table.degree a.f a.seconds.now)) z (starts (told a.table) (whole_of a.table.degree a.f a.seconds.now) a.budget a.list.now c.requires.1), c.requires.2, refl, refl)

pub part-o-requires : goal.part-o-requires
part-o-requires c =
    let l = c.loop-stop in
    let a = c.args in
    (c.requires.0, own (told a.table) (whole_of a.table.degree a.f a.seconds.now) a.budget a.list.now (a.budget - l.left) l.left l.at l.additions l.list (whole_of a.table.degree l.s l.seconds) l.invariant.0, omega (arith, at_within (told a.table) (whole_of a.table.degree a.f a.seconds.now) a.budget a.list.now (a.budget - l.left) l.left l.at l.additions l.list (whole_of a.table.degree l.s l.seconds) l.invariant.0, long (told a.table) (whole_of a.table.degree a.f a.seconds.now) a.budget a.list.now (a.budget - l.left) l.left l.at l.additions l.list (whole_of a.table.degree l.s l.seconds) l.invariant.0), l.invariant.3 ∙ c.requires.3)

pub overflow_add-at : goal.overflow_add-at
overflow_add-at c =
    let l = c.loop-stop in
    let a = c.args in
    let w = c.did-this in
    omega (arith, found_fit (told a.table) (whole_of a.table.degree a.f a.seconds.now) a.budget a.list.now (a.budget - l.left) l.left l.at l.additions l.list (whole_of a.table.degree l.s l.seconds) l.invariant.0 (length l.words) (outcome_with a.table.degree c.part-o.result c.part-o.new.seconds) c.part-o.new.list w.result c.part-o.ensures.0 c.part-o.ensures.1 w.ensures, c.well_formed.1.1.1.1.1.0.0)

pub overflow_sub-left : goal.overflow_sub-left
overflow_sub-left c =
    let l = c.loop-stop in
    let a = c.args in
    let w = c.did-this in
    omega (arith, points_fit (told a.table) (whole_of a.table.degree a.f a.seconds.now) a.budget a.list.now (a.budget - l.left) l.left l.at l.additions l.list (whole_of a.table.degree l.s l.seconds) l.invariant.0 (length l.words) (outcome_with a.table.degree c.part-o.result c.part-o.new.seconds) c.part-o.new.list w.result c.part-o.ensures.0 c.part-o.ensures.1 w.ensures)

pub overflow_add-additions : goal.overflow_add-additions
overflow_add-additions c =
    let l = c.loop-stop in
    let a = c.args in
    let w = c.did-this in
    omega (arith, few (told a.table) (whole_of a.table.degree a.f a.seconds.now) a.budget a.list.now (a.budget - l.left) l.left l.at l.additions l.list (whole_of a.table.degree l.s l.seconds) l.invariant.0 (length l.words) (outcome_with a.table.degree c.part-o.result c.part-o.new.seconds) c.part-o.new.list w.result c.part-o.ensures.0 c.part-o.ensures.1 w.ensures c.requires.0)

pub overflow_sub-len : goal.overflow_sub-len
overflow_sub-len c =
    let l = c.loop-stop in
    let a = c.args in
    let w = c.did-this in
    omega (arith, found_fit (told a.table) (whole_of a.table.degree a.f a.seconds.now) a.budget a.list.now (a.budget - l.left) l.left l.at l.additions l.list (whole_of a.table.degree l.s l.seconds) l.invariant.0 (length l.words) (outcome_with a.table.degree c.part-o.result c.part-o.new.seconds) c.part-o.new.list w.result c.part-o.ensures.0 c.part-o.ensures.1 w.ensures)

pub overflow_sub-points : goal.overflow_sub-points
overflow_sub-points c =
    let l = c.loop-stop in
    let a = c.args in
    let w = c.did-this in
    omega (arith, l.invariant.0.spare)

pub shape_of-list-then-not-goes_on : goal.shape_of-list-then-not-goes_on
shape_of-list-then-not-goes_on c =
    let l = c.loop-stop in
    let a = c.args in
    let w = c.did-this in
    long (told a.table) (whole_of a.table.degree a.f a.seconds.now) a.budget a.list.now (a.budget - (l.left - w.result.points)) (l.left - w.result.points) (l.at + w.result.found) (l.additions + w.result.additions) _ _ (again (told a.table) (whole_of a.table.degree a.f a.seconds.now) a.budget a.list.now l.left l.at l.additions l.list (whole_of a.table.degree l.s l.seconds) l.invariant.0 (length l.words) (outcome_with a.table.degree c.part-o.result c.part-o.new.seconds) c.part-o.new.list w.result c.part-o.ensures.0 c.part-o.ensures.1 w.ensures)

pub returns-then-not-goes_on : goal.returns-then-not-goes_on
returns-then-not-goes_on c =
    let l = c.loop-stop in
    let a = c.args in
    let w = c.did-this in
    let e : c.power-end.result ≡ 3 ^ a.table.n = c.power-end.ensures.0 (omega (arith, (within (told a.table) c.requires.0).most)) in
    let o = c.goes_on.ensures.off (not-true _ c.if-not-goes_on.true-raw) in
    closed (told a.table) (whole_of a.table.degree a.f a.seconds.now) a.budget a.list.now (a.budget - (l.left - w.result.points)) (l.left - w.result.points) (l.at + w.result.found) (l.additions + w.result.additions) _ _ (again (told a.table) (whole_of a.table.degree a.f a.seconds.now) a.budget a.list.now l.left l.at l.additions l.list (whole_of a.table.degree l.s l.seconds) l.invariant.0 (length l.words) (outcome_with a.table.degree c.part-o.result c.part-o.new.seconds) c.part-o.new.list w.result c.part-o.ensures.0 c.part-o.ensures.1 w.ensures)
    c.stop_of-stop.result (c.stop_of-stop.ensures ∙ ap (λ (x : ℕ). stop_from c.part-o.result.first.place.0 x (l.at + w.result.found) (length a.list.now / 8)) e)
    (⊎_elim (λ x. inl (x ∙ e)) (λ x. inr x) o)

pub loop-stop-smaller : goal.loop-stop-smaller
loop-stop-smaller c =
    let l = c.loop-stop in
    let a = c.args in
    let w = c.did-this in
    let e : c.power-end.result ≡ 3 ^ a.table.n = c.power-end.ensures.0 (omega (arith, (within (told a.table) c.requires.0).most)) in
    let g = c.goes_on.ensures.on (not-false _ c.if-not-goes_on.false-raw) in
    omega (arith, moved (told a.table) (whole_of a.table.degree a.f a.seconds.now) a.budget a.list.now (a.budget - l.left) l.left l.at l.additions l.list (whole_of a.table.degree l.s l.seconds) l.invariant.0 (length l.words) (outcome_with a.table.degree c.part-o.result c.part-o.new.seconds) c.part-o.new.list w.result c.part-o.ensures.0 c.part-o.ensures.1 w.ensures l.invariant.1 (λ x. g.0 (x ∙ sym e)) g.1 g.2, points_fit (told a.table) (whole_of a.table.degree a.f a.seconds.now) a.budget a.list.now (a.budget - l.left) l.left l.at l.additions l.list (whole_of a.table.degree l.s l.seconds) l.invariant.0 (length l.words) (outcome_with a.table.degree c.part-o.result c.part-o.new.seconds) c.part-o.new.list w.result c.part-o.ensures.0 c.part-o.ensures.1 w.ensures)

pub loop-stop-preserved : goal.loop-stop-preserved
loop-stop-preserved c =
    let l = c.loop-stop in
    let a = c.args in
    let w = c.did-this in
    (again (told a.table) (whole_of a.table.degree a.f a.seconds.now) a.budget a.list.now l.left l.at l.additions l.list (whole_of a.table.degree l.s l.seconds) l.invariant.0 (length l.words) (outcome_with a.table.degree c.part-o.result c.part-o.new.seconds) c.part-o.new.list w.result c.part-o.ensures.0 c.part-o.ensures.1 w.ensures, omega (arith, l.invariant.1, c.part-o.auto.words), c.part-o.auto.words ∙ l.invariant.2, c.part-o.auto.seconds ∙ l.invariant.3)
