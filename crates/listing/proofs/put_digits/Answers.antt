-- `listing::put_digits` meets its contract: the digits that are left follow those that stand.
use mathlib.Core.Path.{◌≡◌, refl, ap, ◌∙◌}
use mathlib.Core.List.{◌++◌}
use Prim.Native.Nat.{ℕ, ◌+◌, ◌-◌, ◌/◌, ◌≤◌}
use native.Mathlib.Omega.{arith}
use borrow.Author.Rules.{rules}
use lib.ListN.{length, take, set}
use Rattle.listing.specs.Listing.{digits_of}
use Rattle.texts.proofs.TextLaw.{put_is, drop_turn, none_left}
use Rattle.listing.proofs.ListingLaw.{digits_turn, digits_none}
use Rattle.listing.proofs.put_digits.Goals as goal

pub loop-next-init : goal.loop-next-init
loop-next-init c =
    let a = c.args in
    let z : a.at + a.n - a.at ≡ a.n = omega arith in
    (refl, ap (λ (k : ℕ). take a.at a.text.now ++ digits_of k a.x) z, refl)

pub loop-next-preserved : goal.loop-next-preserved
loop-next-preserved c =
    let l = c.loop-next in
    let a = c.args in
    let end = a.at + a.n in (
      search rules,
      ap (λ (v : ℕ). take (l.next + 1) (set l.text l.next v) ++ digits_of (end - (l.next + 1)) (l.rest / 3)) c.glyph.ensures
          ∙ digits_turn l.text l.next end l.rest (omega arith) (omega arith)
          ∙ l.invariant.1,
      drop_turn l.next _ l.text a.text.now l.invariant.2,
    )

pub returns : goal.returns
returns c =
    let l = c.loop-next in
    let a = c.args in
    let end = a.at + a.n in
    let is : l.next ≡ end = omega arith in
    let e : end - l.next ≡ 0 = omega arith in
    let n : a.at ≤ length a.text.now = omega arith in
    let m : l.next ≤ length l.text = omega arith in (
      rw (← is) (put_is a.text.now a.at (digits_of a.n a.x) l.text l.next l.invariant.0 n m
          (none_left (take l.next l.text) (digits_of (end - l.next) l.rest) (digits_none (end - l.next) l.rest e) ∙ l.invariant.1)
          l.invariant.2),
      omega arith,
    )
