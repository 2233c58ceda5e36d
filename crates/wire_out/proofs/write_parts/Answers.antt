-- `wire_out::write_parts` meets its contract: the first words written and encoded, and then the words of second slots.
use mathlib.Core.Path.{ap, ◌∙◌}
use mathlib.Core.List.{List}
use Prim.Native.Nat.{ℕ}
use native.Mathlib.Omega.{arith}
use Rattle.codec.specs.Codec.{bytes_from, pasted}
use Rattle.wire_out.proofs.write_parts.Goals as goal

pub encode-requires-2 : goal.encode-requires-2
encode-requires-2 c = omega (arith, c.requires.0, c.requires.1, c.encode.auto.b)

pub returns : goal.returns
returns c =
    let b = c.args.b.now in
    let s = c.args.s.now in
    c.encode-2.ensures
    ∙ ap (λ (x : List ℕ). pasted x 360 (bytes_from s)) c.encode.ensures
    ∙ ap (λ (w : List ℕ). pasted (pasted b 0 (bytes_from w)) 360 (bytes_from s)) c.put_first.ensures
