-- What a program tells at its end, and when. `sent` is what it has added up. That it adds up what `streams::send` answered for
-- standard output is read and tested: no contract can say that a call was made.
use Rattle.std.specs.Prelude.{◌≡◌, Bool, true, false, ◌&&◌, List, ℕ, ◌≤◌, Option, Some, None, is_some, unwrap_or, eqb, length, take}
use Rattle.texts.specs.Text.{line_if}
use Rattle.endings.specs.declared.Ending.{Ending}

-- the line is told exactly if the output's bytes, so many, were all taken and it was well at its end; nothing is told otherwise
pub record Tells (all : ℕ) (line b : List ℕ) (r : Ending) : Type 0 where
  pub fits : unwrap_or r.told 0 ≤ length b
  pub told : take (unwrap_or r.told 0) b ≡ line_if (eqb r.sent all && r.closed) line
  pub some : is_some r.told ≡ (eqb r.sent all && r.closed)

-- ---- the parts of an end
-- as many bytes are told as there were to tell, or none
abbrev pub told_if : Bool → ℕ → Option ℕ
told_if true k = Some k
told_if false k = None

-- all was taken: what is told hangs on the output's end
pub record Concludes (k bytes : ℕ) (r : Ending) : Type 0 where
  pub told : r.told ≡ told_if r.closed k
  pub sent : r.sent ≡ bytes

-- an output of one text, of so many bytes
pub record Delivers (k all : ℕ) (r : Ending) : Type 0 where
  pub told : r.told ≡ told_if (eqb r.sent all && r.closed) k
