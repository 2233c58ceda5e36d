-- What the contracts say of counts.
use Rattle.std.specs.Prelude.{ℕ, Result, Ok, Err}

-- how many bytes of the input stand in the buffer
abbrev pub bytes_of : {E : Type 0} → Result ℕ E → ℕ
bytes_of (Ok k) = k
bytes_of (Err e) = 0
