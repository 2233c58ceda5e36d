-- C-22's premise, for m equations of degree d in n unknowns: their degrees together are below the number of unknowns.
use Rattle.std.specs.Prelude.{ℕ, ◌*◌, ◌<◌}

abbrev pub Few : ℕ → ℕ → ℕ → Type 0
Few d m n = d * m < n
