-- A table as the code has it: its words lent, with what is told beside them.
use Rattle.given.specs.declared.Told.{Told}
use Rattle.given.specs.Given.{Given, table_with, quadratic, cubic}

-- the table that it stands for
abbrev pub told : Told → Given
told t = table_with t.degree t.n t.m t.words.now

-- the table of degree 2 of its words, and that of degree 3, whatever degree is told
abbrev pub told_two : Told → Given
told_two t = quadratic t.n t.m t.words.now

abbrev pub told_three : Told → Given
told_three t = cubic t.n t.m t.words.now
