-- The cases hold: each is computed.
use mathlib.Core.Path.{refl}
use Rattle.residues.specs.Sums.{same}
use Rattle.trits.specs.Trit.{of_trits, from_bits}
use Rattle.tables.specs.Monomials.{count_of, product_nth, nth}
use Rattle.tables.specs.Words.{tabled, words_of}
use Rattle.lines.specs.Lines.{first_of, decimal_from, pair_in, starts, lines_of}
use Rattle.shapes.specs.Shapes.{shape_of}
use Rattle.graphs.specs.Edges.{has_edge, take_once}
use Rattle.graphs.specs.Reading.{take_line, end_of, read_lines, outcome_of}
use Rattle.equations.specs.Equations.{is_end, edge_poly, system_of}
use Rattle.reader.specs.Answers.{words_after}
use Rattle.reader.specs.Cases.{Cases}

pub cases : Cases
unfolding same of_trits from_bits count_of product_nth nth tabled words_of first_of decimal_from pair_in starts shape_of lines_of has_edge take_once take_line end_of read_lines outcome_of is_end edge_poly system_of words_after
cases =
    record {
      read = refl;
      words = refl;
      unended = refl;
      nothing = refl;
      empty_line = refl;
      comment = refl;
      return = refl;
      early = refl;
      twice = refl;
      without = refl;
      padded = refl;
      spaced = refl;
      vertex_none = refl;
      vertex_past = refl;
      loop = refl;
      again = refl;
      turned = refl;
      lines = refl;
      more_lines = refl;
      many = refl;
      few = refl;
      limits = refl;
      lent = refl;
    }
