-- The cases hold: each is computed.
use mathlib.Core.Path.{refl}
use Rattle.residues.specs.Sums.{sum}
use Rattle.gray.specs.Numbers.{digit, number, point_digit, point_of, place_digit, place_of}
use Rattle.lines.specs.Lines.{first_of, decimal_from, pair_in, starts, lines_of}
use Rattle.shapes.specs.Shapes.{shape_of}
use Rattle.graphs.specs.Edges.{has_edge, take_once}
use Rattle.graphs.specs.Reading.{take_line, end_of, read_lines, outcome_of}
use Rattle.texts.specs.Text.{decimal_in, refusal_line}
use Rattle.listing.specs.Listing.{digits_of, layout_line, layout_lines, head_line, totals_line}
use Rattle.planner.specs.Output.{differ_at, layouts_in, output_of, told_of}
use Rattle.planner.specs.Cases.{Cases}

pub cases : Cases
unfolding sum digit number point_digit point_of place_digit place_of first_of decimal_from pair_in starts shape_of lines_of has_edge take_once take_line end_of read_lines outcome_of decimal_in digits_of layout_line layout_lines head_line totals_line refusal_line differ_at layouts_in output_of told_of
cases = record { output = refl; refused = refl; told_ended = refl; told_refused = refl }
