-- The starred cases, computed.
use mathlib.Core.Path.{refl}
use Rattle.residues.specs.Sums.{sum, same}
use Rattle.trits.specs.Trit.{bit, trit, from_bits, of_trits}
use Rattle.polynomials.specs.Poly.{prev, table_of, prev_of, back_of}
use Rattle.tables.specs.Monomials.{count_of, row_start, index_of, product_nth, nth}
use Rattle.tables.specs.Words.{entry, tabled, poly_at, words_of, packed, differences_of, coefficients_of}
use Rattle.tables.specs.Cases.{edge_row, trits, Starred}

pub starred : Starred
unfolding sum same bit trit from_bits of_trits prev table_of prev_of back_of count_of row_start index_of product_nth nth entry tabled poly_at words_of packed differences_of coefficients_of edge_row trits
starred = record { coefficients = refl; differences = refl; words = refl; back = refl }
