-- `r5::region5_gfe::ideal_terms` meets its contract: the arrays are the table's columns, tested by computation. Assumes nothing.
use mathlib.Core.Path.{refl}
use lib.Ieee.{of_bits}
use Rattle.float.specs.Decimal.{rounded}
use Rattle.polynomial.specs.Tables.{rows, all_in_range}
use Rattle.r5.specs.Table37.{table}
use Rattle.r5.proofs.region5_gfe.ideal_terms.Goals as goal

pub invariant_of-result : goal.invariant_of-result
unfolding all_in_range
invariant_of-result c = record { firsts = tt; seconds = tt; as_long_j = refl; as_long_n = refl }

pub returns : goal.returns
unfolding table rows rounded of_bits
returns c = refl
