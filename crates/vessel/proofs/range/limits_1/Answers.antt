-- `vessel::range::limits_1` meets its contract: its tests are the rows of region 1. Assumes nothing.
use Rattle.std.proofs.Common.{rules}
use lib.Ieee.{of_bits}
use Rattle.float.specs.Decimal.{rounded}
use Rattle.vessel.proofs.range.limits_1.Goals as goal

pub returns-then-p : goal.returns-then-p
unfolding rounded of_bits
returns-then-p c = search rules

pub returns-in_err-below : goal.returns-in_err-below
unfolding rounded of_bits
returns-in_err-below c = search rules

pub returns : goal.returns
unfolding rounded of_bits
returns c = search rules
