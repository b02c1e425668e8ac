-- `r4::ends::p2Tmax_reg1` meets its contract: the definition, case by case. Assumes nothing.
use lib.Ieee.{of_bits}
use Rattle.float.specs.Decimal.{rounded}
use Rattle.r4.specs.Ends.{T_most_1}
use Rattle.r4.proofs.ends.p2Tmax_reg1.Goals as goal

pub returns-then-p : goal.returns-then-p
unfolding T_most_1 rounded of_bits
returns-then-p c = rw c.if-p.true

pub returns : goal.returns
unfolding T_most_1 rounded of_bits
returns c = rw (c.if-p.false, ← c.T_saturation.ensures) c.read_off.ensures
