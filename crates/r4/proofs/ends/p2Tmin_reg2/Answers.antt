-- `r4::ends::p2Tmin_reg2` meets its contract: the definition, case by case. Assumes nothing.
use lib.Ieee.{of_bits}
use Rattle.float.specs.Decimal.{rounded}
use Rattle.r4.specs.Ends.{T_least_2}
use Rattle.r4.proofs.ends.p2Tmin_reg2.Goals as goal

pub returns-then-p : goal.returns-then-p
unfolding T_least_2 rounded of_bits
returns-then-p c = rw c.if-p.true

pub returns-then-p-p_saturation_formula : goal.returns-then-p-p_saturation_formula
unfolding T_least_2 rounded of_bits
returns-then-p-p_saturation_formula c = rw (c.if-p.false, ← c.p_saturation_formula.ensures, c.if-p-p_saturation_formula.true, ← c.T_saturation.ensures) c.read_off.ensures

pub returns : goal.returns
unfolding T_least_2 rounded of_bits
returns c = rw (c.if-p.false, ← c.p_saturation_formula.ensures, c.if-p-p_saturation_formula.false, ← c.B23_p2T.ensures, ← c.found.ensures) c.read_off-2.ensures
