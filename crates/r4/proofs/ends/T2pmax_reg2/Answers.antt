-- `r4::ends::T2pmax_reg2` meets its contract: the definition, case by case. Assumes nothing.
use lib.Ieee.{of_bits}
use Rattle.float.specs.Decimal.{rounded}
use Rattle.r4.specs.Ends.{p_most_2}
use Rattle.r4.proofs.ends.T2pmax_reg2.Goals as goal

pub returns-then-T : goal.returns-then-T
unfolding p_most_2 rounded of_bits
returns-then-T c = rw (c.if-T.true, ← c.p_saturation.ensures) c.read_off.ensures

pub returns-then-T-2 : goal.returns-then-T-2
unfolding p_most_2 rounded of_bits
returns-then-T-2 c = rw (c.if-T.false, c.if-T-2.true, ← c.B23_T2p.ensures, ← c.found.ensures) c.read_off-then-T-2.ensures

pub returns : goal.returns
unfolding p_most_2 rounded of_bits
returns c = rw (c.if-T.false, c.if-T-2.false)
