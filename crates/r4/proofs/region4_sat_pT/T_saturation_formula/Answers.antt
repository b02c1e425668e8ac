-- `r4::region4_sat_pT::T_saturation_formula` meets its contract: its operations are the definition's. Assumes nothing.
use lib.Ieee.{of_bits, neg}
use Rattle.float.specs.Decimal.{rounded}
use Rattle.r4.specs.Saturation.{saturation_temperature}
use Rattle.r4.proofs.region4_sat_pT.T_saturation_formula.Goals as goal

pub returns : goal.returns
unfolding saturation_temperature rounded of_bits neg
returns c = rw (c.sqrt-2.ensures, c.sqrt.ensures, c.fourth_root-bet.ensures)
