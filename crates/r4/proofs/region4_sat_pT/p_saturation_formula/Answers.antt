-- `r4::region4_sat_pT::p_saturation_formula` meets its contract: its operations are the definition's. Assumes nothing.
use lib.Ieee.{of_bits}
use Rattle.float.specs.Decimal.{rounded}
use Rattle.r4.specs.Saturation.{saturation_pressure}
use Rattle.r4.proofs.region4_sat_pT.p_saturation_formula.Goals as goal

pub returns : goal.returns
unfolding saturation_pressure rounded of_bits
returns c = rw (c.powi.ensures, c.sqrt.ensures, c.square.ensures, c.at-line.ensures)
