-- `r1::region1_pT::pT2u_reg1` meets its contract: its operations are the definition's. Assumes nothing.
use lib.Ieee.{of_bits}
use Rattle.float.specs.Decimal.{rounded}
use Rattle.r1.specs.Region1.{pT2u}
use Rattle.r1.proofs.region1_pT.pT2u_reg1.Goals as goal

pub returns : goal.returns
unfolding pT2u rounded of_bits
returns c = rw c.polys_i_j_powi_reg1-d.ensures
