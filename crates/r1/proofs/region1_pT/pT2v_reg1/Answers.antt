-- `r1::region1_pT::pT2v_reg1` meets its contract: its operations are the definition's. Assumes nothing.
use lib.Ieee.{of_bits}
use Rattle.float.specs.Decimal.{rounded}
use Rattle.r1.specs.Region1.{pT2v}
use Rattle.r1.proofs.region1_pT.pT2v_reg1.Goals as goal

pub returns : goal.returns
unfolding pT2v rounded of_bits
returns c = rw c.gamma_pi_reg1.ensures
