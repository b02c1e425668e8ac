-- `r2::region2_pT::pT2v_reg2` meets its contract: its operations are the definition's. Assumes nothing.
use lib.Ieee.{of_bits}
use Rattle.float.specs.Decimal.{rounded}
use Rattle.gibbs.specs.Gibbs as gibbs
use Rattle.r2.specs.Region2.{pT2v}
use Rattle.r2.proofs.region2_pT.pT2v_reg2.Goals as goal

pub returns : goal.returns
unfolding pT2v gibbs.pT2v rounded of_bits
returns c = rw (c.v.ensures, c.gammar_pi_reg2.ensures)
