-- `r2::region2_pT::pT2u_reg2` meets its contract: its operations are the definition's. Assumes nothing.
use lib.Ieee.{of_bits}
use Rattle.float.specs.Decimal.{rounded}
use Rattle.gibbs.specs.Gibbs as gibbs
use Rattle.r2.specs.Region2.{pT2u}
use Rattle.r2.proofs.region2_pT.pT2u_reg2.Goals as goal

pub returns : goal.returns
unfolding pT2u gibbs.pT2u rounded of_bits
returns c = rw (c.u.ensures, c.polys_i_j_powi_reg2.ensures, c.gamma0_tau_reg2.ensures)
