-- `r2::region2_pT::pT2h_reg2` meets its contract: its operations are the definition's. Assumes nothing.
use lib.Ieee.{of_bits}
use Rattle.float.specs.Decimal.{rounded}
use Rattle.gibbs.specs.Gibbs as gibbs
use Rattle.r2.specs.Region2.{pT2h}
use Rattle.r2.proofs.region2_pT.pT2h_reg2.Goals as goal

pub returns : goal.returns
unfolding pT2h gibbs.pT2h rounded of_bits
returns c = rw (c.h.ensures, c.gammar_tau_reg2.ensures, c.gamma0_tau_reg2.ensures)
