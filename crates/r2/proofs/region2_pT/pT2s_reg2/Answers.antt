-- `r2::region2_pT::pT2s_reg2` meets its contract: its operations are the definition's. Assumes nothing.
use lib.Ieee.{of_bits}
use Rattle.float.specs.Decimal.{rounded}
use Rattle.gibbs.specs.Gibbs as gibbs
use Rattle.r2.specs.Region2.{pT2s}
use Rattle.r2.proofs.region2_pT.pT2s_reg2.Goals as goal

pub returns : goal.returns
unfolding pT2s gibbs.pT2s rounded of_bits
returns c = rw (c.s.ensures, c.polys_0_j_powi_reg2.ensures, c.gamma0_shared_reg2-g.ensures)
