-- `r2::region2_pT::pT2cp_reg2` meets its contract: its operations are the definition's. Assumes nothing.
use lib.Ieee.{of_bits}
use Rattle.float.specs.Decimal.{rounded}
use Rattle.gibbs.specs.Gibbs as gibbs
use Rattle.r2.specs.Region2.{pT2cp}
use Rattle.r2.proofs.region2_pT.pT2cp_reg2.Goals as goal

pub returns : goal.returns
unfolding pT2cp gibbs.pT2cp rounded of_bits
returns c = rw (c.cp.ensures, c.gammar_tautau_reg2.ensures, c.gamma0_tautau_reg2.ensures)
