-- `r2::region2_pT::pT2w_reg2` meets its contract: its operations are the definition's. Assumes nothing.
use lib.Ieee.{of_bits}
use Rattle.float.specs.Decimal.{rounded}
use Rattle.gibbs.specs.Gibbs as gibbs
use Rattle.r2.specs.Region2.{pT2w}
use Rattle.r2.proofs.region2_pT.pT2w_reg2.Goals as goal

pub returns : goal.returns
unfolding pT2w gibbs.pT2w rounded of_bits
returns c = rw (c.w.ensures, c.gamma0_tautau_reg2.ensures, c.polys_i_ii_ij_jj_powi_reg2-r.ensures)
