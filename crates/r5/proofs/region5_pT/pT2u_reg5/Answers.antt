-- `r5::region5_pT::pT2u_reg5` meets its contract: it is the property of both parts' sums. Assumes nothing.
use lib.Ieee.{of_bits}
use Rattle.float.specs.Decimal.{rounded}
use Rattle.r5.proofs.Parts.{u_of_parts}
use Rattle.r5.proofs.region5_pT.pT2u_reg5.Goals as goal

pub returns : goal.returns
unfolding rounded of_bits
returns c =
    let a = c.args in
    rw (c.u.ensures, c.divided.ensures, c.residual_reg5-residual.ensures, c.ideal_reg5-ideal.ensures) (u_of_parts a.p a.T)
