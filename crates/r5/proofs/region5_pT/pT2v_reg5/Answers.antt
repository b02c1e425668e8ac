-- `r5::region5_pT::pT2v_reg5` meets its contract: it is the property of both parts' sums. Assumes nothing.
use lib.Ieee.{of_bits}
use Rattle.float.specs.Decimal.{rounded}
use Rattle.r5.proofs.Parts.{v_of_parts}
use Rattle.r5.proofs.region5_pT.pT2v_reg5.Goals as goal

pub returns : goal.returns
unfolding rounded of_bits
returns c =
    let a = c.args in
    rw (c.v.ensures, c.residual_reg5-residual.ensures) (v_of_parts a.p a.T)
