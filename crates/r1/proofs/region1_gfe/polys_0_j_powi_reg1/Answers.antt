-- `r1::region1_gfe::polys_0_j_powi_reg1` meets its contract: it is what is read for it. It is written out, so that an edit's log names what differs. Assumes nothing.
use Rattle.r1.proofs.region1_gfe.polys_0_j_powi_reg1.Goals as goal

pub returns : goal.returns
returns c = c.shared.ensures
