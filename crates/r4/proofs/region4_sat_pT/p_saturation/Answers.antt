-- `r4::region4_sat_pT::p_saturation` meets its contract: from its callees'. It is written out, so that an edit's log names what differs. Assumes nothing.
use Rattle.r4.proofs.region4_sat_pT.p_saturation.Goals as goal

pub returns : goal.returns
returns c = rw (← c.p_saturation_formula.ensures) c.checked.ensures
