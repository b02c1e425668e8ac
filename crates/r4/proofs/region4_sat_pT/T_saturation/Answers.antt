-- `r4::region4_sat_pT::T_saturation` meets its contract: from its callees'. It is written out, so that an edit's log names what differs. Assumes nothing.
use Rattle.r4.proofs.region4_sat_pT.T_saturation.Goals as goal

pub returns : goal.returns
returns c = rw (← c.T_saturation_formula.ensures) c.checked.ensures
