-- `r1::region1_gfe::gamma_tau_reg1` meets its contract: it is its sum. Assumes nothing.
use Rattle.r1.specs.Region1.{gamma_tau}
use Rattle.r1.proofs.region1_gfe.gamma_tau_reg1.Goals as goal

pub returns : goal.returns
unfolding gamma_tau
returns c = c.derived.ensures
