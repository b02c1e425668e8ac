-- `r1::region1_gfe::gamma_tautau_reg1` meets its contract: it is its sum. Assumes nothing.
use Rattle.r1.specs.Region1.{gamma_tautau}
use Rattle.r1.proofs.region1_gfe.gamma_tautau_reg1.Goals as goal

pub returns : goal.returns
unfolding gamma_tautau
returns c = c.derived.ensures
