-- `r1::region1_gfe::gamma_pi_reg1` meets its contract: it is its sum, with the other sign. Assumes nothing.
use mathlib.Core.Path.{ap}
use lib.Ieee.{neg}
use Rattle.r1.specs.Region1.{gamma_pi}
use Rattle.r1.proofs.region1_gfe.gamma_pi_reg1.Goals as goal

pub returns : goal.returns
unfolding gamma_pi
returns c = ap neg c.derived.ensures
