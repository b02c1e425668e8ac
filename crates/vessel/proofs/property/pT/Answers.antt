-- `vessel::property::pT` meets its contract: its value, as an answer. Assumes nothing.
use Rattle.vessel.specs.Calls.{property}
use Rattle.vessel.proofs.property.pT.Goals as goal

pub returns : goal.returns
unfolding property
returns c = rw (← c.at_state-asked.ensures, ← c.value.ensures) c.direct.ensures
