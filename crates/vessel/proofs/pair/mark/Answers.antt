-- `vessel::pair::mark` meets its contract: the (p,T) rule at the state. Assumes nothing.
use Rattle.vessel.specs.Searches.{mark}
use Rattle.vessel.proofs.pair.mark.Goals as goal

pub returns : goal.returns
unfolding mark
returns c = rw (← c.state-state.ensures, ← c.region.ensures) c.inside.ensures
