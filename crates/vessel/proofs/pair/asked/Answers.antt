-- `vessel::pair::asked` meets its contract: its parts are the definition's. Assumes nothing.
use Rattle.vessel.specs.Searches.{asked}
use Rattle.vessel.proofs.pair.asked.Goals as goal

pub returns : goal.returns
unfolding asked
returns c = rw (← c.region.ensures, ← c.kind_of.ensures) c.of_pair.ensures
