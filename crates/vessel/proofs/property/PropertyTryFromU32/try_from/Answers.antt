-- `vessel::property::Property` of a number meets its contract: the arm that an edit turns is written out. Assumes nothing.
use Rattle.vessel.specs.Names.{property_named}
use Rattle.vessel.proofs.property.PropertyTryFromU32.try_from.Goals as goal

pub returns-in-3 : goal.returns-in-3
unfolding property_named
returns-in-3 c = rw c.in-3.is
