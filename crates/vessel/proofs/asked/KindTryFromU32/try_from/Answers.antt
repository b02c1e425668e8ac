-- `vessel::asked::Kind` of a number meets its contract: the arm that an edit turns is written out. Assumes nothing.
use Rattle.vessel.specs.Names.{kind_named}
use Rattle.vessel.proofs.asked.KindTryFromU32.try_from.Goals as goal

pub returns-in-8 : goal.returns-in-8
unfolding kind_named
returns-in-8 c = rw c.in-8.is
