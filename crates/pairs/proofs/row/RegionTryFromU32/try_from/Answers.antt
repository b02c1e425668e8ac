-- `pairs::row::Region` of a number meets its contract: the arm that an edit turns is written out. Assumes nothing.
use Rattle.pairs.specs.Names.{region_named}
use Rattle.pairs.proofs.row.RegionTryFromU32.try_from.Goals as goal

pub returns-in-2 : goal.returns-in-2
unfolding region_named
returns-in-2 c = rw c.in-2.is
