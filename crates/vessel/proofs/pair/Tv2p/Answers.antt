-- `vessel::pair::Tv2p` meets its contract: the arm that an edit turns is written out. Assumes nothing.
use Rattle.vessel.proofs.pair.Tv2p.Goals as goal

pub returns-in-Two : goal.returns-in-Two
returns-in-Two c = rw (c.in-Two.is, ← c.search-in-Two.ensures)
