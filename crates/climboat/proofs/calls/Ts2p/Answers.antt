-- `climboat::calls::Ts2p` meets its contract: the refusal that an edit turns is written out. Assumes nothing.
use Rattle.climboat.specs.Calls.{Ts2p, in_region}
use Rattle.climboat.proofs.Names.{names_nothing}
use Rattle.climboat.proofs.calls.Ts2p.Goals as goal

pub returns-in_default : goal.returns-in_default
unfolding Ts2p in_region
returns-in_default c = rw (names_nothing _ c.try_from.ensures c.in_default.is) (rw c.of_pair.ensures at c.refused.ensures)
