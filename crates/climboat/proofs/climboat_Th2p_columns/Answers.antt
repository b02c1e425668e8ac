-- `climboat::climboat_Th2p_columns` meets its contract: it writes the columns of the call's answer. Assumes nothing.
use Rattle.climboat.proofs.climboat_Th2p_columns.Goals as goal

pub returns : goal.returns
returns c = rw c.Th2p.ensures at c.write.ensures
