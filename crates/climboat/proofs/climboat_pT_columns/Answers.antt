-- `climboat::climboat_pT_columns` meets its contract: it writes the columns of the call's answer. Assumes nothing.
use Rattle.climboat.proofs.climboat_pT_columns.Goals as goal

pub returns : goal.returns
returns c = rw c.pT.ensures at c.write.ensures
