-- `climboat::climboat_pv2T_columns` meets its contract: it writes the columns of the call's answer. Assumes nothing.
use Rattle.climboat.proofs.climboat_pv2T_columns.Goals as goal

pub returns : goal.returns
returns c = rw c.pv2T.ensures at c.write.ensures
