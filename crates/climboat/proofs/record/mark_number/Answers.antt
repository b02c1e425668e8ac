-- `climboat::record::mark_number` meets its contract: the return that an edit turns is written out. Assumes nothing.
use Rattle.climboat.specs.Record.{mark_number}
use Rattle.climboat.proofs.record.mark_number.Goals as goal

pub returns-else-inside : goal.returns-else-inside
unfolding mark_number
returns-else-inside c = rw c.if-inside.false
