-- `climboat::climboat_B23_temperature_columns` meets its contract: it writes the columns of the call's answer. Assumes nothing.
use Rattle.climboat.proofs.climboat_B23_temperature_columns.Goals as goal

pub returns : goal.returns
returns c = rw c.B23_temperature.ensures at c.write.ensures
