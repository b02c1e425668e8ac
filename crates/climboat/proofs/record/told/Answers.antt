-- `climboat::record::told` meets its contract. A refusal's arm is written out, so that an edit's log names what differs. Assumes nothing.
use Rattle.climboat.proofs.record.told.Goals as goal

pub returns-in-Refused : goal.returns-in-Refused
returns-in-Refused c = rw (c.in-Refused.is, ← c.number.ensures) c.four-in-Refused.ensures
