-- `vessel::log::number_and_value` meets its contract: the columns are the call's. An answer's arm is written out, so that an edit's log names what differs; a refusal's is found by the check, since an edit brings an `if` there. Assumes nothing.
use Rattle.vessel.specs.Answer.{direct}
use Rattle.vessel.specs.Calls.{property}
use Rattle.vessel.proofs.log.number_and_value.Goals as goal

pub returns-in-Ok : goal.returns-in-Ok
unfolding property direct
returns-in-Ok c = rw (← c.value.ensures, c.in-Ok.is)
