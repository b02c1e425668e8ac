-- `vessel::answer::direct` meets its contract: a cause is the definition's. Assumes nothing.
use Rattle.vessel.specs.Answer.{direct}
use Rattle.vessel.proofs.answer.direct.Goals as goal

pub returns-in-Err : goal.returns-in-Err
unfolding direct
returns-in-Err c = rw c.in-Err.is c.refused.ensures
