-- `float::sign::min` meets its contract: its tests are the definition's. Assumes nothing.
use Rattle.float.specs.Sign.{smaller}
use Rattle.float.proofs.Signs.{nan_is}
use Rattle.float.proofs.sign.min.Goals as goal

pub returns-then-x : goal.returns-then-x
unfolding smaller
returns-then-x c = rw (← nan_is c.args.x, c.if-x.true)

pub returns-then-y-x : goal.returns-then-y-x
unfolding smaller
returns-then-y-x c = rw (← nan_is c.args.x, c.if-x.false, c.if-y-x.true)

pub returns-else-y-x : goal.returns-else-y-x
unfolding smaller
returns-else-y-x c = rw (← nan_is c.args.x, c.if-x.false, c.if-y-x.false)
