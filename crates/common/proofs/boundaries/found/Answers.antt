-- `common::boundaries::found` meets its contract: its test is the definition's. The arms are written out, so that an edit's log names what differs. Assumes nothing.
use Rattle.common.specs.Boundaries.{found}
use Rattle.common.proofs.boundaries.found.Goals as goal

pub returns-then-is_finite : goal.returns-then-is_finite
unfolding found
returns-then-is_finite c = rw (← c.is_finite.ensures, c.if-is_finite.true)

pub returns-else-is_finite : goal.returns-else-is_finite
unfolding found
returns-else-is_finite c = rw (← c.is_finite.ensures, c.if-is_finite.false)
