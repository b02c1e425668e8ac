-- `common::boundaries::Range::contains` meets its contract: its tests are the definition's. The arms are written out, so that an edit's log names what differs. Assumes nothing.
use Rattle.common.specs.Boundaries.{inside}
use Rattle.common.proofs.boundaries.Range.contains.Goals as goal

pub returns-then-least-x : goal.returns-then-least-x
unfolding inside
returns-then-least-x c = rw (← c.least.ensures, c.if-least-x.true, ← c.most.ensures)

pub returns-else-least-x : goal.returns-else-least-x
unfolding inside
returns-else-least-x c = rw (← c.least.ensures, c.if-least-x.false)
