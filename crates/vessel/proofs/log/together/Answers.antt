-- `vessel::log::together` meets its contract: its tests are the four facts. Assumes nothing.
use mathlib.Core.Bool.{and-true}
use borrow.Author.Tests.{le-leb, lt-leb}
use Rattle.vessel.specs.Log.{together}
use Rattle.vessel.proofs.log.together.Goals as goal

pub returns-then-p-le-LONGEST_LOG : goal.returns-then-p-le-LONGEST_LOG
unfolding together
returns-then-p-le-LONGEST_LOG c = rw (le-leb _ 4096 c.if-p-le-LONGEST_LOG.true) (rw and-true at c.eq.ensures)

pub returns-else-p-le-LONGEST_LOG : goal.returns-else-p-le-LONGEST_LOG
unfolding together
returns-else-p-le-LONGEST_LOG c = rw (lt-leb _ 4096 c.if-p-le-LONGEST_LOG.false)
