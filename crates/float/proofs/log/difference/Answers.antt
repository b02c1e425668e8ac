-- `float::log::difference` meets its contract, by the test of its branch. Assumes nothing.
use mathlib.Core.Path.{ap}
use borrow.Author.Tests.{le-leb, lt-leb}
use lib.Ieee.{neg}
use Rattle.float.specs.Log.{difference}
use Rattle.float.proofs.log.difference.Goals as goal

pub returns-then-q-p : goal.returns-then-q-p
unfolding difference
returns-then-q-p c = rw (le-leb _ _ c.if-q-p.true) c.scaled.ensures

pub returns-else-q-p : goal.returns-else-q-p
unfolding difference
returns-else-q-p c = rw (lt-leb _ _ c.if-q-p.false) (ap neg c.scaled-else-q-p.ensures)
