-- Brent's `pairs::root::Search::advance` meets its contract: where it does not stop, its step is the definition's. It is written out, so that an edit's log names what differs. Assumes nothing.
use Rattle.search.specs.Brent.{next}
use Rattle.pairs.proofs.root.BrentSearch.advance.Goals as goal

pub returns-in_err-aim : goal.returns-in_err-aim
unfolding next
returns-in_err-aim c = rw (← c.aim.ensures, c.in_err-aim.was) c.from_residual.ensures

pub returns : goal.returns
unfolding next
returns c = rw (← c.aim.ensures, c.in_ok-aim.was, ← c.residual.ensures) c.step.ensures
