-- Bisection's `pairs::root::Search::advance` meets its contract: where the middle is not outside, its turn is the definition's. Assumes nothing.
use Rattle.search.specs.Bisection.{next}
use Rattle.pairs.proofs.root.BracketSearch.advance.Goals as goal

pub returns-else-outside : goal.returns-else-outside
unfolding next
returns-else-outside c = rw (← c.outside.ensures, c.if-outside.false, ← c.middle.ensures, ← c.residual.ensures, ← c.turn.ensures)
