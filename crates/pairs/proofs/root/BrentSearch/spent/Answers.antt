-- Brent's `pairs::root::Search::spent` meets its contract: the point last evaluated, with the state's bracket. Assumes nothing.
use Rattle.search.specs.Brent.{spent}
use Rattle.pairs.proofs.root.BrentSearch.spent.Goals as goal

pub returns : goal.returns
unfolding spent
returns c = rw (← c.bracket.ensures)
