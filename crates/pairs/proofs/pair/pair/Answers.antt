-- `pairs::pair::pair` meets its contract: the two ends taken apart, and the search between them. Assumes nothing.
use Rattle.search.specs.Search as search
use Rattle.pairs.specs.Pairs.{steps, between, pair}
use Rattle.pairs.proofs.pair.pair.Goals as goal

pub returns-in_default : goal.returns-in_default
unfolding pair
returns-in_default c = rw (← c.lower_end-lower.ensures, c.in_default.is) c.refused.ensures

pub returns-in_default-upper : goal.returns-in_default-upper
unfolding pair
returns-in_default-upper c =
    rw (← c.lower_end-lower.ensures, c.in-Some.is, ← c.upper_end-upper.ensures, c.in_default-upper.is) c.refused-in_default-upper.ensures

pub returns : goal.returns
unfolding pair between steps search.between
returns c =
    rw (← c.lower_end-lower.ensures, c.in-Some.is, ← c.upper_end-upper.ensures, c.in-Some-upper.is) c.between.ensures
