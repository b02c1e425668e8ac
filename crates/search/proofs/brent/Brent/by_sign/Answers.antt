-- `search::brent::Brent::by_sign` meets its contract: its test is the definition's, at what `same_sign` ensures. Assumes nothing.
use Rattle.search.specs.Brent.{by_sign}
use Rattle.search.proofs.brent.Brent.by_sign.Goals as goal

pub returns-then-same_sign : goal.returns-then-same_sign
unfolding by_sign
returns-then-same_sign c = rw (← c.same_sign.ensures, c.if-same_sign.true)

pub returns-else-same_sign : goal.returns-else-same_sign
unfolding by_sign
returns-else-same_sign c = rw (← c.same_sign.ensures, c.if-same_sign.false)
