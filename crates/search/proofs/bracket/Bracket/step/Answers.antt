-- `search::bracket::Bracket::step` meets its contract: its test is the definition's, at what `middle` and `same_sign` ensure. Assumes nothing.
use Rattle.search.specs.Bisection.{step}
use Rattle.search.proofs.bracket.Bracket.step.Goals as goal

pub returns-then-same_sign : goal.returns-then-same_sign
unfolding step
returns-then-same_sign c = rw (← c.middle-m.ensures, ← c.same_sign.ensures, c.if-same_sign.true)

pub returns-else-same_sign : goal.returns-else-same_sign
unfolding step
returns-else-same_sign c = rw (← c.middle-m.ensures, ← c.same_sign.ensures, c.if-same_sign.false)
