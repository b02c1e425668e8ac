-- `pairs::question::Question::state` meets its contract: its test is the definition's. Assumes nothing.
use Rattle.pairs.specs.Residual.{state_of}
use Rattle.pairs.proofs.question.Question.state.Goals as goal

pub returns-then-of_pressures : goal.returns-then-of_pressures
unfolding state_of
returns-then-of_pressures c = rw (← c.range.ensures, ← c.of_pressures.ensures, c.if-of_pressures.true)

pub returns : goal.returns
unfolding state_of
returns c = rw (← c.range.ensures, ← c.of_pressures.ensures, c.if-of_pressures.false)
