-- `search::brent::Aim::step` meets its contract: its test is the definition's, at what the calls ensure. Assumes nothing.
use lib.Ieee.{of_bits}
use Rattle.search.specs.Brent.{step}
use Rattle.search.proofs.brent.Aim.step.Goals as goal

pub returns-then-is_finite : goal.returns-then-is_finite
unfolding step
returns-then-is_finite c = rw (← c.is_finite.ensures, c.if-is_finite.true, ← c.by_sign.ensures)

pub returns-else-is_finite : goal.returns-else-is_finite
unfolding of_bits step
returns-else-is_finite c = rw (← c.is_finite.ensures, c.if-is_finite.false, ← c.bracket.ensures)
