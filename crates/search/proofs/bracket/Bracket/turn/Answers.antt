-- `search::bracket::Bracket::turn` meets its contract: its tests are the definition's in their order, at what the calls ensure. Assumes nothing.
use lib.Ieee.{of_bits}
use borrow.Author.Rules.{rules}
use Rattle.float.specs.Decimal.{rounded}
use Rattle.search.specs.Bisection.{turn}
use Rattle.search.proofs.bracket.Bracket.turn.Goals as goal

pub returns-then-not-is_finite : goal.returns-then-not-is_finite
unfolding rounded of_bits turn
returns-then-not-is_finite c = search rules

pub returns-then-abs : goal.returns-then-abs
unfolding rounded of_bits turn
returns-then-abs c = search rules

pub returns-then-narrow : goal.returns-then-narrow
unfolding rounded of_bits turn
returns-then-narrow c = search rules

pub returns-else-narrow : goal.returns-else-narrow
unfolding rounded of_bits turn
returns-else-narrow c = search rules
