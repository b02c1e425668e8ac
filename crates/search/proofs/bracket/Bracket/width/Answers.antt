-- `search::bracket::Bracket::width` meets its contract: each arm is its rule's. Assumes nothing.
use lib.Ieee.{of_bits}
use borrow.Author.Rules.{rules}
use Rattle.float.specs.Decimal.{rounded}
use Rattle.search.specs.Bisection.{width_of}
use Rattle.search.proofs.bracket.Bracket.width.Goals as goal

pub returns-in-Millionth : goal.returns-in-Millionth
unfolding width_of rounded of_bits
returns-in-Millionth c = search rules

pub returns-in-MillionthOfUpper : goal.returns-in-MillionthOfUpper
unfolding width_of rounded of_bits
returns-in-MillionthOfUpper c = search rules
