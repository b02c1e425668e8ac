-- `search::brent::Brent::ratio` meets its contract: its test is the definition's, at what `half_width` ensures. Assumes nothing.
use lib.Ieee.{of_bits}
use borrow.Author.Rules.{rules}
use Rattle.float.specs.Decimal.{rounded}
use Rattle.search.specs.Brent.{ratio}
use Rattle.search.proofs.brent.Brent.ratio.Goals as goal

pub returns-then-self : goal.returns-then-self
unfolding rounded of_bits ratio
returns-then-self c = search rules

pub returns-else-self : goal.returns-else-self
unfolding rounded of_bits ratio
returns-else-self c = search rules
