-- `search::brent::Brent::accepted` meets its contract: its test is the definition's, at what the calls ensure. Assumes nothing.
use lib.Ieee.{of_bits}
use borrow.Author.Rules.{rules}
use Rattle.float.specs.Decimal.{rounded}
use Rattle.search.specs.Brent.{accepted}
use Rattle.search.proofs.brent.Brent.accepted.Goals as goal

pub returns-then-p-min : goal.returns-then-p-min
unfolding rounded of_bits accepted
returns-then-p-min c = search rules

pub returns-else-p-min : goal.returns-else-p-min
unfolding rounded of_bits accepted
returns-else-p-min c = search rules
