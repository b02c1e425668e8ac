-- `search::brent::tolerance` meets its contract: its operations are the definition's, at what `abs` ensures. Assumes nothing.
use lib.Ieee.{of_bits}
use borrow.Author.Rules.{rules}
use Rattle.float.specs.Decimal.{rounded}
use Rattle.search.specs.Brent.{tolerance}
use Rattle.search.proofs.brent.tolerance.Goals as goal

pub returns : goal.returns
unfolding rounded of_bits tolerance
returns c = search rules
