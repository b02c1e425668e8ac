-- `search::brent::Brent::half_width` meets its contract: it is the definition, computed. Assumes nothing.
use lib.Ieee.{of_bits}
use borrow.Author.Rules.{rules}
use Rattle.search.specs.Brent.{half_width}
use Rattle.search.proofs.brent.Brent.half_width.Goals as goal

pub returns : goal.returns
unfolding of_bits half_width
returns c = search rules
