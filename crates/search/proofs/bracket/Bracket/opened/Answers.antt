-- `search::bracket::Bracket::opened` meets its contract: of two residuals of the same sign, the row of 7. Assumes nothing.
use lib.Ieee.{of_bits}
use borrow.Author.Rules.{rules}
use Rattle.search.specs.Search.{opened}
use Rattle.search.proofs.bracket.Bracket.opened.Goals as goal

pub returns-then-same_sign : goal.returns-then-same_sign
unfolding of_bits opened
returns-then-same_sign c = search rules
