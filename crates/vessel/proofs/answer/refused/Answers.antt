-- `vessel::answer::refused` meets its contract: it is the definition, with the bracket of nothing. Assumes nothing.
use lib.Ieee.{of_bits}
use Rattle.vessel.proofs.answer.refused.Goals as goal

pub returns : goal.returns
unfolding of_bits
returns c = rw c.none.ensures
