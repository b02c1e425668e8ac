-- `vessel::answer::bracket_told` meets its contract: each residual is told by itself. Assumes nothing.
use Rattle.vessel.proofs.answer.bracket_told.Goals as goal

pub returns : goal.returns
returns c = rw (← c.residual_told.ensures, ← c.residual_told-2.ensures)
