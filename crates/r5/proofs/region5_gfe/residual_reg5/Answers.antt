-- `r5::region5_gfe::residual_reg5` meets its contract. Assumes nothing.
use Rattle.r5.specs.Parts.{residual_sums}
use Rattle.r5.proofs.region5_gfe.residual_reg5.Goals as goal

pub returns : goal.returns
unfolding residual_sums
returns g c = rw (c.tile.ensures, c.residual_terms.ensures, c.none.ensures, c.of.ensures, c.of-2.ensures)
