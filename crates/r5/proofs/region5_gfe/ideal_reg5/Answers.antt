-- `r5::region5_gfe::ideal_reg5` meets its contract. Assumes nothing.
use Rattle.r5.specs.Parts.{ideal_sums}
use Rattle.r5.proofs.region5_gfe.ideal_reg5.Goals as goal

pub returns : goal.returns
unfolding ideal_sums
returns g c = rw (c.tile.ensures, c.from.ensures, c.ideal_terms.ensures, c.of-vj.ensures)
