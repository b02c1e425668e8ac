-- `r2::region2_gfe::residual_derived` meets its contract: its arguments and its terms are the definition's. Assumes nothing.
use lib.Ieee.{of_bits}
use Rattle.float.specs.Decimal.{rounded}
use Rattle.r2.proofs.region2_gfe.residual_derived.Goals as goal

pub returns : goal.returns
unfolding rounded of_bits
returns g c = rw (c.poly_powi_steps.ensures, c.residual_terms.ensures, c.of.ensures, c.of-2.ensures)
