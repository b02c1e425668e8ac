-- `r1::region1_gfe::derived` meets its contract: its arguments and its terms are the definition's. Assumes nothing.
use lib.Ieee.{of_bits}
use Rattle.float.specs.Decimal.{rounded}
use Rattle.r1.proofs.region1_gfe.derived.Goals as goal

pub returns : goal.returns
unfolding rounded of_bits
returns g c = rw (c.poly_powi_steps.ensures, c.terms.ensures, c.of.ensures, c.of-2.ensures)
