-- `r2::region2_gfe::residual_shared` meets its contract: what is left out changes nothing of what is read. Assumes nothing.
use lib.Ieee.{of_bits}
use Rattle.float.specs.Decimal.{rounded}
use Rattle.polynomial.proofs.Components.{sums_only}
use Rattle.r2.specs.Region2.{equation}
use Rattle.r2.proofs.region2_gfe.residual_shared.Goals as goal

pub returns : goal.returns
unfolding rounded of_bits
returns g c =
    let r = g.R.Read in
    let a = c.args in
    rw (c.only.ensures, c.polys_powi_steps.ensures, c.residual_terms.ensures, c.of.ensures, c.of-2.ensures)
    (sums_only a.pi (equation.vj a.tau) equation.residual_terms r.only r.laws)
