-- `r2::region2_gfe::gamma0_shared_reg2` meets its contract: each component is its own sum. Assumes nothing.
use mathlib.Core.Path.{◌≡◌}
use Rattle.float.specs.Log.{logarithm}
use Rattle.polynomial.specs.Sums.{step, over, from}
use Rattle.polynomial.specs.declared.Kind.TheVariants.{AloneShared}
use Rattle.polynomial.proofs.Components.{alone-shared-sum}
use Rattle.r2.specs.Region2.{equation}
use Rattle.r2.proofs.region2_gfe.gamma0_shared_reg2.Goals as goal

pub returns : goal.returns
returns c =
    let a = c.args in
    let sums : c.tile-s.result ≡ over (step AloneShared a.tau a.tau) (from (logarithm a.pi)) equation.ideal_terms =
    rw (c.ideal_terms.ensures, c.from.ensures, c.ln.ensures, c.of-vj.ensures) at c.tile-s.ensures in
    let own = alone-shared-sum a.tau a.tau (from (logarithm a.pi)) equation.ideal_terms in
    rw (sums, own.0, own.1)
