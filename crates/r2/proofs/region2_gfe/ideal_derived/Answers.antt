-- `r2::region2_gfe::ideal_derived` meets its contract: the first component is its own sum. Assumes nothing.
use Rattle.polynomial.specs.Sums.{none}
use Rattle.polynomial.proofs.Components.{alone-sum}
use Rattle.r2.specs.Region2.{equation}
use Rattle.r2.proofs.region2_gfe.ideal_derived.Goals as goal

pub returns : goal.returns
returns g c =
    let τ = c.args.tau in
    rw (c.tile-s.ensures, c.ideal_terms.ensures, c.none.ensures, c.of-vj.ensures) (alone-sum τ τ none equation.ideal_terms g.Tau.Derived.order)
