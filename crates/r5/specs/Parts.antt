-- Both parts of region 5 as the code sums them: over a table, by what a row adds. proofs/Parts.antt shows which derivatives come of which step.
use Rattle.std.specs.Prelude.{Float}
use Rattle.polynomial.specs.Kinds.{Step}
use Rattle.polynomial.specs.Sums.{over, none, from}
use Rattle.polynomial.specs.declared.Sums.{Sums}
use Rattle.r5.specs.Region5.{equation}

-- the ideal-gas part, the sum of its terms going on from `start`
unfoldable pub ideal_sums : Step → Float → Float → Sums
ideal_sums step start τ = over (step τ τ) (from start) equation.ideal_terms

-- the residual part, its derivatives not yet divided by what they take off the powers
unfoldable pub residual_sums : Step → Float → Float → Sums
residual_sums step π τ = over (step π τ) none equation.residual_terms
