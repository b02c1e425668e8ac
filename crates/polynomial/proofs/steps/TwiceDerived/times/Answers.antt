-- `polynomial::steps::TwiceDerived::times` meets its contract: what the second derivative makes of the exponent is read back from its bits. Assumes nothing.
use native.Mathlib.Omega.{arith}
use Rattle.polynomial.proofs.Exponents.{less_back, pairs_back}
use Rattle.polynomial.proofs.steps.TwiceDerived.times.Goals as goal

pub returns : goal.returns
returns c = rw (c.power.ensures, pairs_back c.args.k c.requires c.ranges.k, less_back c.args.k c.requires c.ranges.k 1 (omega arith))
