-- `polynomial::steps::OnceDerived::times` meets its contract: the exponent less 1 is read back from its bits. Assumes nothing.
use native.Mathlib.Omega.{arith}
use mir.Facts.{to_z-of_z}
use Rattle.polynomial.proofs.Exponents.{less_back}
use Rattle.polynomial.proofs.steps.OnceDerived.times.Goals as goal

pub returns : goal.returns
returns c = rw (c.power.ensures, less_back c.args.k c.requires c.ranges.k 0 (omega arith), to_z-of_z c.ranges.k)
