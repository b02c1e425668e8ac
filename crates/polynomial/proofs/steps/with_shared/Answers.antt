-- `polynomial::steps::with_shared` meets its contract: each product is the definition's, with exponents read back from their bits. Assumes nothing.
use native.Mathlib.Omega.{arith}
use mir.Facts.{to_z-of_z}
use Rattle.polynomial.proofs.Exponents.{less_back, pairs_back}
use Rattle.polynomial.proofs.steps.with_shared.Goals as goal

pub returns : goal.returns
returns c =
    rw (
      rw (to_z-of_z c.ranges.j) at c.times-x.ensures,
      rw (to_z-of_z c.ranges.i) at c.times-m.ensures,
      less_back c.args.i c.requires.0 c.ranges.i 0 (omega arith),
      pairs_back c.args.j c.requires.1 c.ranges.j,
      to_z-of_z c.ranges.i,
      to_z-of_z c.ranges.j,
    )
