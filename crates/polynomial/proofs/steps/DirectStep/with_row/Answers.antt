-- `polynomial::steps::DirectStep::with_row` meets its contract: the term is the definition's. Assumes nothing.
use mir.Facts.{to_z-of_z}
use Rattle.polynomial.proofs.steps.DirectStep.with_row.Goals as goal

pub returns : goal.returns
returns g c =
    rw (
      c.with_first.ensures,
      rw (to_z-of_z c.ranges.j) at c.times-2.ensures,
      rw (to_z-of_z c.ranges.i) at c.times.ensures,
    )
