-- `exports::float_powi` meets its contract: the exponent is read back as it was handed on. Assumes nothing.
use mir.Facts.{to_z-of_z}
use Rattle.exports.proofs.float_powi.Goals as goal

pub returns : goal.returns
returns c = rw (to_z-of_z c.ranges.n) at c.powi.ensures
