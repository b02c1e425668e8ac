-- `float::sign::is_finite` meets its contract: x - x is a zero exactly where x is finite. Assumes nothing.
use mathlib.Core.Path.{sym, subst}
use lib.Dec.{T}
use lib.Ieee.{of_bits}
use Rattle.float.proofs.Signs.{self_minus_self}
use Rattle.float.proofs.sign.is_finite.Goals as goal

pub returns : goal.returns
unfolding of_bits
returns c = self_minus_self c.args.x (subst T (sym c.well_formed.0.1) tt)
