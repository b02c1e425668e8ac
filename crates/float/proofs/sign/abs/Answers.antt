-- `float::sign::abs` meets its contract: its tests are those of `proofs/Signs.antt`. Assumes nothing.
use mathlib.Core.Path.{sym, ap, subst}
use lib.Dec.{T}
use lib.Ieee.{of_bits}
use Rattle.float.specs.Sign.{magnitude}
use Rattle.float.proofs.Signs.{zero_is, sign_below, sign_above, negated, unchanged}
use Rattle.float.proofs.sign.abs.Goals as goal

pub returns-then-x : goal.returns-then-x
unfolding of_bits
returns-then-x c = sym (ap magnitude (zero_is c.args.x (subst T (sym c.well_formed.0.1) tt) c.if-x.true))

pub returns-then-x-2 : goal.returns-then-x-2
unfolding of_bits
returns-then-x-2 c = negated c.args.x (sign_below c.args.x c.if-x-2.true)

pub returns-else-x-2 : goal.returns-else-x-2
unfolding of_bits
returns-else-x-2 c = unchanged c.args.x (sign_above c.args.x c.if-x.false c.if-x-2.false)
