-- `float::log::scaled` meets its contract. Assumes nothing.
use mathlib.Core.Path.{refl}
use Prim.Native.Nat.{◌^◌}
use lib.Dec.{le→leb}
use lib.Ieee.{in_float, mul, of_int, of_bits}
use Rattle.float.specs.Log.{scaled}
use Rattle.float.proofs.log.scaled.Goals as goal

pub int_to_float-result : goal.int_to_float-result
unfolding in_float
int_to_float-result c = le→leb c.args.n (2 ^ 53) c.requires

pub returns : goal.returns
unfolding mul scaled of_int of_bits
returns c = refl
