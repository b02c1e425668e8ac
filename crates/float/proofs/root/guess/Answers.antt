-- `float::root::guess` meets its contract: it is safe, and its result is below 2 ^ 54. Assumes nothing.
use native.Mathlib.Omega.{arith}
use Rattle.exact.proofs.Bits.{not_nan_bits}
use Rattle.float.proofs.Signs.{no_nan}
use Rattle.float.proofs.root.guess.Goals as goal

pub float_from_bits-x : goal.float_from_bits-x
float_from_bits-x c = not_nan_bits _ (omega arith)

pub float_from_bits-rough : goal.float_from_bits-rough
float_from_bits-rough c = not_nan_bits _ (omega arith)

pub float_to_bits-result : goal.float_to_bits-result
float_to_bits-result c = no_nan _ c.if-root.false
