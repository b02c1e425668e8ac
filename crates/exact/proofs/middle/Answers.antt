-- `exact::middle` meets its contract: its operations are the definition's. Assumes nothing.
use mathlib.Core.Path.{refl}
use lib.Ieee.{of_bits}
use Rattle.exact.specs.Middle.{middle}
use Rattle.exact.proofs.middle.Goals as goal

pub returns : goal.returns
unfolding of_bits middle
returns c = refl
