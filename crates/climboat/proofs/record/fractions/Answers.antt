-- `climboat::record::fractions` meets its contract: it is the definition, computed. Assumes nothing.
use mathlib.Core.Path.{refl}
use lib.Ieee.{of_bits}
use Rattle.climboat.proofs.record.fractions.Goals as goal

pub returns : goal.returns
unfolding of_bits
returns c = refl
