-- `common::boundaries::B23_T2p` meets its contract: its operations are the definition's. Assumes nothing.
use mathlib.Core.Path.{refl}
use lib.Ieee.{of_bits, neg}
use Rattle.float.specs.Decimal.{rounded}
use Rattle.common.specs.Boundaries.{B23_p}
use Rattle.common.proofs.boundaries.B23_T2p.Goals as goal

pub returns : goal.returns
unfolding B23_p rounded of_bits neg
returns c = refl
