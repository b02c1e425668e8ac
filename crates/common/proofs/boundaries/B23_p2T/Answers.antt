-- `common::boundaries::B23_p2T` meets its contract: its operations are the definition's. Assumes nothing.
use mathlib.Core.Path.{ap}
use lib.Ieee.{Float}
use Rattle.exact.specs.Operations.{◌⊕◌}
use lib.Ieee.{of_bits}
use Rattle.float.specs.Decimal.{rounded}
use Rattle.common.specs.Table1.{n4}
use Rattle.common.specs.Boundaries.{B23_T}
use Rattle.common.proofs.boundaries.B23_p2T.Goals as goal

pub returns : goal.returns
unfolding B23_T rounded of_bits
returns c = ap (λ (x : Float). rounded n4 ⊕ x) c.sqrt.ensures
