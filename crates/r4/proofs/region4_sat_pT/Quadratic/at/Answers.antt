-- `r4::region4_sat_pT::Quadratic::at` meets its contract: its operations are the definition's. Assumes nothing.
use mathlib.Core.Path.{refl}
use lib.Ieee.{of_bits}
use Rattle.float.specs.Decimal.{rounded}
use Rattle.r4.proofs.region4_sat_pT.Quadratic.at.Goals as goal

pub returns : goal.returns
unfolding rounded of_bits
returns c = refl
