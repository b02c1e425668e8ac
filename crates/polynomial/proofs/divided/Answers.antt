-- `polynomial::divided` meets its contract: its quotients are the definition's. Assumes nothing.
use mathlib.Core.Path.{refl}
use Rattle.polynomial.proofs.divided.Goals as goal

pub returns : goal.returns
returns c = refl
