-- Every row of the table of readings holds, by computation and the sign rule. Assumes nothing.
use mathlib.Core.Path.{refl}
use mathlib.Core.Logic.{inr}
use lib.Ieee.{add, sub, mul, div, lt, le, eq, of_bits}
use Rattle.exact.specs.Middle.{middle}
use Rattle.float.specs.Decimal.{rounded}
use Rattle.float.specs.Power.{whole_power}
use Rattle.float.specs.Root.{square_root, fourth_root}
use Rattle.float.specs.Sign.{same_sign}
use Rattle.common.specs.Boundaries.{inside, found, checked}
use Rattle.r4.specs.Saturation.{saturation_pressure}
use Rattle.r4.specs.Ends.{p_lowest_1, p_most_2}
use Rattle.search.specs.Bisection.{step}
use Rattle.search.proofs.Residuals.{unlike}
use Rattle.vessel.specs.Answer.{direct}
use Rattle.vessel.specs.Range.{check}
use Rattle.vessel.specs.Calls.{value, property}
use Rattle.vessel.specs.Readings.{AllHold, table}

pub readings : AllHold table
unfolding table whole_power square_root fourth_root rounded same_sign eq mul div step middle add property value direct check inside found checked p_lowest_1 p_most_2 saturation_pressure le lt sub of_bits
readings = (refl, (refl, (refl, (refl, (refl, (refl, (refl, (refl, (refl, (λ r1 r2 r n p. rw (unlike r r1 (inr (p, n))), (refl, (refl, (refl, (refl, (refl, (refl, (refl, (refl, (refl, (refl, (refl, tt)))))))))))))))))))))
