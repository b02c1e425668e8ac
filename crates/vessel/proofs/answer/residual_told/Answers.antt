-- `vessel::answer::residual_told` meets its contract: its tests are the definition's. The arms are written out, so that an edit's log names what differs. Assumes nothing.
use denote.Enum.Bare.{sameb}
use mathlib.Core.Path.{◌≡◌, refl}
use lib.Dec.{eqb}
use lib.Ieee.{of_bits}
use Rattle.common.specs.Causes.{number_of}
use Rattle.common.specs.contracts.cause.Cause.{the_type}
use Rattle.common.specs.declared.cause.Cause.{Cause}
use Rattle.common.specs.declared.cause.Cause.TheVariants.{InputNotFinite, TemperatureOutOfRange, PressureOutOfRange, VolumeNotAboveZero, EndsMeet, ResidualNotFinite, SameSign, StepsSpent, ResultNotFinite, PointOutside, LimitTooLarge, RunsUnfit, NamesNothing}
use Rattle.vessel.specs.Answer.{residual_told}
use Rattle.vessel.proofs.answer.residual_told.Goals as goal
use Rattle.vessel.proofs.answer.residual_told.Goals.{else-eq-via-then-eq+else-not-is_finite, else-eq-via-else-eq}

-- the cause is this one exactly where its number is 6
is_six : (cause : Cause) → sameb the_type cause ResidualNotFinite ≡ eqb (number_of cause) 6
is_six InputNotFinite = refl
is_six TemperatureOutOfRange = refl
is_six PressureOutOfRange = refl
is_six VolumeNotAboveZero = refl
is_six EndsMeet = refl
is_six ResidualNotFinite = refl
is_six SameSign = refl
is_six StepsSpent = refl
is_six ResultNotFinite = refl
is_six PointOutside = refl
is_six LimitTooLarge = refl
is_six RunsUnfit = refl
is_six NamesNothing = refl

pub returns-then-not-is_finite : goal.returns-then-not-is_finite
unfolding residual_told of_bits
returns-then-not-is_finite c = rw (← is_six c.args.cause, ← c.eq.ensures, c.if-eq.true, ← c.is_finite.ensures, c.if-not-is_finite.true)

pub returns-else-eq : goal.returns-else-eq
unfolding residual_told
returns-else-eq c =
    elim c.else-eq.branch [
      | else-eq-via-then-eq+else-not-is_finite w ↦ rw (← is_six c.args.cause, ← c.eq.ensures, w.if-eq.true, ← w.is_finite.ensures, w.if-not-is_finite.false)
      | else-eq-via-else-eq w ↦ rw (← is_six c.args.cause, ← c.eq.ensures, w.if-eq.false)
    ]
