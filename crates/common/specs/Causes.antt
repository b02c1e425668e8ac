-- The numbers of document 01's table, cause by cause; 13 is document 02's (§1), and 21 the C interface's own.
use Rattle.std.specs.Prelude.{ℕ}
use Rattle.common.specs.declared.cause.Cause.{Cause}
use Rattle.common.specs.declared.cause.Cause.TheVariants.{InputNotFinite, TemperatureOutOfRange, PressureOutOfRange, VolumeNotAboveZero, EndsMeet, ResidualNotFinite, SameSign, StepsSpent, ResultNotFinite, PointOutside, LimitTooLarge, RunsUnfit, NamesNothing}

abbrev pub number_of : Cause → ℕ
-- an input is NaN or infinite
number_of InputNotFinite = 1
-- T out of range
number_of TemperatureOutOfRange = 2
-- p out of range
number_of PressureOutOfRange = 3
-- v ≤ 0
number_of VolumeNotAboveZero = 4
-- lower end not below upper end
number_of EndsMeet = 5
-- a residual evaluated is not finite
number_of ResidualNotFinite = 6
-- end residuals of the same strict sign
number_of SameSign = 7
-- steps spent
number_of StepsSpent = 8
-- a property, saturation or B23 result is not finite
number_of ResultNotFinite = 9
-- next point outside the bracket
number_of PointOutside = 10
-- step limit above the largest
number_of LimitTooLarge = 11
-- the four lengths of a log differ, or exceed the longest
number_of RunsUnfit = 13
-- a region or property number that names nothing
number_of NamesNothing = 21
