-- The boundary between regions 2 and 3 (B23) in document 01's order of operations, the ranges of document 01 that read no boundary, and what a boundary answers.
use Rattle.std.specs.Prelude.{Bool, true, false, ◌&&◌, cond, Result, Ok, Err, Float}
use Rattle.std.specs.Float.Ieee.{le}
use Rattle.std.specs.Float.Ieee.Scale.{finite}
use Rattle.exact.specs.Operations.{◌⊕◌, ◌⊖◌, ◌⊗◌, ◌⊘◌}
use Rattle.float.specs.Decimal.{rounded}
use Rattle.float.specs.Root.{square_root}
use Rattle.common.specs.Constant.{T_least, T_623, T_critical, T_863, T_1073, T_2273, p_least, p_least_1, p_least_4, p_623, p_critical, p_50, p_most}
use Rattle.common.specs.Table1.{n1, n2, n3, n4, n5}
use Rattle.common.specs.declared.boundaries.Range.{Range}
use Rattle.common.specs.declared.boundaries.Range.TheVariants.{T1, P1, T2, P2, T5, P5, T4, P4, T23, P23}
use Rattle.common.specs.declared.cause.Cause.{Cause}
use Rattle.common.specs.declared.cause.Cause.TheVariants.{InputNotFinite, TemperatureOutOfRange, PressureOutOfRange, ResultNotFinite}

-- Eq. (5): p = n1 + T·(n2 + T·n3). At 623.15 K: 16.5291643 MPa.
unfoldable pub B23_p : Float → Float
B23_p T = rounded n1 ⊕ T ⊗ (rounded n2 ⊕ T ⊗ rounded n3)

-- Eq. (6): T = n4 + √((p − n5) / n3). At 16.5291643 MPa: 623.15 K.
unfoldable pub B23_T : Float → Float
B23_T p = rounded n4 ⊕ square_root ((p ⊖ rounded n5) ⊘ rounded n3)

-- ---- ranges, both ends included; a NaN is in none
-- The ranges of document 01, "Where each region begins and stops", that read no boundary, and those of region 5 (document 02, §2). Region 1's p is that of (p,v): for (p,T) the saturation pressure stands in place of the lower end.
abbrev pub least : Range → Float
least T1 = T_least
least P1 = p_least_1
least T2 = T_least
least P2 = p_least
least T5 = T_1073
least P5 = p_least
least T4 = T_least
least P4 = p_least_4
least T23 = T_623
least P23 = p_623

abbrev pub most : Range → Float
most T1 = T_623
most P1 = p_most
most T2 = T_1073
most P2 = p_most
most T5 = T_2273
most P5 = p_50
most T4 = T_critical
most P4 = p_critical
most T23 = T_863
most P23 = p_most

unfoldable pub inside : Range → Float → Bool
inside range x = le (least range) x && le x (most range)

-- ---- why what lies outside is refused: 3 for a pressure, 2 for a temperature
abbrev pub of_pressures : Range → Bool
of_pressures T1 = false
of_pressures P1 = true
of_pressures T2 = false
of_pressures P2 = true
of_pressures T5 = false
of_pressures P5 = true
of_pressures T4 = false
of_pressures P4 = true
of_pressures T23 = false
of_pressures P23 = true

unfoldable pub cause_of : Range → Cause
cause_of range = cond (of_pressures range) PressureOutOfRange TemperatureOutOfRange

-- ---- what a boundary answers
-- as a bracket end or a region's boundary: 9 where it is not finite
unfoldable pub found : Float → Result Float Cause
found value = cond (finite value) (Ok value) (Err ResultNotFinite)

-- as a call: 1 for an input that is not finite, 2 or 3 outside its range, 9 for a result that is not finite
unfoldable pub checked : Range → Float → Float → Result Float Cause
checked range x value = cond (finite x) (cond (inside range x) (found value) (Err (cause_of range))) (Err InputNotFinite)
