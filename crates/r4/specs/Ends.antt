-- An end of a search, and the ends of document 01, "Brackets", that are computed from the fixed input: a constant, or read off the saturation line or B23.
use Rattle.std.specs.Prelude.{Bool, cond, Option, Some, Result, is_none, unwrap_or, option_map, Float}
use Rattle.std.specs.Result.{result_ok}
use Rattle.std.specs.Float.{nan}
use Rattle.std.specs.Float.Ieee.{lt, le}
use Rattle.float.specs.Decimal.{−◌, number, rounded}
use Rattle.common.specs.Constant.{T_least, T_623, T_863, p_623, p_most}
use Rattle.common.specs.Boundaries.{B23_p, B23_T, found}
use Rattle.common.specs.declared.cause.Cause.{Cause}
use Rattle.r4.specs.Saturation.{saturation_pressure, saturation_pressure_at, saturation_temperature_at}

-- whether it is missing, and else where it lies
abbrev pub missing : Option Float → Bool
missing end = is_none end

abbrev pub place : Option Float → Float
place end = unwrap_or end nan

-- whether a pressure is below it
abbrev pub beside : Float → Option Float → Option Bool
beside p end = option_map (lt p) end

-- the same constant, whatever the fixed input
abbrev pub always : Float → Float → Option Float
always x fixed = Some x

-- what a line answers: missing where it refuses
abbrev pub read_off : Result Float Cause → Option Float
read_off line = result_ok line

-- ---- the ends that are computed. As an end, B23's formula is used without its check of p.
-- region 1 by T: saturation pressure
unfoldable pub p_lowest_1 : Float → Option Float
p_lowest_1 T = read_off (saturation_pressure_at T)

-- region 1 by p: 623.15 K if p ≥ 16.5291643, else saturation temperature
unfoldable pub T_most_1 : Float → Option Float
T_most_1 p = cond (le p_623 p) (Some T_623) (read_off (saturation_temperature_at p))

-- region 2 by p: 273.15 K if p < 0.000611213, saturation temperature if p ≤ saturation pressure at 623.15 K, else B23
unfoldable pub T_least_2 : Float → Option Float
T_least_2 p =
    cond (lt p (rounded (number 611213 (− 9)))) (Some T_least)
    (cond (le p (saturation_pressure T_623)) (read_off (saturation_temperature_at p))
    (read_off (found (B23_T p))))

-- region 2 by T, and the highest pressure of the (p,T) rule: saturation pressure up to 623.15 K, B23 up to 863.15 K, then 100
unfoldable pub p_most_2 : Float → Option Float
p_most_2 T =
    cond (le T T_623) (read_off (saturation_pressure_at T))
    (cond (le T T_863) (read_off (found (B23_p T)))
    (Some p_most))
