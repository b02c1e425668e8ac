-- An end is a double wherever it is not missing: a line's last operation rounds, and what is not finite is missing. Assumes nothing.
use mathlib.Core.Path.{◌≡◌, refl, sym, subst}
use mathlib.Core.Bool.{Bool, true, false, cond, true≢false}
use lib.Dec.{T}
use lib.Ieee.{Float, binary64, fits, lt, le}
use lib.Ieee.Fits.{add-fits, mul-fits}
use lib.Ieee.Scale.{finite}
use Rattle.std.specs.Prelude.{Option, Ok, Err}
use Rattle.exact.specs.Value.{double}
use Rattle.exact.proofs.Value.{double_of}
use Rattle.float.specs.Decimal.{−◌, number, rounded}
use Rattle.float.specs.Power.{whole_power}
use Rattle.common.specs.Constant.{T_623, T_863, p_623}
use Rattle.common.specs.Boundaries.{B23_p, B23_T, inside, cause_of, found, checked}
use Rattle.common.specs.declared.boundaries.Range.{Range}
use Rattle.common.specs.declared.boundaries.Range.TheVariants.{T4, P4}
use Rattle.common.specs.declared.cause.Cause.TheVariants.{InputNotFinite, ResultNotFinite}
use Rattle.r4.specs.Saturation.{saturation_pressure, saturation_temperature}
use Rattle.r4.specs.Ends.{missing, place, read_off, p_lowest_1, T_most_1, T_least_2, p_most_2}

-- a double, unless it is missing
abbrev pub Doubled : Option Float → Type 0
Doubled end = missing end ≡ false → T (double (place end))

one_of : (b : Bool) (x y : Option Float) → Doubled x → Doubled y → Doubled (cond b x y)
one_of true x y p q = p
one_of false x y p q = q

-- ---- what a line answers
of_found : (x : Float) → T (fits binary64 x) → Doubled (read_off (found x))
unfolding found
of_found x f = by (finite x) refl
  where
    by : (b : Bool) → finite x ≡ b → Doubled (read_off (cond b (Ok x) (Err ResultNotFinite)))
    by true e m = double_of x (subst T (sym e) tt) f
    by false e m = absurd (true≢false m)

of_checked : (range : Range) (y x : Float) → T (fits binary64 x) → Doubled (read_off (checked range y x))
unfolding checked
of_checked range y x f = by (finite y) (inside range y)
  where
    by : (a b : Bool) → Doubled (read_off (cond a (cond b (found x) (Err (cause_of range))) (Err InputNotFinite)))
    by false b m = absurd (true≢false m)
    by true false m = absurd (true≢false m)
    by true true m = of_found x f m

-- ---- the last operation of each line
pressure_fits : (t : Float) → T (fits binary64 (saturation_pressure t))
unfolding saturation_pressure whole_power
pressure_fits t = mul-fits binary64 _ _

temperature_fits : (p : Float) → T (fits binary64 (saturation_temperature p))
unfolding saturation_temperature
temperature_fits p = mul-fits binary64 _ _

B23_p-fits : (t : Float) → T (fits binary64 (B23_p t))
unfolding B23_p
B23_p-fits t = add-fits binary64 _ _

B23_T-fits : (p : Float) → T (fits binary64 (B23_T p))
unfolding B23_T
B23_T-fits p = add-fits binary64 _ _

-- ---- the ends that are computed
pub lowest_1_double : (t : Float) → Doubled (p_lowest_1 t)
unfolding p_lowest_1
lowest_1_double t = of_checked T4 t (saturation_pressure t) (pressure_fits t)

pub most_1_double : (p : Float) → Doubled (T_most_1 p)
unfolding T_most_1 rounded fits
most_1_double p = one_of (le p_623 p) _ _ (λ m. tt) (of_checked P4 p (saturation_temperature p) (temperature_fits p))

pub least_2_double : (p : Float) → Doubled (T_least_2 p)
unfolding T_least_2 rounded fits
least_2_double p =
    one_of (lt p (rounded (number 611213 (− 9)))) _ _ (λ m. tt)
    (one_of (le p (saturation_pressure T_623)) _ _ (of_checked P4 p (saturation_temperature p) (temperature_fits p))
    (of_found (B23_T p) (B23_T-fits p)))

pub most_2_double : (t : Float) → Doubled (p_most_2 t)
unfolding p_most_2 rounded fits
most_2_double t =
    one_of (le t T_623) _ _ (of_checked T4 t (saturation_pressure t) (pressure_fits t))
    (one_of (le t T_863) _ _ (of_found (B23_p t) (B23_p-fits t)) (λ m. tt))
