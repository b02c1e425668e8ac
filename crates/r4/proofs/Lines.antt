-- Number 9 at an end means what document 01 says: where the fixed input is a double in its range, an end that is read off a line is the double of that line's formula, and missing exactly where
-- that is not finite, since the line's own range holds there. The order of doubles is that of exact values. Assumes nothing.
use mathlib.Core.Path.{◌≡◌, refl, sym, subst}
use mathlib.Core.Bool.{Bool, true, false, cond}
use lib.Dec.{T}
use lib.Ieee.{Float, fits, lt, le, add, sub, mul, div}
use lib.Ieee.Bits.{is_true}
use lib.Ieee.Fits.{and_i, and_l, and_r}
use lib.Ieee.Scale.{finite}
use Rattle.std.specs.Prelude.{Some}
use Rattle.exact.specs.Value.{double}
use Rattle.exact.proofs.Order.{le-le, not_le→le, not_lt→le}
use Rattle.float.specs.Decimal.{−◌, number, rounded}
use Rattle.float.specs.Power.{whole_power}
use Rattle.float.specs.Root.{square_root}
use Rattle.common.specs.Constant.{T_least, T_623, T_critical, T_863, p_least_1, p_least_4, p_623, p_critical, p_most}
use Rattle.common.specs.Boundaries.{B23_p, B23_T, inside, found, checked}
use Rattle.common.specs.declared.boundaries.Range.{Range}
use Rattle.common.specs.declared.boundaries.Range.TheVariants.{T1, P1, T2, T4, P4}
use Rattle.r4.specs.Saturation.{saturation_pressure, saturation_temperature}
use Rattle.r4.specs.Ends.{read_off, p_lowest_1, T_most_1, T_least_2, p_most_2}

-- 0.000611213, and the saturation pressure at 623.15 K with what is computed of it
abbrev p_273 : Float
p_273 = rounded (number 611213 (− 9))

abbrev p_top : Float
p_top = saturation_pressure T_623

top : T (double p_top) × T (le p_top p_critical)
unfolding saturation_pressure whole_power square_root rounded add sub mul div le lt fits
top = (tt, tt)

module _ (x : Float) (d : T (double x)) where
  -- ---- a line in its range answers its formula's double, or 9
  of_line : (range : Range) (result : Float) → T (inside range x) → read_off (checked range x result) ≡ read_off (found result)
  unfolding checked
  of_line range result h = rw (is_true (finite x) (and_l (finite x) (fits _ x) d), is_true (inside range x) h)

  on_T4 : T (le T_least x) → T (le x T_623) → T (inside T4 x)
  unfolding inside rounded le lt fits
  on_T4 h k = and_i (le T_least x) (le x T_critical) h (le-le x T_623 T_critical d tt tt k tt)

  on_P4 : (a b : Float) → T (double a) → T (double b) → T (le p_least_4 a) → T (le b p_critical) → T (le a x) → T (le x b) → T (inside P4 x)
  unfolding inside rounded fits
  on_P4 a b p q l m h k = and_i (le p_least_4 x) (le x p_critical) (le-le p_least_4 a x tt p d l h) (le-le x b p_critical d q tt k m)

  -- ---- region 1 by T
  pub lowest_1 : T (inside T1 x) → p_lowest_1 x ≡ read_off (found (saturation_pressure x))
  unfolding p_lowest_1 inside
  lowest_1 h = of_line T4 (saturation_pressure x) (on_T4 (and_l (le T_least x) (le x T_623) h) (and_r (le T_least x) (le x T_623) h))

  -- ---- region 1 by p
  pub most_1 : T (inside P1 x) → T_most_1 x ≡ cond (le p_623 x) (Some T_623) (read_off (found (saturation_temperature x)))
  unfolding T_most_1 inside rounded fits le lt
  most_1 h = by (le p_623 x) refl
    where
      by : (b : Bool) → le p_623 x ≡ b → cond b (Some T_623) (read_off (checked P4 x (saturation_temperature x))) ≡ cond b (Some T_623) (read_off (found (saturation_temperature x)))
      by true e = refl
      by false e = of_line P4 (saturation_temperature x) (on_P4 p_least_1 p_623 tt tt tt tt (and_l (le p_least_1 x) (le x p_most) h) (not_le→le p_623 x tt d e))

  -- ---- region 2 by p
  pub least_2 : T_least_2 x ≡ cond (lt x p_273) (Some T_least) (cond (le x p_top) (read_off (found (saturation_temperature x))) (read_off (found (B23_T x))))
  unfolding T_least_2 rounded fits le lt
  least_2 = by (lt x p_273) refl (le x p_top) refl
    where
      by : (b : Bool) → lt x p_273 ≡ b → (c : Bool) → le x p_top ≡ c
          → cond b (Some T_least) (cond c (read_off (checked P4 x (saturation_temperature x))) (read_off (found (B23_T x))))
          ≡ cond b (Some T_least) (cond c (read_off (found (saturation_temperature x))) (read_off (found (B23_T x))))
      by true e c k = refl
      by false e true k = of_line P4 (saturation_temperature x) (on_P4 p_273 p_top tt top.0 tt top.1 (not_lt→le x p_273 d tt e) (subst T (sym k) tt))
      by false e false k = refl

  -- ---- region 2 by T
  pub most_2 : T (inside T2 x) → p_most_2 x ≡ cond (le x T_623) (read_off (found (saturation_pressure x))) (cond (le x T_863) (read_off (found (B23_p x))) (Some p_most))
  unfolding p_most_2 inside
  most_2 h = by (le x T_623) refl
    where
      by : (b : Bool) → le x T_623 ≡ b
          → cond b (read_off (checked T4 x (saturation_pressure x))) (cond (le x T_863) (read_off (found (B23_p x))) (Some p_most))
          ≡ cond b (read_off (found (saturation_pressure x))) (cond (le x T_863) (read_off (found (B23_p x))) (Some p_most))
      by true e = of_line T4 (saturation_pressure x) (on_T4 (and_l (le T_least x) _ h) (subst T (sym e) tt))
      by false e = refl
