-- The narrow rules in exact values: the double 1.0e-6 is at most a millionth, its rounded product with a double is a double and at most a millionth of that, rounded once; so a bracket that is narrow
-- by the product is exactly narrower than a millionth of its upper end. Assumes nothing.
use mathlib.Core.Path.{◌≡◌, sym}
use Prim.Native.Nat.{◌*◌, ◌≤◌, ◌<◌}
use mathlib.Core.Bool.{true}
use native.Mathlib.Nat.{le_trans, le_of_eq, lt_of_not-le, not-le_of_lt, mul-one, mul-le-mul_right}
use native.Mathlib.Omega.{arith}
use lib.Dec.{T, lit≤, lit<}
use lib.Pow.{pow_pos}
use lib.Ieee.{Float, lt, le, eq, fits}
use lib.Ieee.Scale.{finite}
use Rattle.exact.specs.Operations.{◌⊖◌, ◌⊗◌}
use Rattle.exact.specs.Value.{unit, in_units, double}
use Rattle.exact.specs.Rounding.{grid, distance}
use Rattle.exact.proofs.Grid.{grid_mono}
use Rattle.exact.proofs.Value.{unit_pos}
use Rattle.exact.proofs.Order.{or_l}
use Rattle.exact.proofs.Operations.{sub_rounds, mul_rounds}
use Rattle.exact.proofs.Rounding.{mul_units}
use Rattle.exact.proofs.Finite.{part_finite}
use Rattle.exact.proofs.Width.{width_rounds, narrow as Narrow-exact}
use Rattle.float.specs.Sign.{magnitude}
use Rattle.float.specs.Decimal.{rounded}
use Rattle.search.specs.Bisection.{millionth, width_of, narrow}
use Rattle.search.specs.Demand.{whole}
use Rattle.search.specs.declared.bracket.Bracket.{Bracket}
use Rattle.search.specs.declared.bisection.Width.{Width}
use Rattle.search.specs.declared.bisection.Width.TheVariants.{Millionth, MillionthOfUpper}
use Rattle.search.proofs.Magnitude.{magnitude-lt, bounded_finite}
use Rattle.search.proofs.Residuals.{of_true}

at_most_a_millionth : in_units millionth * 1000000 ≤ unit
unfolding rounded in_units unit
at_most_a_millionth = lit≤ tt

millionth-double : T (double millionth)
unfolding rounded fits
millionth-double = tt

module _ (x : Float) (d : T (double x)) where
  product_finite : T (finite (millionth ⊗ x))
  product_finite = let h = at_most_a_millionth in part_finite millionth x millionth-double d (omega (arith, h))

  product_at_most : in_units (millionth ⊗ x) ≤ grid (in_units x) 1000000
  product_at_most =
      let l = mul-le-mul_right (in_units x) at_most_a_millionth in
      le_trans (le_of_eq (mul_units millionth x millionth-double d product_finite)) (grid_mono (in_units millionth * in_units x) unit (in_units x) 1000000 unit_pos (lit< tt) (omega (arith, l)))

-- what a named rule asks of a bracket of doubles is a double
pub rule-double : (rule : Width) (b : Bracket) → T (double b.x1) → T (double b.x2) → T (double (width_of rule b))
unfolding width_of
rule-double Millionth b p q = millionth-double
rule-double MillionthOfUpper b p q = (mul_rounds millionth b.x2 millionth-double q (product_finite b.x2 q)).is_double

-- ---- a narrow bracket
module _ (width : Bracket → Float) (b : Bracket) (p : T (double b.x1)) (q : T (double b.x2)) (d : T (double (width b))) (t : narrow width b ≡ true) where
  below : T (lt (magnitude (b.x1 ⊖ b.x2)) (width b))
  unfolding narrow
  below = of_true t

  width_finite : T (finite (b.x1 ⊖ b.x2))
  unfolding le
  width_finite = bounded_finite (b.x1 ⊖ b.x2) (width b) d (or_l (lt (magnitude (b.x1 ⊖ b.x2)) (width b)) (eq (magnitude (b.x1 ⊖ b.x2)) (width b)) below)

  width_below : in_units (b.x1 ⊖ b.x2) < in_units (width b)
  width_below = magnitude-lt (b.x1 ⊖ b.x2) (width b) (sub_rounds b.x1 b.x2 p q width_finite).is_double d below

  pub narrow-distance : distance b.x1 b.x2 < in_units (width b)
  narrow-distance = Narrow-exact b.x1 b.x2 p q width_finite (width b) d width_below

-- exactly narrower than a millionth of the whole: no rounding is left in it, since rounding keeps order
pub narrow-part : (rule : Width) (b : Bracket) → T (double b.x1) → T (double b.x2) → narrow (width_of rule) b ≡ true → distance b.x1 b.x2 * 1000000 < whole rule b
unfolding width_of
narrow-part Millionth b p q t = let h = narrow-distance (width_of Millionth) b p q millionth-double t in omega (arith, h, at_most_a_millionth)
narrow-part MillionthOfUpper b p q t =
    let rule = width_of MillionthOfUpper in
    let d = rule-double MillionthOfUpper b p q in
    lt_of_not-le (λ (k : in_units b.x2 ≤ distance b.x1 b.x2 * 1000000).
    not-le_of_lt (width_below rule b p q d t)
    (le_trans (product_at_most b.x2 q)
    (le_trans (grid_mono (in_units b.x2) 1000000 (distance b.x1 b.x2) 1 (lit< tt) (pow_pos 0) (le_trans (le_of_eq (mul-one (in_units b.x2))) k))
    (le_of_eq (sym (width_rounds b.x1 b.x2 p q (width_finite rule b p q d t)))))))
