-- The middle of two doubles as document 01's searches take it, and what is true of it: between them whatever their signs, and near the exact middle where both are above zero. Definitions only.
use Rattle.std.specs.Prelude.{◌+◌, ◌*◌, ◌^◌, ◌≤◌, false, ◌≡◌, negsuc, T, Float}
use Rattle.std.specs.Float.{fin}
use Rattle.std.specs.Float.Ieee.{le}
use Rattle.std.specs.Float.Ieee.Positive.{positive}
use Rattle.std.specs.Float.Ieee.Scale.{finite}
use Rattle.exact.specs.Operations.{◌⊕◌, ◌⊗◌}
use Rattle.exact.specs.Value.{plus, minus, double, AtMost}

abbrev pub half : Float
half = fin false 1 (negsuc 0)

-- 0.5 · (x1 + x2)
unfoldable pub middle : Float → Float → Float
middle x1 x2 = half ⊗ (x1 ⊕ x2)

-- m is a double that lies between x1 and x2
pub record Between (x1 x2 m : Float) : Type 0 where
  pub is_double : T (double m)
  pub above : AtMost x1 m
  pub under : AtMost m x2

-- two doubles above zero in order, whose sum is finite
pub record Ends (x1 x2 : Float) : Type 0 where
  pub first : T (positive x1)
  pub second : T (positive x2)
  pub order : T (le x1 x2)
  pub sum : T (finite (x1 ⊕ x2))

-- m lies between x1 and x2, and 2 m is within 2 ^ -53 of x1 + x2, and a unit, of x1 + x2
pub record Halfway (x1 x2 m : Float) : Type 0 where
  pub between : Between x1 x2 m
  pub sign : minus m ≡ 0
  pub near_up : 2 ^ 53 * (plus m * 2) ≤ 2 ^ 53 * (plus x1 + plus x2) + (plus x1 + plus x2 + 2 ^ 53)
  pub near_down : 2 ^ 53 * (plus x1 + plus x2) ≤ 2 ^ 53 * (plus m * 2) + (plus x1 + plus x2 + 2 ^ 53)
