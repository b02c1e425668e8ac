-- What one operation does to the exact result: it is rounded once to the grid of doubles. Definitions only.
use Rattle.std.specs.Prelude.{ℕ, ◌+◌, ◌-◌, ◌*◌, ◌^◌, ◌≡◌, T, Float}
use Rattle.std.specs.Float.Ieee.Order.{drop, kept}
use Rattle.exact.specs.Value.{plus, minus, double}

-- a / c units, rounded to a whole number of units that has 53 binary digits and then zeros: to the nearest, ties to even. No overflow here: the grid goes on for ever
abbrev pub grid : ℕ → ℕ → ℕ
grid a c = kept 53 a c * 2 ^ drop 53 a c

-- r is a double, and (p - n) / c units rounded
pub record Rounds (r : Float) (p n c : ℕ) : Type 0 where
  pub is_double : T (double r)
  pub plus_is : plus r ≡ grid (p - n) c
  pub minus_is : minus r ≡ grid (n - p) c

-- the distance of two numbers
abbrev pub apart : ℕ → ℕ → ℕ
apart p n = (p - n) + (n - p)

-- the exact distance of two doubles, of whatever signs, in units
abbrev pub distance : Float → Float → ℕ
distance x y = apart (plus x + minus y) (minus x + plus y)
