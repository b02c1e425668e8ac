-- The exact value of a double, as a whole number of units of 2 ^ -1074, the least double above zero.
-- The value is `plus x` less `minus x`, and one of the two is 0. So an order or an equation of exact values is one of sums of natural numbers, and exact however large they are.
use Rattle.std.specs.Prelude.{ℕ, ◌+◌, ◌*◌, ◌/◌, ◌^◌, ◌≤◌, ◌<◌, Bool, true, false, ◌&&◌, ◌≡◌, Float}
use Rattle.std.specs.Float.{nan, inf, fin, binary64}
use Rattle.std.specs.Float.Ieee.{up, down, fits}
use Rattle.std.specs.Float.Ieee.Scale.{finite}

-- 1 in units
unfoldable pub unit : ℕ
unit = 2 ^ 1074

-- the size in units, and 0 of a NaN or an infinity. A double loses nothing in the division (proofs/Value.antt, `units_exact`)
unfoldable pub in_units : Float → ℕ
unfolding unit
in_units nan = 0
in_units (inf s) = 0
in_units (fin s m e) = m * up e * unit / down e

-- the sign, of a zero and an infinity too
abbrev pub negative : Float → Bool
negative nan = false
negative (inf s) = s
negative (fin s m e) = s

abbrev pub when : Bool → ℕ → ℕ
when true n = n
when false n = 0

abbrev pub unless : Bool → ℕ → ℕ
unless true n = 0
unless false n = n

unfoldable pub plus : Float → ℕ
unfolding in_units
plus x = unless (negative x) (in_units x)

unfoldable pub minus : Float → ℕ
unfolding in_units
minus x = when (negative x) (in_units x)

-- a finite double: no NaN, no infinity, and held by the format
abbrev pub double : Float → Bool
double x = finite x && fits binary64 x

-- ---- exact values in order
abbrev pub Less : Float → Float → Type 0
Less x y = plus x + minus y < plus y + minus x

abbrev pub AtMost : Float → Float → Type 0
AtMost x y = plus x + minus y ≤ plus y + minus x

abbrev pub Equal : Float → Float → Type 0
Equal x y = plus x + minus y ≡ plus y + minus x
