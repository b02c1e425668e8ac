-- IEEE 754's squareRoot on doubles. `IsSquareRoot x r` says what it is, with no word on how it is found: for an x above zero, r is the one double nearest to the root (`IsRoot`).
-- `square_root x` is the value, by computation; proofs/SquareRoot.antt shows that it is such an r, and that there is no other.
-- The story from reduction to last rounding: 2 h binary digits of the square are left off, exactly, so that 107 or 108 remain; the whole part of their root has 54 digits; the last of
-- these is rounded off. The square is even and so is no odd number's square: there is never a tie.
use Rattle.std.specs.Prelude.{◌≡◌, ℕ, zero, suc, ◌+◌, ◌*◌, ◌/◌, ◌^◌, ◌<◌, true, false, cond, T, leb, Float}
use Rattle.std.specs.Float.{nan, inf, fin, binary64}
use Rattle.std.specs.Float.Ieee.{size, units}
use Rattle.exact.specs.Value.{unit, in_units, negative, plus, double}

-- The root of x is √(in_units x * unit) units. It is nearer to r than to another double y exactly if it lies on r's side of the middle (r + y) / 2, which is said squared, and times 4.
-- A y below zero is farther away than 0 is, and its `plus` is 0: so y goes over every double.
pub record IsRoot (x r : Float) : Type 0 where
  pub is_double : T (double r)
  pub sign : negative r ≡ false
  pub above : (y : Float) → T (double y) → in_units r < plus y → 4 * (in_units x * unit) < (in_units r + plus y) * (in_units r + plus y)
  pub below : (y : Float) → T (double y) → plus y < in_units r → (in_units r + plus y) * (in_units r + plus y) < 4 * (in_units x * unit)

abbrev pub IsSquareRoot : Float → Float → Type 0
IsSquareRoot nan r = r ≡ nan
IsSquareRoot (inf true) r = r ≡ nan
IsSquareRoot (inf false) r = r ≡ inf false
IsSquareRoot (fin s zero e) r = r ≡ fin s zero e
IsSquareRoot (fin true (suc m) e) r = r ≡ nan
IsSquareRoot (fin false (suc m) e) r = IsRoot (fin false (suc m) e) r

-- the whole part of the root of an n below 4 ^ d, digit by digit
unfoldable pub isqrt : ℕ → ℕ → ℕ
isqrt zero n = 0
isqrt (suc d) n = let r = 2 * isqrt d (n / 4) in cond (leb ((r + 1) * (r + 1)) n) (r + 1) r

-- of n units, n above 0: the result is (q + 1) / 2 times 2 ^ (h + 1) units
unfoldable pub root_of : ℕ → Float
unfolding isqrt size units unit
root_of n =
    let h = (size n + 967) / 2 in
    let q = isqrt 54 (n * unit / 4 ^ h) in
    units binary64 false ((q + 1) / 2) (suc h)

unfoldable pub square_root : Float → Float
unfolding in_units root_of
square_root nan = nan
square_root (inf s) = cond s nan (inf false)
square_root (fin s zero e) = fin s zero e
square_root (fin s (suc m) e) = cond s nan (root_of (in_units (fin s (suc m) e)))

-- two square roots
unfoldable pub fourth_root : Float → Float
unfolding square_root
fourth_root x = square_root (square_root x)
