-- Decimal numbers as a document prints them: exact fractions of whole numbers, and the doubles that they are rounded to, once.
use Rattle.std.specs.Prelude.{ℕ, suc, ◌*◌, ◌^◌, Bool, true, false, ℤ, pos, negsuc, neg_ℤ, ◌-ℤ◌, Float}
use Rattle.std.specs.Float.{binary64}
use Rattle.std.specs.Float.Ieee.{round}

-- signs for whole numbers, as they are printed
infix 90 +◌ −◌
abbrev pub +◌ : ℕ → ℤ
+ n = pos n

abbrev pub −◌ : ℕ → ℤ
− n = neg_ℤ (pos n)

-- digits * 10 ^ exponent, negative where the sign is true
pub record Decimal : Type 0 where
  pub sign : Bool
  pub digits : ℕ
  pub exponent : ℤ

-- how the release prints a coefficient: 0.d * 10 ^ e and its negative, for a d of fourteen digits
abbrev pub plus : ℕ → ℤ → Decimal
plus d e = record { sign = false; digits = d; exponent = e -ℤ + 14 }

abbrev pub less : ℕ → ℤ → Decimal
less d e = record { sign = true; digits = d; exponent = e -ℤ + 14 }

-- d * 10 ^ e, as constants are written elsewhere: 0.461526 is `number 461526 (− 6)`
abbrev pub number : ℕ → ℤ → Decimal
number d e = record { sign = false; digits = d; exponent = e }

-- ---- the exact fraction: its sign is the decimal's
abbrev pub tens : ℤ → ℕ
tens (pos e) = 10 ^ e
tens (negsuc e) = 1

abbrev pub tenths : ℤ → ℕ
tenths (pos e) = 1
tenths (negsuc e) = 10 ^ suc e

abbrev pub numerator : Decimal → ℕ
numerator x = x.digits * tens x.exponent

abbrev pub denominator : Decimal → ℕ
denominator x = tenths x.exponent

-- the nearest double
unfoldable pub rounded : Decimal → Float
unfolding round
rounded x = round binary64 x.sign (numerator x) (denominator x)
