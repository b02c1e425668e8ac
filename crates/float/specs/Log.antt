-- The natural logarithm of a double from 1.0e-8 to 101, in whole numbers with one rounding at the end; elsewhere NaN. proofs/LogDistance.antt shows how far it is from ln x (specs/Distance.antt).
-- The story from reduction to last rounding: x is (2 ^ 52 + t) / 2 ^ 52 * 2 ^ (e - 1023) by its bits, exactly. The first six digits of t name a row j, with a short reciprocal c / 2 ^ 8 of what
-- they stand for, so that (2 ^ 52 + t) * c / 2 ^ 60 is 1 - z exactly, with z from 0 to 1 / 53. So ln x is (e - 1023) * ln 2 + 2 * artanh ((2 ^ 8 - c) / (2 ^ 8 + c)) - (z + z ^ 2 / 2 + ..).
-- Seventeen terms of artanh's series, for the rows, and eight of the other are summed in units of 2 ^ -64, each cut to a whole number; ln 2 is a whole number of 2 ^ -56; the sum is
-- rounded to the nearest multiple of 2 ^ -48, which every double here holds.
use Rattle.std.specs.Prelude.{ℕ, zero, suc, ◌+◌, ◌-◌, ◌*◌, ◌/◌, ◌%◌, ◌^◌, false, ◌&&◌, cond, pos, negsuc, leb, Float}
use Rattle.std.specs.Float.{nan, fin, binary64}
use Rattle.std.specs.Float.Ieee.{of_int, neg, le, to_bits, of_bits}
use Rattle.exact.specs.Operations.{◌⊗◌}

-- z, z * w, z * w ^ 2, .., in units of 2 ^ -64, each cut to a whole number
unfoldable pub term : ℕ → ℕ → ℕ → ℕ
term zero z w = z
term (suc j) z w = term j z w * w / 2 ^ 64

-- z + z * w / (i + 1) + z * w ^ 2 / (2 i + 1) + .., n terms
unfoldable pub total : ℕ → ℕ → ℕ → ℕ → ℕ
total i zero z w = 0
total i (suc j) z w = total i j z w + term j z w / (i * j + 1)

-- z + z ^ 3 / 3 + z ^ 5 / 5 + ..
unfoldable pub artanh : ℕ → ℕ
artanh z = total 2 17 z (z * z / 2 ^ 64)

-- z + z ^ 2 / 2 + z ^ 3 / 3 + .., that is - ln (1 - z)
unfoldable pub fallen : ℕ → ℕ
fallen z = total 1 8 z z

-- a row's short reciprocal, in units of 2 ^ -8: no more than that of any number from 1 + j / 64 to 1 + (j + 1) / 64
unfoldable pub reciprocal : ℕ → ℕ
reciprocal j = 2 ^ 14 / (65 + j)

-- a / d, in units of 2 ^ -64
abbrev pub ratio : ℕ → ℕ → ℕ
ratio a d = a * 2 ^ 64 / d

-- minus the logarithm of c / 2 ^ 8, that is twice the artanh of (2 ^ 8 - c) / (2 ^ 8 + c), in units of 2 ^ -56
unfoldable pub minus_log : ℕ → ℕ
minus_log c = artanh (ratio (2 ^ 8 - c) (2 ^ 8 + c)) / 2 ^ 7

-- ln 2 in units of 2 ^ -56
abbrev pub ln2 : ℕ
ln2 = 49946518145322873

-- n * 2 ^ -48
unfoldable pub scaled : ℕ → Float
scaled n = of_int binary64 (pos n) ⊗ fin false 1 (negsuc 47)

-- (p - q) * 2 ^ -56, to the nearest multiple of 2 ^ -48
unfoldable pub difference : ℕ → ℕ → Float
difference p q = cond (leb q p) (scaled ((p - q + 128) / 256)) (neg (scaled ((q - p + 128) / 256)))

-- of the exponent's field e, the number m in units of 2 ^ -52 and the row's reciprocal c
unfoldable pub of_row : ℕ → ℕ → ℕ → Float
of_row e m c = difference (minus_log c + (e - 1023) * ln2) (fallen ((2 ^ 60 - m * c) * 2 ^ 4) / 2 ^ 8 + (1023 - e) * ln2)

-- of the exponent's field e and the digits t
unfoldable pub of_parts : ℕ → ℕ → Float
of_parts e t = of_row e (2 ^ 52 + t) (reciprocal (t / 2 ^ 46))

-- 1.0e-8 and 101, as doubles
abbrev pub least : Float
least = of_bits binary64 0x3e45_798e_e230_8c3a

abbrev pub most : Float
most = of_bits binary64 0x4059_4000_0000_0000

unfoldable pub logarithm : Float → Float
logarithm x = cond (le least x && le x most) (of_parts (to_bits binary64 x / 2 ^ 52) (to_bits binary64 x % 2 ^ 52)) nan
