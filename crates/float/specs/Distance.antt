-- The natural logarithm between two fractions of whole numbers, and what it is to be near it. Definitions only.
-- Two series in one, by i. With y = a / d, the sum of y ^ (i j + 1) / (i j + 1) over all j is - ln (1 - y) for i = 1, and artanh y for i = 2.
-- The first n terms come to numerator i n a d / denominator i n d. The others come to at most y ^ (i n + 1) / (i n + 1) * (1 + y ^ i + y ^ (2 i) + ..), that is
-- a ^ (i n + 1) * d ^ i / tail_denominator i n a d.
-- That every longer partial sum lies between the two fractions, so that their limit does, is proofs/LogNested.antt.
use Rattle.std.specs.Prelude.{ℕ, zero, suc, ◌+◌, ◌-◌, ◌*◌, ◌^◌, ◌≤◌, ◌<◌, ◌≡◌, Float, T}
use Rattle.exact.specs.Value.{unit, in_units, plus, minus, double}

unfoldable pub denominator : ℕ → ℕ → ℕ → ℕ
denominator i zero d = 1
denominator i (suc n) d = denominator i n d * ((i * n + 1) * d ^ (i * n + 1))

unfoldable pub numerator : ℕ → ℕ → ℕ → ℕ → ℕ
numerator i zero a d = 0
numerator i (suc n) a d = numerator i n a d * ((i * n + 1) * d ^ (i * n + 1)) + a ^ (i * n + 1) * denominator i n d

unfoldable pub tail_denominator : ℕ → ℕ → ℕ → ℕ → ℕ
tail_denominator i n a d = (i * n + 1) * d ^ (i * n + 1) * (d ^ i - a ^ i)

-- lower / over ≤ the series ≤ upper / over: the partial sum of n terms, and that sum plus the tail's bound
unfoldable pub over : ℕ → ℕ → ℕ → ℕ → ℕ
over i n a d = denominator i n d * tail_denominator i n a d

unfoldable pub lower : ℕ → ℕ → ℕ → ℕ → ℕ
lower i n a d = numerator i n a d * tail_denominator i n a d

unfoldable pub upper : ℕ → ℕ → ℕ → ℕ → ℕ
upper i n a d = numerator i n a d * tail_denominator i n a d + a ^ (i * n + 1) * d ^ i * denominator i n d

-- x is M / 2 ^ 52 * 2 ^ (k - 1022), with 1 ≤ M / 2 ^ 52 < 2, and c / 2 ^ 8 a fraction up to 1 with M * c ≤ 2 ^ 60. So ln x is (k - 1022) * ln 2, minus the logarithm of c / 2 ^ 8, plus that
-- of M / 2 ^ 52 * c / 2 ^ 8. These three, by the series: ln 2 is 2 * artanh (1 / 3),
abbrev pub lower_2 : ℕ
lower_2 = 2 * lower 2 17 1 3

abbrev pub upper_2 : ℕ
upper_2 = 2 * upper 2 17 1 3

abbrev pub over_2 : ℕ
over_2 = over 2 17 1 3

-- - ln (c / 2 ^ 8) is 2 * artanh ((2 ^ 8 - c) / (2 ^ 8 + c)),
abbrev pub lower_c : ℕ → ℕ
lower_c c = 2 * lower 2 17 (2 ^ 8 - c) (2 ^ 8 + c)

abbrev pub upper_c : ℕ → ℕ
upper_c c = 2 * upper 2 17 (2 ^ 8 - c) (2 ^ 8 + c)

abbrev pub over_c : ℕ → ℕ
over_c c = over 2 17 (2 ^ 8 - c) (2 ^ 8 + c)

-- and the last is taken off: - ln (1 - z) for z = (2 ^ 60 - M * c) / 2 ^ 60
abbrev pub lower_z : ℕ → ℕ → ℕ
lower_z M c = lower 1 8 (2 ^ 60 - M * c) (2 ^ 60)

abbrev pub upper_z : ℕ → ℕ → ℕ
upper_z M c = upper 1 8 (2 ^ 60 - M * c) (2 ^ 60)

abbrev pub over_z : ℕ → ℕ → ℕ
over_z M c = over 1 8 (2 ^ 60 - M * c) (2 ^ 60)

-- n * (l / p) + m / q, as a whole number over p * q
abbrev pub times_and : ℕ → ℕ → ℕ → ℕ → ℕ → ℕ
times_and n l p m q = n * l * q + m * p

-- `floor` and `ceiling` are what ln x is at least and at most: each a difference of two whole numbers over `base`
unfoldable pub base : ℕ → ℕ → ℕ
base M c = over_2 * over_c c * over_z M c

unfoldable pub floor_plus : ℕ → ℕ → ℕ → ℕ
floor_plus M c k = times_and (k - 1022) lower_2 over_2 (lower_c c) (over_c c) * over_z M c

unfoldable pub floor_minus : ℕ → ℕ → ℕ → ℕ
floor_minus M c k = times_and (1022 - k) upper_2 over_2 (upper_z M c) (over_z M c) * over_c c

unfoldable pub ceiling_plus : ℕ → ℕ → ℕ → ℕ
ceiling_plus M c k = times_and (k - 1022) upper_2 over_2 (upper_c c) (over_c c) * over_z M c

unfoldable pub ceiling_minus : ℕ → ℕ → ℕ → ℕ
ceiling_minus M c k = times_and (1022 - k) lower_2 over_2 (lower_z M c) (over_z M c) * over_c c

-- r is a double, at most floor + u * 2 ^ -56 and at least ceiling - v * 2 ^ -56; ln x lies between floor and ceiling, so r is at most u units of 2 ^ -56 above it, and at most v under it
pub record NearLogarithm (u v : ℕ) (x r : Float) : Type 0 where
  pub is_double : T (double r)
  pub M : ℕ
  pub k : ℕ
  pub c : ℕ
  pub is : in_units x ≡ M * 2 ^ k
  pub least : 2 ^ 52 ≤ M
  pub most : M < 2 ^ 53
  pub sign : minus x ≡ 0
  pub some : 0 < c
  pub short : c ≤ 2 ^ 8
  pub part : M * c ≤ 2 ^ 60
  pub above : 2 ^ 56 * (plus r * base M c + floor_minus M c k * unit) ≤ 2 ^ 56 * (minus r * base M c + floor_plus M c k * unit) + u * (unit * base M c)
  pub under : 2 ^ 56 * (minus r * base M c + ceiling_plus M c k * unit) ≤ 2 ^ 56 * (plus r * base M c + ceiling_minus M c k * unit) + v * (unit * base M c)

-- the distance that document 02 asks for, in units of 2 ^ -56: 2 ^ -46
abbrev pub asked : ℕ
asked = 2 ^ 10

-- the sharper ones that are proved, both below 2 ^ -48: 128 units are half a step of the last rounding, the others what was cut off before
abbrev pub most_above : ℕ
most_above = 159

abbrev pub most_under : ℕ
most_under = 136
