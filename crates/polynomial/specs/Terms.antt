-- The terms n · vi^I · vj^J of a table, their derivatives, and their sums: each product left to right as written, each operation rounded once, sums from 0 entry by entry.
use mathlib.Core.List.{List, foldl}
use Rattle.std.specs.Prelude.{ℤ, ◌-ℤ◌, ◌*ℤ◌, Float}
use Rattle.std.specs.Float.{binary64}
use Rattle.std.specs.Float.Ieee.{of_int}
use Rattle.exact.specs.Operations.{◌⊕◌, ◌⊗◌, ◌⊘◌}
use Rattle.float.specs.Decimal.{+◌}
use Rattle.float.specs.Power.{whole_power}
use Rattle.float.specs.Sign.{nought}
use Rattle.polynomial.specs.declared.Order.{Order}
use Rattle.polynomial.specs.declared.Order.TheVariants.{Not, Once, Twice}

-- the two exponents, and the coefficient as a double
pub data Row : Type 0 where
  row : ℤ → ℤ → Float → Row

abbrev pub whole : ℤ → Float
whole k = of_int binary64 k

-- x times v^k, times k · v^(k−1), or times k·(k−1) · v^(k−2)
abbrev pub factored : Order → Float → ℤ → Float → Float
factored Not v k x = x ⊗ whole_power v k
factored Once v k x = x ⊗ whole k ⊗ whole_power v (k -ℤ + 1)
factored Twice v k x = x ⊗ whole (k *ℤ (k -ℤ + 1)) ⊗ whole_power v (k -ℤ + 2)

-- n · vi^I · vj^J, the powers derived as the orders say
abbrev pub term : Order → Order → Float → Float → Row → Float
term di dj vi vj (row I J n) = factored dj vj J (factored di vi I n)

-- from s, entry by entry
unfoldable pub total_from : Float → (Row → Float) → List Row → Float
total_from s t rs = foldl (λ x r. x ⊕ t r) s rs

abbrev pub total : (Row → Float) → List Row → Float
total t rs = total_from nought t rs

-- ---- the sums of algo/polynomial.rs, one derivative each
abbrev pub poly : Float → Float → List Row → Float
poly vi vj rs = total (term Not Not vi vj) rs

-- n · I · vi^(I−1) · vj^J
abbrev pub poly_i : Float → Float → List Row → Float
poly_i vi vj rs = total (term Once Not vi vj) rs

-- n · I·(I−1) · vi^(I−2) · vj^J
abbrev pub poly_ii : Float → Float → List Row → Float
poly_ii vi vj rs = total (term Twice Not vi vj) rs

-- n · vi^I · J · vj^(J−1)
abbrev pub poly_j : Float → Float → List Row → Float
poly_j vi vj rs = total (term Not Once vi vj) rs

-- n · vi^I · J·(J−1) · vj^(J−2)
abbrev pub poly_jj : Float → Float → List Row → Float
poly_jj vi vj rs = total (term Not Twice vi vj) rs

-- n · I · vi^(I−1) · J · vj^(J−1)
abbrev pub poly_ij : Float → Float → List Row → Float
poly_ij vi vj rs = total (term Once Once vi vj) rs

-- ---- the sums that share the item n · vi^I · vj^J: each multiplies it by what its derivative brings down, and divides once, after the sum, by what it takes off the powers
abbrev pub item : Float → Float → Row → Float
item vi vj r = term Not Not vi vj r

abbrev pub items : Float → Float → Row → Float
items vi vj r = item vi vj r

abbrev pub items_i : Float → Float → Row → Float
items_i vi vj (row I J n) = whole I ⊗ item vi vj (row I J n)

abbrev pub items_j : Float → Float → Row → Float
items_j vi vj (row I J n) = whole J ⊗ item vi vj (row I J n)

abbrev pub items_ii : Float → Float → Row → Float
items_ii vi vj (row I J n) = whole (I -ℤ + 1) ⊗ items_i vi vj (row I J n)

abbrev pub items_ij : Float → Float → Row → Float
items_ij vi vj (row I J n) = whole J ⊗ items_i vi vj (row I J n)

abbrev pub items_jj : Float → Float → Row → Float
items_jj vi vj (row I J n) = whole (J *ℤ (J -ℤ + 1)) ⊗ item vi vj (row I J n)

unfoldable pub shared_0 : Float → Float → List Row → Float
shared_0 vi vj rs = total (items vi vj) rs

unfoldable pub shared_i : Float → Float → List Row → Float
shared_i vi vj rs = total (items_i vi vj) rs ⊘ vi

unfoldable pub shared_j : Float → Float → List Row → Float
shared_j vi vj rs = total (items_j vi vj) rs ⊘ vj

unfoldable pub shared_ii : Float → Float → List Row → Float
shared_ii vi vj rs = total (items_ii vi vj) rs ⊘ (vi ⊗ vi)

unfoldable pub shared_ij : Float → Float → List Row → Float
shared_ij vi vj rs = total (items_ij vi vj) rs ⊘ (vi ⊗ vj)

unfoldable pub shared_jj : Float → Float → List Row → Float
shared_jj vi vj rs = total (items_jj vi vj) rs ⊘ (vj ⊗ vj)

-- ---- terms with one power, n · v^J: of the ideal-gas part, whose loops stand in region 2
abbrev pub alone : Order → Float → Row → Float
alone d v (row I J n) = factored d v J n

-- its item times J, in that order
abbrev pub alone_j : Float → Row → Float
alone_j v (row I J n) = alone Not v (row I J n) ⊗ whole J
