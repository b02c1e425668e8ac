-- Whole powers of a double by document 01's rule: each product rounded once, in the order of repeated squaring.
use Rattle.std.specs.Prelude.{ℕ, zero, suc, ◌/◌, ◌%◌, false, cond, eqb, ℤ, pos, negsuc, Float}
use Rattle.std.specs.Float.{fin}
use Rattle.exact.specs.Operations.{◌⊗◌, ◌⊘◌}

abbrev pub one : Float
one = fin false 1 (pos 0)

-- While the exponent m is not 0: the result r takes the base b as a factor where m is odd, m is halved, and b is squared.
-- The first number bounds how often that is done: m times are enough, as m is halved. (Squaring once more at the end changes no result.)
unfoldable pub squaring : ℕ → ℕ → Float → Float → Float
squaring zero m r b = r
squaring (suc turns) zero r b = r
squaring (suc turns) (suc m) r b = squaring turns (suc m / 2) (cond (eqb (suc m % 2) 1) (r ⊗ b) r) (b ⊗ b)

-- x to the m, of an exponent that is not negative: 1 where m is 0, whatever x is
unfoldable pub raised : Float → ℕ → Float
unfolding squaring
raised x m = squaring m m one x

-- x to the n: of a negative n, 1 divided by the power of its magnitude
unfoldable pub whole_power : Float → ℤ → Float
unfolding raised
whole_power x (pos m) = raised x m
whole_power x (negsuc m) = one ⊘ raised x (suc m)
