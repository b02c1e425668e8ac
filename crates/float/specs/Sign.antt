-- The magnitude of a double, the smaller of two, sign taking, and signs compared with zero.
use Rattle.std.specs.Prelude.{Bool, false, ◌&&◌, ◌||◌, cond, pos, Float}
use Rattle.std.specs.Float.{nan, inf, fin}
use Rattle.std.specs.Float.Ieee.{is_nan, lt}
use Rattle.exact.specs.Value.{negative}

abbrev pub nought : Float
nought = fin false 0 (pos 0)

-- x with its sign made s: negative where s is true. A NaN has none, and stays
abbrev pub with_sign : Bool → Float → Float
with_sign s nan = nan
with_sign s (inf t) = inf s
with_sign s (fin t m e) = fin s m e

-- the sign is dropped, of a zero too
abbrev pub magnitude : Float → Float
magnitude x = with_sign false x

-- x with the sign of y, of a zero too: IEEE 754's copySign. A y that is a NaN counts as one with the sign +
abbrev pub sign_taken : Float → Float → Float
sign_taken x y = with_sign (negative y) x

-- a NaN gives the other
unfoldable pub smaller : Float → Float → Float
unfolding is_nan
smaller x y = cond (is_nan x) y (cond (lt y x) y x)

-- both below zero, or both above: no product, which could round to 0
unfoldable pub same_sign : Float → Float → Bool
same_sign a b = (lt a nought && lt b nought) || (lt nought a && lt nought b)
