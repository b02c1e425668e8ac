-- Document 01's readings at the edges that are marked *, and under the number 0 those of region 5 (document 02, §2), as one table. proofs/Readings.antt is the one theorem that covers it.
use Rattle.std.specs.Prelude.{ℕ, ◌≡◌, Bool, true, List, [], ◌∷◌, T, Float}
use Rattle.std.specs.Float.{nan, binary64}
use Rattle.std.specs.Float.Ieee.{lt, eq, of_bits}
use Rattle.exact.specs.Operations.{◌⊗◌}
use Rattle.float.specs.Decimal.{+◌, −◌, number, rounded}
use Rattle.float.specs.Power.{whole_power}
use Rattle.float.specs.Root.{square_root, fourth_root}
use Rattle.float.specs.Sign.{nought, same_sign}
use Rattle.common.specs.Constant.{T_623, T_1073, T_2273, p_50}
use Rattle.search.specs.Bisection.{step}
use Rattle.search.specs.Brent.{plain}
use Rattle.vessel.specs.Range.{refusal}
use Rattle.vessel.specs.Calls.{property}
use Rattle.vessel.specs.Table.{number_of}
use Rattle.pairs.specs.declared.row.Region.TheVariants.{One, Two, Five}
use Rattle.vessel.specs.declared.property.Property.TheVariants.{Volume}

-- the reading's number, what is found, and what document 01 says
pub data Reading : Type 0 where
  double : ℕ → Float → Float → Reading
  truth : ℕ → Bool → Bool → Reading
  given : ℕ → ℕ → ℕ → Reading
  -- from x1 to x2, a residual below zero at x1 and above zero at the middle: the next bracket, whatever the residuals
  next : ℕ → Float → Float → Float → Float → Reading

abbrev pub Holds : Reading → Type 0
Holds (double n found said) = found ≡ said
Holds (truth n found said) = found ≡ said
Holds (given n found said) = found ≡ said
Holds (next n x1 x2 lower upper) = (r1 r2 r : Float) → T (lt r1 nought) → T (lt nought r) → step (record { x1 = x1; x2 = x2; r1 = r1; r2 = r2 }) r ≡ record { x1 = lower; x2 = upper; r1 = r1; r2 = r }

abbrev pub AllHold : List Reading → Type 0
AllHold [] = Prim.Unit {0}
AllHold (r ∷ rs) = Holds r × AllHold rs

abbrev pub minus : ℕ → Float
minus d = rounded (record { sign = true; digits = d; exponent = + 0 })

-- 1.0e-200
abbrev pub tiny : Float
tiny = rounded (number 1 (− 200))

-- the double above 623.15
abbrev pub above_623 : Float
above_623 = of_bits binary64 0x4083_7933_3333_3334

-- the double below 1073.15, that above 2273.15, and that above 50
abbrev pub below_1073 : Float
below_1073 = of_bits binary64 0x4090_C499_9999_9999

abbrev pub above_2273 : Float
above_2273 = of_bits binary64 0x40A1_C24C_CCCC_CCCE

abbrev pub above_50 : Float
above_50 = of_bits binary64 0x4049_0000_0000_0001

unfoldable pub table : List Reading
table =
    double 1 (whole_power (plain 2) (− 3)) (rounded (number 125 (− 3)))
    ∷ double 2 (whole_power (minus 2) (+ 3)) (minus 8)
    ∷ double 3 (whole_power (plain 0) (+ 0)) (plain 1)
    ∷ double 4 (whole_power (plain 3) (+ 4)) (plain 81)
    ∷ double 5 (square_root (rounded (number 225 (− 2)))) (rounded (number 15 (− 1)))
    ∷ double 6 (square_root (minus 1)) nan
    ∷ double 7 (fourth_root (rounded (number 625 (− 4)))) (rounded (number 5 (− 1)))
    ∷ truth 8 (same_sign tiny tiny) true
    ∷ truth 8 (eq (tiny ⊗ tiny) nought) true
    ∷ next 9 (plain 1) (plain 4) (plain 1) (rounded (number 25 (− 1)))
    ∷ given 10 (number_of (property Two Volume (plain 0) (plain 300))) 3
    ∷ given 11 (number_of (property One Volume (plain 0) nan)) 1
    ∷ given 11 (number_of (property Two Volume (plain 0) nan)) 1
    ∷ given 12 (refusal One (plain 100) T_623) 0
    ∷ given 12 (number_of (property One Volume (plain 100) above_623)) 2
    ∷ given 0 (refusal Two p_50 T_1073) 0
    ∷ given 0 (refusal Five p_50 T_1073) 0
    ∷ given 0 (number_of (property Five Volume p_50 below_1073)) 2
    ∷ given 0 (refusal Five p_50 T_2273) 0
    ∷ given 0 (number_of (property Five Volume p_50 above_2273)) 2
    ∷ given 0 (number_of (property Five Volume above_50 T_1073)) 3
    ∷ []
