-- Document 01's bisection: the middle, the tests in their order, the step, and the run over any residual function. The narrow rule is a function of the bracket, and a named choice is read by one.
use Rattle.std.specs.Prelude.{ℕ, ◌+◌, Bool, cond, ◌||◌, List, Float}
use Rattle.std.specs.Float.Ieee.{lt}
use Rattle.std.specs.Float.Ieee.Scale.{finite}
use Rattle.std.specs.declared.ops.ControlFlow.{ControlFlow}
use Rattle.std.specs.declared.ops.ControlFlow.TheVariants.{Continue, Break}
use Rattle.exact.specs.Operations.{◌⊖◌, ◌⊗◌}
use Rattle.exact.specs.Middle.{middle}
use Rattle.float.specs.Decimal.{−◌, number, rounded}
use Rattle.float.specs.Sign.{nought, magnitude, same_sign}
use Rattle.common.specs.declared.cause.Cause.TheVariants.{ResidualNotFinite, StepsSpent, PointOutside}
use Rattle.search.specs.Run.{run_from, states_from}
use Rattle.search.specs.declared.bracket.Bracket.{Bracket}
use Rattle.search.specs.declared.bracket.Outcome.{Outcome}
use Rattle.search.specs.declared.bracket.Outcome.TheVariants.{SmallResidual, Narrow, Refused}
use Rattle.search.specs.declared.bisection.Width.{Width}
use Rattle.search.specs.declared.bisection.Width.TheVariants.{Millionth, MillionthOfUpper}

-- 1.0e-8: FN_TOLERANCE
abbrev pub small : Float
small = rounded (number 1 (− 8))

-- 0.5·(x1 + x2)
abbrev pub middle_of : Bracket → Float
middle_of b = middle b.x1 b.x2

-- below x1 or above x2
unfoldable pub outside : Bracket → Bool
outside b = lt (middle_of b) b.x1 || lt b.x2 (middle_of b)

-- the end whose residual has the middle's sign is replaced
unfoldable pub step : Bracket → Float → Bracket
step b r =
    cond (same_sign r b.r1)
    (record { x1 = middle_of b; x2 = b.x2; r1 = r; r2 = b.r2 })
    (record { x1 = b.x1; x2 = middle_of b; r1 = b.r1; r2 = r })

-- 1.0e-6
abbrev pub millionth : Float
millionth = rounded (number 1 (− 6))

-- the narrow rule by its name: the width below which a bracket is narrow, 1.0e-6 (document 01) or 1.0e-6 times its upper end, as rounded (document 02, §4)
unfoldable pub width_of : Width → Bracket → Float
width_of Millionth b = millionth
width_of MillionthOfUpper b = millionth ⊗ b.x2

-- the width before the step
unfoldable pub narrow : (Bracket → Float) → Bracket → Bool
narrow width b = lt (magnitude (b.x1 ⊖ b.x2)) (width b)

-- the tests once the residual r at the middle is known; n counts that evaluation
unfoldable pub turn : (Bracket → Float) → Bracket → Float → ℕ → ControlFlow Outcome Bracket
turn width b r n =
    cond (finite r)
    (cond (lt (magnitude r) small) (Break (SmallResidual (middle_of b) n b))
    (cond (narrow width b) (Break (Narrow (middle_of b) n b))
    (Continue (step b r))))
    (Break (Refused ResidualNotFinite nought n b))

-- one turn of the loop after n steps, and the outcome at the limit: 8, with the next middle as last point
unfoldable pub next : (Bracket → Float) → (Float → Float) → Bracket → ℕ → ControlFlow Outcome Bracket
next width f b n = cond (outside b) (Break (Refused PointOutside nought n b)) (turn width b (f (middle_of b)) (n + 1))

unfoldable pub spent : Bracket → ℕ → Outcome
spent b n = Refused StepsSpent (middle_of b) n b

unfoldable pub bisection : (Bracket → Float) → (Float → Float) → Bracket → ℕ → Outcome
bisection width f b limit = run_from (next width f) spent limit b 0

-- the brackets of that run, the starting one first
unfoldable pub bisection_brackets : (Bracket → Float) → (Float → Float) → Bracket → ℕ → List Bracket
bisection_brackets width f b limit = states_from (next width f) limit b 0
