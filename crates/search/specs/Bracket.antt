-- A bracket with its residuals, and document 01's sign rule. What is reported is the lower end first.
use Rattle.std.specs.Prelude.{Bool, false, cond, Float}
use Rattle.std.specs.Float.Ieee.{lt}
use Rattle.float.specs.Sign.{nought}
use Rattle.search.specs.declared.bracket.Bracket.{Bracket}

-- the bracket that a refusal reports where there is none
abbrev pub no_bracket : Bracket
no_bracket = record { x1 = nought; x2 = nought; r1 = nought; r2 = nought }

-- two points with their residuals, the lower one first
unfoldable pub ordered : Float → Float → Float → Float → Bracket
ordered b fb c fc = cond (lt b c) (record { x1 = b; x2 = c; r1 = fb; r2 = fc }) (record { x1 = c; x2 = b; r1 = fc; r2 = fb })

-- x lies strictly between b and c, whichever is the lower
unfoldable pub strictly_between : Float → Float → Float → Bool
strictly_between x b c = cond (lt b x) (lt x c) (cond (lt c x) (lt x b) false)
