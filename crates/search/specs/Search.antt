-- A search between two given ends, in document 01's order: 5; then both ends evaluated: 6, a zero at the lower end, a zero at the upper end, 7; then the steps. The row of 5 stands apart from those of the ends.
use Rattle.std.specs.Prelude.{ℕ, not, ◌&&◌, List, [], ◌∷◌, Float}
use Rattle.std.specs.Float.Ieee.{lt, eq}
use Rattle.std.specs.Float.Ieee.Scale.{finite}
use Rattle.std.specs.declared.ops.ControlFlow.{ControlFlow}
use Rattle.std.specs.declared.ops.ControlFlow.TheVariants.{Continue, Break}
use Rattle.float.specs.Sign.{nought, same_sign}
use Rattle.common.specs.declared.cause.Cause.{Cause}
use Rattle.common.specs.declared.cause.Cause.TheVariants.{EndsMeet, ResidualNotFinite, SameSign}
use Rattle.search.specs.Bracket.{no_bracket}
use Rattle.search.specs.Decision.{Row, ◌⇒◌, decided}
use Rattle.search.specs.Bisection.{width_of, bisection, bisection_brackets}
use Rattle.search.specs.Brent.{zbrent, zbrent_brackets}
use Rattle.search.specs.declared.bracket.Bracket.{Bracket}
use Rattle.search.specs.declared.bracket.Outcome.{Outcome}
use Rattle.search.specs.declared.bracket.Outcome.TheVariants.{ExactEnd, Refused}
use Rattle.search.specs.declared.method.Method.{Method}
use Rattle.search.specs.declared.method.Method.TheVariants.{ByBisection, ByBrent}

-- a refusal that has no bracket to report
abbrev pub refused : Cause → Outcome
refused cause = Refused cause nought 0 no_bracket

-- ---- what is decided before the steps
-- 5: the lower end is not below the upper end
abbrev pub empty_row : Float → Float → Row Outcome
empty_row low high = not (lt low high) ⇒ refused EndsMeet

-- both ends evaluated: 6, a zero at the lower end, a zero at the upper end, 7
abbrev pub end_rows : Bracket → List (Row Outcome)
end_rows w =
    (not (finite w.r1 && finite w.r2) ⇒ Refused ResidualNotFinite nought 0 w)
    ∷ ((eq w.r1 nought ⇒ ExactEnd w.x1 w)
    ∷ ((eq w.r2 nought ⇒ ExactEnd w.x2 w)
    ∷ ((same_sign w.r1 w.r2 ⇒ refused SameSign)
    ∷ [])))

-- a search is closed by the first of them that holds, or open
abbrev pub closing : List (Row Outcome) → List (Row (ControlFlow Outcome Bracket))
closing [] = []
closing ((test ⇒ o) ∷ rows) = (test ⇒ Break o) ∷ closing rows

unfoldable pub opened : Bracket → ControlFlow Outcome Bracket
opened w = decided (closing (end_rows w)) (Continue w)

abbrev pub searched : (Bracket → Outcome) → ControlFlow Outcome Bracket → Outcome
searched steps (Break o) = o
searched steps (Continue b) = steps b

-- ---- the steps, by the search that is named, and the brackets that they go through
unfoldable pub run : Method → (Float → Float) → Bracket → ℕ → Outcome
run (ByBisection rule) f b limit = bisection (width_of rule) f b limit
run ByBrent f b limit = zbrent f b limit

unfoldable pub brackets : Method → (Float → Float) → Bracket → ℕ → List Bracket
brackets (ByBisection rule) f b limit = bisection_brackets (width_of rule) f b limit
brackets ByBrent f b limit = zbrent_brackets f b limit

-- ---- the search of f between two given ends
-- the two ends with their residuals
abbrev pub ends : (Float → Float) → Float → Float → Bracket
ends f low high = record { x1 = low; x2 = high; r1 = f low; r2 = f high }

unfoldable pub between : Method → (Float → Float) → Float → Float → ℕ → Outcome
between m f low high limit = decided (empty_row low high ∷ end_rows (ends f low high)) (run m f (ends f low high) limit)
