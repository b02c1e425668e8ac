-- The outcome of a pair as a decision list, over its row: 9 for an end that is missing, then a search between the two ends.
use Rattle.std.specs.Prelude.{ℕ, List, ◌∷◌, Option, Float}
use Rattle.common.specs.declared.cause.Cause.TheVariants.{ResultNotFinite}
use Rattle.search.specs.Decision.{Row, ◌⇒◌, decided}
use Rattle.search.specs.Search as search
use Rattle.search.specs.Search.{refused, empty_row, end_rows, ends, run}
use Rattle.search.specs.declared.bracket.Bracket.{Bracket}
use Rattle.search.specs.declared.bracket.Outcome.{Outcome}
use Rattle.r4.specs.Ends.{missing, place}
use Rattle.pairs.specs.Residual.{row_of, residual}
use Rattle.pairs.specs.declared.row.Pair.{Pair}
use Rattle.pairs.specs.declared.question.Question.{Question}

abbrev pub asks : Pair → Float → Float → Question
asks pair fixed target = record { pair = pair; fixed = fixed; target = target }

-- ---- between any two given ends
unfoldable pub steps : Question → Bracket → ℕ → Outcome
steps q b limit = run (row_of q).method (residual q) b limit

unfoldable pub between : Question → Float → Float → ℕ → Outcome
between q low high limit = search.between (row_of q).method (residual q) low high limit

-- ---- between the pair's own ends
abbrev pub lower_end : Question → Option Float
lower_end q = (row_of q).lower q.fixed

abbrev pub upper_end : Question → Option Float
upper_end q = (row_of q).upper q.fixed

-- the two ends with their residuals
abbrev pub start : Question → Bracket
start q = ends (residual q) (place (lower_end q)) (place (upper_end q))

-- 9: the line that has the end refuses
abbrev pub line_row : Option Float → Row Outcome
line_row end = missing end ⇒ refused ResultNotFinite

abbrev pub before_steps : Question → List (Row Outcome)
before_steps q = line_row (lower_end q) ∷ (line_row (upper_end q) ∷ (empty_row (start q).x1 (start q).x2 ∷ end_rows (start q)))

-- the outcome of a pair, whatever its inputs
unfoldable pub pair : Question → ℕ → Outcome
pair q limit = decided (before_steps q) (steps q (start q) limit)
