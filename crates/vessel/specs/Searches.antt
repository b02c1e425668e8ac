-- The calls that search: document 01's order of checks as one decision list, 11, 1, 2 or 3, 4, then 9, 5, 6, a zero at the lower end, a zero at the upper end, 7 (`before_steps`), then steps.
use Rattle.std.specs.Prelude.{ℕ, Bool, not, ◌&&◌, List, ◌∷◌, leb, Float, Some}
use Rattle.std.specs.Float.Ieee.{lt}
use Rattle.std.specs.Float.Ieee.Scale.{finite}
use Rattle.float.specs.Sign.{nought}
use Rattle.common.specs.Boundaries as boundaries
use Rattle.common.specs.declared.cause.Cause.TheVariants.{InputNotFinite, VolumeNotAboveZero, LimitTooLarge}
use Rattle.search.specs.Decision.{Row, ◌⇒◌, decided}
use Rattle.search.specs.Search.{refused}
use Rattle.search.specs.declared.bracket.Outcome.{Outcome}
use Rattle.pairs.specs.Residual.{row_of, state_of}
use Rattle.pairs.specs.Pairs.{asks, steps, start, before_steps}
use Rattle.pairs.specs.declared.row.Region.{Region}
use Rattle.pairs.specs.declared.row.Region.TheVariants.{One, Two, Five}
use Rattle.pairs.specs.declared.row.Pair.TheVariants.{Pv1, Tv1, Th1, Ts1, Pv2, Tv2, Th2, Ts2, Tv5, Th5, Ts5}
use Rattle.pairs.specs.declared.question.Question.{Question}
use Rattle.vessel.specs.Asked.{kind_of, of_pair}
use Rattle.vessel.specs.Answer.{answered, value_of}
use Rattle.vessel.specs.Range.{inside}
use Rattle.vessel.specs.declared.asked.Asked.{Asked}
use Rattle.vessel.specs.declared.answer.Answer.{Answer}
use Rattle.vessel.specs.declared.pair.PvRegion.{PvRegion}
use Rattle.vessel.specs.declared.pair.PvRegion.TheVariants.{One as One', Two as Two'}

-- the largest step limit
abbrev pub largest_limit : ℕ
largest_limit = 65535

-- v ≤ 0
unfoldable pub volume_refused : Question → Bool
volume_refused q = (row_of q).volume && not (lt nought q.target)

-- ---- the decision list; a fixed input out of its range is 2 for a temperature, 3 for a pressure
abbrev pub checks : Question → ℕ → List (Row Outcome)
checks q limit =
    (not (leb limit largest_limit) ⇒ refused LimitTooLarge)
    ∷ ((not (finite q.fixed && finite q.target) ⇒ refused InputNotFinite)
    ∷ ((not (boundaries.inside (row_of q).range q.fixed) ⇒ refused (boundaries.cause_of (row_of q).range))
    ∷ ((volume_refused q ⇒ refused VolumeNotAboveZero)
    ∷ before_steps q)))

unfoldable pub outcome : Question → ℕ → Outcome
outcome q limit = decided (checks q limit) (steps q (start q) limit)

-- ---- the mark: a found pressure with its T, a found temperature with its p, by the (p,T) rule
unfoldable pub mark : Question → Float → Bool
mark q x = inside (row_of q).region (state_of q x).p (state_of q x).T

-- ---- what the call of a question is of: the input that is fixed comes first, as in the call
unfoldable pub asked : Question → Asked
asked q = of_pair (kind_of q.pair) (Some (row_of q).region) q.fixed q.target

unfoldable pub search : Question → ℕ → Answer
search q limit = answered (asked q) (outcome q limit) (mark q (value_of (outcome q limit)))

-- ---- the calls
abbrev pub pv2T : PvRegion → Float → Float → ℕ → Answer
pv2T One' p v limit = search (asks Pv1 p v) limit
pv2T Two' p v limit = search (asks Pv2 p v) limit

abbrev pub Tv2p : Region → Float → Float → ℕ → Answer
Tv2p One T v limit = search (asks Tv1 T v) limit
Tv2p Two T v limit = search (asks Tv2 T v) limit
Tv2p Five T v limit = search (asks Tv5 T v) limit

abbrev pub Th2p : Region → Float → Float → ℕ → Answer
Th2p One T h limit = search (asks Th1 T h) limit
Th2p Two T h limit = search (asks Th2 T h) limit
Th2p Five T h limit = search (asks Th5 T h) limit

abbrev pub Ts2p : Region → Float → Float → ℕ → Answer
Ts2p One T s limit = search (asks Ts1 T s) limit
Ts2p Two T s limit = search (asks Ts2 T s) limit
Ts2p Five T s limit = search (asks Ts5 T s) limit
