-- The question in the answer is the question asked: one theorem over all calls, of whatever arguments, answers and refusals alike; and a call that does not search has residuals 0 and 0. Assumes nothing.
use Prim.Native.Nat.{ℕ}
use mathlib.Core.Path.{◌≡◌, refl}
use mathlib.Core.Bool.{Bool}
use lib.Ieee.{Float}
use Rattle.std.specs.Prelude.{Result, Ok, Err}
use Rattle.common.specs.declared.cause.Cause.{Cause}
use Rattle.search.specs.declared.bracket.Outcome.{Outcome}
use Rattle.search.specs.declared.bracket.Outcome.TheVariants.{ExactEnd, SmallResidual, Narrow, Refused}
use Rattle.pairs.specs.declared.row.Region.TheVariants.{One, Two, Five}
use Rattle.pairs.specs.declared.question.Question.{Question}
use Rattle.vessel.specs.Answer.{direct, answered, columns, value_of}
use Rattle.vessel.specs.Calls as calls
use Rattle.vessel.specs.Searches.{outcome, mark, asked, search as search_of}
use Rattle.vessel.specs.EveryCall.{Call, pT, saturation_pressure, saturation_temperature, B23_pressure, B23_temperature, pv2T, Tv2p, Th2p, Ts2p, asks, NoSearch, answers}
use Rattle.vessel.specs.Residuals.{BothNought}
use Rattle.vessel.specs.declared.pair.PvRegion.TheVariants.{One as One', Two as Two'}
use Rattle.vessel.specs.declared.asked.Asked.{Asked}

of_direct : (a : Asked) (found : Result Float Cause) → (columns (direct a found)).asked ≡ a
unfolding direct
of_direct a (Ok x) = refl
of_direct a (Err cause) = refl

of_outcome : (a : Asked) (o : Outcome) (inside : Bool) → (columns (answered a o inside)).asked ≡ a
unfolding answered
of_outcome a (ExactEnd x b) inside = refl
of_outcome a (SmallResidual x n b) inside = refl
of_outcome a (Narrow x n b) inside = refl
of_outcome a (Refused k x n b) inside = refl

of_search : (q : Question) (limit : ℕ) → (columns (search_of q limit)).asked ≡ asked q
unfolding search_of
of_search q limit = of_outcome (asked q) (outcome q limit) (mark q (value_of (outcome q limit)))

pub says : (call : Call) → (columns (answers call)).asked ≡ asks call
unfolding calls.property calls.saturation_pressure calls.saturation_temperature calls.B23_pressure calls.B23_temperature asked
says (pT region q p T) = of_direct _ _
says (saturation_pressure T) = of_direct _ _
says (saturation_temperature p) = of_direct _ _
says (B23_pressure T) = of_direct _ _
says (B23_temperature p) = of_direct _ _
says (pv2T One' p v limit) = of_search _ limit
says (pv2T Two' p v limit) = of_search _ limit
says (Tv2p One T v limit) = of_search _ limit
says (Tv2p Two T v limit) = of_search _ limit
says (Tv2p Five T v limit) = of_search _ limit
says (Th2p One T h limit) = of_search _ limit
says (Th2p Two T h limit) = of_search _ limit
says (Th2p Five T h limit) = of_search _ limit
says (Ts2p One T s limit) = of_search _ limit
says (Ts2p Two T s limit) = of_search _ limit
says (Ts2p Five T s limit) = of_search _ limit

-- ---- and without a search the residuals are 0 and 0
direct-nought : (a : Asked) (found : Result Float Cause) → BothNought (columns (direct a found))
unfolding direct
direct-nought a (Ok x) = (refl, refl)
direct-nought a (Err cause) = (refl, refl)

pub without_search : (call : Call) → NoSearch call → BothNought (columns (answers call))
unfolding calls.property calls.saturation_pressure calls.saturation_temperature calls.B23_pressure calls.B23_temperature
without_search (pT region q p T) u = direct-nought _ _
without_search (saturation_pressure T) u = direct-nought _ _
without_search (saturation_temperature p) u = direct-nought _ _
without_search (B23_pressure T) u = direct-nought _ _
without_search (B23_temperature p) u = direct-nought _ _
without_search (pv2T region p v limit) u = absurd u
without_search (Tv2p region T v limit) u = absurd u
without_search (Th2p region T h limit) u = absurd u
without_search (Ts2p region T s limit) u = absurd u
