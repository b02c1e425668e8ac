-- What a call answers, and the columns of each case: document 01's number, value, reason, steps, bracket, mark, and document 02's (§5) residuals of the bracket and what the call is of. All promises
-- about answers go through `columns`.
use Rattle.std.specs.Prelude.{ℕ, Bool, cond, not, ◌&&◌, eqb, Result, Ok, Err, Float}
use Rattle.std.specs.Float.Ieee.Scale.{finite}
use Rattle.float.specs.Sign.{nought}
use Rattle.common.specs.Causes.{number_of}
use Rattle.common.specs.declared.cause.Cause.{Cause}
use Rattle.search.specs.Bracket.{no_bracket}
use Rattle.search.specs.declared.bracket.Bracket.{Bracket}
use Rattle.search.specs.declared.bracket.Outcome.{Outcome}
use Rattle.search.specs.declared.bracket.Outcome.TheVariants.{ExactEnd as EndFound, SmallResidual as SmallFound, Narrow as NarrowFound, Refused as Stopped}
use Rattle.vessel.specs.declared.asked.Asked.{Asked}
use Rattle.vessel.specs.declared.answer.Found.{Found}
use Rattle.vessel.specs.declared.answer.Answer.{Answer}
use Rattle.vessel.specs.declared.answer.Answer.TheVariants.{Value, ExactEnd, SmallResidual, Narrow, Refused}

-- nos. 1 to 5, 7, 9, 11: value 0, steps 0, bracket 0 and 0, residuals 0 and 0
abbrev pub refused : Asked → Cause → Answer
refused a cause = Refused a (record { cause = cause; value = nought; steps = 0; bracket = no_bracket })

-- what is found without a search, as an answer
unfoldable pub direct : Asked → Result Float Cause → Answer
direct a (Ok x) = Value a x
direct a (Err cause) = refused a cause

-- ---- an outcome of a search as an answer: its bracket whole, and the mark of the value found
abbrev pub found_at : Float → ℕ → Bracket → Bool → Found
found_at x n b mark = record { value = x; steps = n; bracket = b; inside = mark }

-- a refusal's residuals are those of its bracket, but for 6 one that is not finite is given as 0, each end by itself
unfoldable pub residual_told : Cause → Float → Float
residual_told cause r = cond (eqb (number_of cause) 6 && not (finite r)) nought r

abbrev pub bracket_told : Cause → Bracket → Bracket
bracket_told cause b = record { x1 = b.x1; x2 = b.x2; r1 = residual_told cause b.r1; r2 = residual_told cause b.r2 }

unfoldable pub answered : Asked → Outcome → Bool → Answer
answered a (EndFound x b) mark = ExactEnd a (found_at x 0 b mark)
answered a (SmallFound x n b) mark = SmallResidual a (found_at x n b mark)
answered a (NarrowFound x n b) mark = Narrow a (found_at x n b mark)
answered a (Stopped k x n b) mark = Refused a (record { cause = k; value = x; steps = n; bracket = bracket_told k b })

-- the value that an outcome carries
unfoldable pub value_of : Outcome → Float
value_of (EndFound x b) = x
value_of (SmallFound x n b) = x
value_of (NarrowFound x n b) = x
value_of (Stopped k x n b) = x

-- ---- the columns; number 0 is an answer
pub data Reason : Type 0 where
  none : Reason
  plain : Reason
  exact_end : Reason
  small_residual : Reason
  narrow : Reason

pub data Mark : Type 0 where
  unmarked : Mark
  inside : Mark
  outside : Mark

pub record Columns : Type 0 where
  pub number : ℕ
  pub value : Float
  pub reason : Reason
  pub steps : ℕ
  pub lower : Float
  pub upper : Float
  pub mark : Mark
  -- at the lower end, at the upper end
  pub lower_residual : Float
  pub upper_residual : Float
  -- region, kind, property and both inputs
  pub asked : Asked

abbrev pub searched : Reason → Asked → Found → Columns
searched why a f =
    record {
      number = 0;
      value = f.value;
      reason = why;
      steps = f.steps;
      lower = f.bracket.x1;
      upper = f.bracket.x2;
      mark = cond f.inside inside outside;
      lower_residual = f.bracket.r1;
      upper_residual = f.bracket.r2;
      asked = a;
    }

abbrev pub columns : Answer → Columns
columns (Value a x) =
    record {
      number = 0;
      value = x;
      reason = plain;
      steps = 0;
      lower = nought;
      upper = nought;
      mark = unmarked;
      lower_residual = nought;
      upper_residual = nought;
      asked = a;
    }
columns (ExactEnd a f) = searched exact_end a f
columns (SmallResidual a f) = searched small_residual a f
columns (Narrow a f) = searched narrow a f
columns (Refused a r) =
    record {
      number = number_of r.cause;
      value = r.value;
      reason = none;
      steps = r.steps;
      lower = r.bracket.x1;
      upper = r.bracket.x2;
      mark = unmarked;
      lower_residual = r.bracket.r1;
      upper_residual = r.bracket.r2;
      asked = a;
    }
