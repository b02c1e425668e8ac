-- Document 01's table of refusals over the decision lists: each number is given exactly when its row holds and no earlier one does. For the calls that search, the property, and the four lines. Assumes nothing.
use Prim.Native.Nat.{ℕ}
use mathlib.Core.Path.{◌≡◌, refl}
use mathlib.Core.Logic.{inl, inr}
use mathlib.Core.Bool.{Bool, true, false, not, cond}
use mathlib.Core.List.{List, [], ◌∷◌}
use lib.Ieee.{Float}
use Rattle.std.specs.Prelude.{Result, Ok, Err}
use lib.Ieee.Scale.{finite}
use Rattle.common.specs.Boundaries.{B23_p, B23_T, inside, cause_of, found, checked}
use Rattle.common.specs.declared.cause.Cause.{Cause}
use Rattle.common.specs.declared.cause.Cause.TheVariants.{InputNotFinite, ResultNotFinite}
use Rattle.common.specs.declared.boundaries.Range.{Range}
use Rattle.common.specs.declared.boundaries.Range.TheVariants.{T4, P4, T23, P23}
use Rattle.r4.specs.Saturation.{saturation_pressure as saturation_pressure_formula, saturation_temperature as saturation_temperature_formula}
use Rattle.search.specs.declared.bracket.Outcome.{Outcome}
use Rattle.search.specs.declared.bracket.Outcome.TheVariants.{ExactEnd, SmallResidual, Narrow, Refused}
use Rattle.search.specs.Decision.{Row, ◌⇒◌, decided}
use Rattle.pairs.specs.Pairs.{steps, start}
use Rattle.pairs.specs.declared.question.Question.{Question}
use Rattle.vessel.specs.Asked.{on_line}
use Rattle.vessel.specs.Answer.{refused, direct, answered, value_of}
use Rattle.vessel.specs.Range.{rule, refusing, check, number, refusal}
use Rattle.vessel.specs.Calls.{formula, asks_for, property_checks, value, property, line_checks, saturation_pressure, saturation_temperature, B23_pressure, B23_temperature}
use Rattle.vessel.specs.Searches.{checks, outcome, mark, asked, search as search_of}
use Rattle.vessel.specs.Table.{Given, Exactly, number_of, number_in}
use Rattle.vessel.specs.declared.asked.Asked.{Asked}
use Rattle.vessel.specs.declared.asked.Kind.TheVariants.{SaturationPressure, SaturationTemperature, B23Pressure, B23Temperature}
use Rattle.vessel.specs.declared.answer.Answer.TheVariants.{Value}
use Rattle.pairs.specs.declared.row.Region.{Region}
use Rattle.vessel.specs.declared.property.Property.{Property}

-- ---- over any list
module _ {A : Type 0} (number : A → ℕ) (n : ℕ) where
  only_if : (rows : List (Row A)) (rest : A) → number (decided rows rest) ≡ n → Given number n rows rest
  only_if [] rest h = h
  only_if ((true ⇒ a) ∷ rows) rest h = inl (refl, h)
  only_if ((false ⇒ a) ∷ rows) rest h = inr (refl, only_if rows rest h)

  whenever : (rows : List (Row A)) (rest : A) → Given number n rows rest → number (decided rows rest) ≡ n
  whenever [] rest h = h
  whenever ((test ⇒ a) ∷ rows) rest (inl (t, h)) = rw t h
  whenever ((test ⇒ a) ∷ rows) rest (inr (t, h)) = rw t (whenever rows rest h)

  pub exactly : (rows : List (Row A)) (rest : A) → Exactly number (number (decided rows rest)) n rows rest
  exactly rows rest = record { only_if = only_if rows rest; whenever = whenever rows rest }

-- ---- the calls
-- a search: the number in its columns
number_kept : (a : Asked) (o : Outcome) (inside : Bool) → number_of (answered a o inside) ≡ number_in o
unfolding answered
number_kept a (ExactEnd x b) inside = refl
number_kept a (SmallResidual x n b) inside = refl
number_kept a (Narrow x n b) inside = refl
number_kept a (Refused k x n b) inside = refl

pub search-number : (q : Question) (limit n : ℕ) → Exactly number_in (number_of (search_of q limit)) n (checks q limit) (steps q (start q) limit)
unfolding search_of outcome
search-number q limit n = rw (number_kept (asked q) (outcome q limit) (mark q (value_of (outcome q limit)))) (exactly number_in n (checks q limit) (steps q (start q) limit))

-- the (p,T) rule
pub rule-number : (region : Region) (p T : Float) (n : ℕ) → Exactly number (refusal region p T) n (refusing (rule region p T)) (Ok (tt {0}))
unfolding check
rule-number region p T n = exactly number n (refusing (rule region p T)) (Ok (tt {0}))

-- a call that does not search: the number in its columns
direct_kept : (a : Asked) (found : Result Float Cause) → number_of (direct a found) ≡ number found
unfolding direct
direct_kept a (Ok x) = refl
direct_kept a (Err cause) = refl

-- a property: the rule's number, then 9
pub property_number : (region : Region) (q : Property) (p T : Float) (n : ℕ)
    → Exactly number (number_of (property region q p T)) n (property_checks region q p T) (Ok (formula region q p T))
unfolding property value
property_number region q p T n = rw (direct_kept (asks_for region q p T) (value region q p T)) (exactly number n (property_checks region q p T) (Ok (formula region q p T)))

-- a line: what it answers is its list, decided
line-decided : (a : Asked) (range : Range) (x result : Float) → direct a (checked range x result) ≡ decided (line_checks a range x result) (Value a result)
unfolding direct checked found
line-decided a range x result = by (finite x) (inside range x) (finite result)
  where
    by : (k l m : Bool) → direct a (cond k (cond l (cond m (Ok result) (Err ResultNotFinite)) (Err (cause_of range))) (Err InputNotFinite))
        ≡ cond (not k) (refused a InputNotFinite) (cond (not l) (refused a (cause_of range)) (cond (not m) (refused a ResultNotFinite) (Value a result)))
    by false l m = refl
    by true false m = refl
    by true true false = refl
    by true true true = refl

line-number : (a : Asked) (range : Range) (x result : Float) (n : ℕ) → Exactly number_of (number_of (direct a (checked range x result))) n (line_checks a range x result) (Value a result)
line-number a range x result n = rw (line-decided a range x result) (exactly number_of n (line_checks a range x result) (Value a result))

pub saturation_pressure-number : (T : Float) (n : ℕ)
    → Exactly number_of (number_of (saturation_pressure T)) n (line_checks (on_line SaturationPressure T) T4 T (saturation_pressure_formula T)) (Value (on_line SaturationPressure T) (saturation_pressure_formula T))
unfolding saturation_pressure
saturation_pressure-number T n = line-number (on_line SaturationPressure T) T4 T (saturation_pressure_formula T) n

pub saturation_temperature-number : (p : Float) (n : ℕ)
    → Exactly number_of (number_of (saturation_temperature p)) n (line_checks (on_line SaturationTemperature p) P4 p (saturation_temperature_formula p)) (Value (on_line SaturationTemperature p) (saturation_temperature_formula p))
unfolding saturation_temperature
saturation_temperature-number p n = line-number (on_line SaturationTemperature p) P4 p (saturation_temperature_formula p) n

pub B23_pressure-number : (T : Float) (n : ℕ) → Exactly number_of (number_of (B23_pressure T)) n (line_checks (on_line B23Pressure T) T23 T (B23_p T)) (Value (on_line B23Pressure T) (B23_p T))
unfolding B23_pressure
B23_pressure-number T n = line-number (on_line B23Pressure T) T23 T (B23_p T) n

pub B23_temperature-number : (p : Float) (n : ℕ) → Exactly number_of (number_of (B23_temperature p)) n (line_checks (on_line B23Temperature p) P23 p (B23_T p)) (Value (on_line B23Temperature p) (B23_T p))
unfolding B23_temperature
B23_temperature-number p n = line-number (on_line B23Temperature p) P23 p (B23_T p) n
