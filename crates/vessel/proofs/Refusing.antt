-- A list of causes that goes on: where one of its rows holds, that row decides, and else what follows. Assumes nothing.
use mathlib.Core.Path.{◌≡◌, refl, ap, ◌∙◌}
use mathlib.Core.List.{List, [], ◌∷◌, ◌++◌}
use mathlib.Core.Bool.{Bool, true, false, not, cond}
use lib.Ieee.{Float}
use lib.Ieee.Scale.{finite}
use Rattle.std.specs.Prelude.{Result, Ok, Err, ⊤}
use Rattle.common.specs.Boundaries.{found}
use Rattle.common.specs.declared.cause.Cause.{Cause}
use Rattle.common.specs.declared.cause.Cause.TheVariants.{ResultNotFinite}
use Rattle.search.specs.Decision.{Row, ◌⇒◌, decided}
use Rattle.pairs.specs.declared.row.Region.{Region}
use Rattle.vessel.specs.Calls.{formula, value}
use Rattle.vessel.specs.Range.{rule, refusing, check}
use Rattle.vessel.specs.declared.property.Property.{Property}

abbrev pub carried : {A : Type 0} → Result A Cause → Result ⊤ Cause → Result A Cause
carried follows (Ok u) = follows
carried follows (Err cause) = Err cause

pub goes_on : {A : Type 0} (more : List (Row (Result A Cause))) (rest : Result A Cause) (rows : List (Row Cause))
    → decided (refusing rows ++ more) rest ≡ carried (decided more rest) (decided (refusing rows) (Ok (tt {0})))
goes_on more rest [] = refl
goes_on more rest ((true ⇒ cause) ∷ rows) = refl
goes_on more rest ((false ⇒ cause) ∷ rows) = goes_on more rest rows

-- a property: the rule refuses, or else the formula's result is found
pub value_is : (region : Region) (q : Property) (p T : Float) → value region q p T ≡ carried (found (formula region q p T)) (check region p T)
unfolding value check found
value_is region q p T = goes_on _ _ (rule region p T) ∙ ap (λ (r : Result Float Cause). carried r (decided (refusing (rule region p T)) (Ok (tt {0})))) (by (finite x))
  where
    x : Float
    x = formula region q p T

    by : (b : Bool) → cond (not b) (Err ResultNotFinite) (Ok x) ≡ cond b (Ok x) (Err ResultNotFinite)
    by true = refl
    by false = refl
