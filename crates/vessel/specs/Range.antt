-- "Where each region begins and stops" for (p,T): one rule, which refuses, and by which found values are marked. Constant ends are compared first; a boundary is taken apart just before it is compared: 9 where it is missing.
use Rattle.std.specs.Prelude.{ℕ, Bool, not, ◌&&◌, List, [], ◌∷◌, eqb, Result, Ok, Err, ⊤, Float}
use Rattle.std.specs.Float.Ieee.{lt}
use Rattle.std.specs.Float.Ieee.Scale.{finite}
use Rattle.common.specs.Constant.{p_most}
use Rattle.common.specs.Boundaries as boundaries
use Rattle.common.specs.Causes.{number_of}
use Rattle.common.specs.declared.cause.Cause.{Cause}
use Rattle.common.specs.declared.cause.Cause.TheVariants.{InputNotFinite, TemperatureOutOfRange, PressureOutOfRange, ResultNotFinite}
use Rattle.common.specs.declared.boundaries.Range.TheVariants.{T1, T2, P2, T5, P5}
use Rattle.search.specs.Decision.{Row, ◌⇒◌, decided}
use Rattle.r4.specs.Ends.{missing, place, p_lowest_1, p_most_2}
use Rattle.pairs.specs.declared.row.Region.{Region}
use Rattle.pairs.specs.declared.row.Region.TheVariants.{One, Two, Five}

-- region 1: 273.15 ≤ T ≤ 623.15, saturation pressure ≤ p ≤ 100; region 2: 273.15 ≤ T ≤ 1073.15, 1.0e-8 ≤ p ≤ 100, and p no higher than its highest at T; region 5, which reads no boundary:
-- 1073.15 ≤ T ≤ 2273.15, 1.0e-8 ≤ p ≤ 50. At 1073.15 K the named region decides
abbrev pub limits : Region → Float → Float → List (Row Cause)
limits One p T = (not (boundaries.inside T1 T) ⇒ TemperatureOutOfRange) ∷ ((lt p_most p ⇒ PressureOutOfRange) ∷ ((missing (p_lowest_1 T) ⇒ ResultNotFinite) ∷ ((lt p (place (p_lowest_1 T)) ⇒ PressureOutOfRange) ∷ [])))
limits Two p T = (not (boundaries.inside T2 T) ⇒ TemperatureOutOfRange) ∷ ((not (boundaries.inside P2 p) ⇒ PressureOutOfRange) ∷ ((missing (p_most_2 T) ⇒ ResultNotFinite) ∷ ((lt (place (p_most_2 T)) p ⇒ PressureOutOfRange) ∷ [])))
limits Five p T = (not (boundaries.inside T5 T) ⇒ TemperatureOutOfRange) ∷ ((not (boundaries.inside P5 p) ⇒ PressureOutOfRange) ∷ [])

abbrev pub rule : Region → Float → Float → List (Row Cause)
rule region p T = (not (finite p && finite T) ⇒ InputNotFinite) ∷ limits region p T

-- a list of causes, of whatever is given where none of its rows holds
abbrev pub refusing : {A : Type 0} → List (Row Cause) → List (Row (Result A Cause))
refusing [] = []
refusing ((test ⇒ cause) ∷ rows) = (test ⇒ Err cause) ∷ refusing rows

-- the cause by which the rule refuses, if it does
unfoldable pub check : Region → Float → Float → Result ⊤ Cause
check region p T = decided (refusing (rule region p T)) (Ok tt)

-- document 01's number, 0 where nothing is refused
abbrev pub number : {A : Type 0} → Result A Cause → ℕ
number (Ok a) = 0
number (Err cause) = number_of cause

abbrev pub refusal : Region → Float → Float → ℕ
refusal region p T = number (check region p T)

-- the mark of a found value
unfoldable pub inside : Region → Float → Float → Bool
inside region p T = eqb (refusal region p T) 0
