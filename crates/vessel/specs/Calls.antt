-- The calls that do not search: a property by (p,T), the saturation line and B23.
use Rattle.std.specs.Prelude.{not, List, [], ◌∷◌, ◌++◌, Result, Ok, Err, Some, Float}
use Rattle.std.specs.Float.Ieee.Scale.{finite}
use Rattle.common.specs.Boundaries.{B23_p, B23_T, inside, cause_of, checked}
use Rattle.common.specs.declared.cause.Cause.{Cause}
use Rattle.common.specs.declared.cause.Cause.TheVariants.{InputNotFinite, ResultNotFinite}
use Rattle.common.specs.declared.boundaries.Range.{Range}
use Rattle.common.specs.declared.boundaries.Range.TheVariants.{T23, P23}
use Rattle.r1.specs.Region1 as region1
use Rattle.r2.specs.Region2 as region2
use Rattle.r5.specs.Region5 as region5
use Rattle.r4.specs.Saturation.{saturation_pressure_at, saturation_temperature_at}
use Rattle.search.specs.Decision.{Row, ◌⇒◌, decided}
use Rattle.vessel.specs.Asked.{at_state, on_line}
use Rattle.vessel.specs.Answer.{refused, direct}
use Rattle.vessel.specs.Range.{rule, refusing}
use Rattle.vessel.specs.declared.asked.Asked.{Asked}
use Rattle.vessel.specs.declared.asked.Kind.TheVariants.{SaturationPressure, SaturationTemperature, B23Pressure, B23Temperature}
use Rattle.vessel.specs.declared.answer.Answer.{Answer}
use Rattle.pairs.specs.declared.row.Region.{Region}
use Rattle.pairs.specs.declared.row.Region.TheVariants.{One, Two, Five}
use Rattle.vessel.specs.declared.property.Property.{Property}
use Rattle.vessel.specs.declared.property.Property.TheVariants.{Volume, InternalEnergy, Entropy, Enthalpy, Cp, Cv, SpeedOfSound}

-- ---- a property: the (p,T) rule, then 9 for a result that is not finite
unfoldable pub formula : Region → Property → Float → Float → Float
formula One Volume p T = region1.pT2v p T
formula One InternalEnergy p T = region1.pT2u p T
formula One Entropy p T = region1.pT2s p T
formula One Enthalpy p T = region1.pT2h p T
formula One Cp p T = region1.pT2cp p T
formula One Cv p T = region1.pT2cv p T
formula One SpeedOfSound p T = region1.pT2w p T
formula Two Volume p T = region2.pT2v p T
formula Two InternalEnergy p T = region2.pT2u p T
formula Two Entropy p T = region2.pT2s p T
formula Two Enthalpy p T = region2.pT2h p T
formula Two Cp p T = region2.pT2cp p T
formula Two Cv p T = region2.pT2cv p T
formula Two SpeedOfSound p T = region2.pT2w p T
formula Five Volume p T = region5.pT2v p T
formula Five InternalEnergy p T = region5.pT2u p T
formula Five Entropy p T = region5.pT2s p T
formula Five Enthalpy p T = region5.pT2h p T
formula Five Cp p T = region5.pT2cp p T
formula Five Cv p T = region5.pT2cv p T
formula Five SpeedOfSound p T = region5.pT2w p T

abbrev pub asks_for : Region → Property → Float → Float → Asked
asks_for region q p T = at_state (Some region) (Some q) p T

-- the rows of the rule, then 9
abbrev pub property_checks : Region → Property → Float → Float → List (Row (Result Float Cause))
property_checks region q p T = refusing (rule region p T) ++ ((not (finite (formula region q p T)) ⇒ Err ResultNotFinite) ∷ [])

unfoldable pub value : Region → Property → Float → Float → Result Float Cause
value region q p T = decided (property_checks region q p T) (Ok (formula region q p T))

unfoldable pub property : Region → Property → Float → Float → Answer
property region q p T = direct (asks_for region q p T) (value region q p T)

-- ---- the lines: 1, then 2 or 3, then 9
abbrev pub line_checks : Asked → Range → Float → Float → List (Row Answer)
line_checks a range x result =
    (not (finite x) ⇒ refused a InputNotFinite)
    ∷ ((not (inside range x) ⇒ refused a (cause_of range))
    ∷ ((not (finite result) ⇒ refused a ResultNotFinite) ∷ []))

unfoldable pub saturation_pressure : Float → Answer
saturation_pressure T = direct (on_line SaturationPressure T) (saturation_pressure_at T)

unfoldable pub saturation_temperature : Float → Answer
saturation_temperature p = direct (on_line SaturationTemperature p) (saturation_temperature_at p)

unfoldable pub B23_pressure : Float → Answer
B23_pressure T = direct (on_line B23Pressure T) (checked T23 T (B23_p T))

unfoldable pub B23_temperature : Float → Answer
B23_temperature p = direct (on_line B23Temperature p) (checked P23 p (B23_T p))
