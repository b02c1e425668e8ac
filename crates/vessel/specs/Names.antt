-- What a number names: a region of (p,v) by its own number, 1 or 2; the properties in document 01's order v, u, s, h, cp, cv, w; the kinds of calls by their column (Asked.antt). Any other number names nothing.
use Rattle.std.specs.Prelude.{ℕ, List, [], ◌∷◌, eqb, Option, Some, None}
use Rattle.search.specs.Decision.{Row, ◌⇒◌, decided}
use Rattle.vessel.specs.declared.pair.PvRegion.{PvRegion}
use Rattle.vessel.specs.declared.pair.PvRegion.TheVariants.{One, Two}
use Rattle.vessel.specs.declared.asked.Kind.{Kind}
use Rattle.vessel.specs.declared.asked.Kind.TheVariants.{PT, SaturationPressure, SaturationTemperature, B23Pressure, B23Temperature, Pv, Tv, Th, Ts}
use Rattle.vessel.specs.declared.property.Property.{Property}
use Rattle.vessel.specs.declared.property.Property.TheVariants.{Volume, InternalEnergy, Entropy, Enthalpy, Cp, Cv, SpeedOfSound}

abbrev pub pv_regions : ℕ → List (Row (Option PvRegion))
pv_regions n = (eqb n 1 ⇒ Some One) ∷ ((eqb n 2 ⇒ Some Two) ∷ [])

abbrev pub properties : ℕ → List (Row (Option Property))
properties n =
    (eqb n 1 ⇒ Some Volume)
    ∷ ((eqb n 2 ⇒ Some InternalEnergy)
    ∷ ((eqb n 3 ⇒ Some Entropy)
    ∷ ((eqb n 4 ⇒ Some Enthalpy)
    ∷ ((eqb n 5 ⇒ Some Cp)
    ∷ ((eqb n 6 ⇒ Some Cv)
    ∷ ((eqb n 7 ⇒ Some SpeedOfSound)
    ∷ []))))))

abbrev pub kinds : ℕ → List (Row (Option Kind))
kinds n =
    (eqb n 1 ⇒ Some PT)
    ∷ ((eqb n 2 ⇒ Some SaturationPressure)
    ∷ ((eqb n 3 ⇒ Some SaturationTemperature)
    ∷ ((eqb n 4 ⇒ Some B23Pressure)
    ∷ ((eqb n 5 ⇒ Some B23Temperature)
    ∷ ((eqb n 6 ⇒ Some Pv)
    ∷ ((eqb n 7 ⇒ Some Tv)
    ∷ ((eqb n 8 ⇒ Some Th)
    ∷ ((eqb n 9 ⇒ Some Ts)
    ∷ []))))))))

unfoldable pub pv_region_named : ℕ → Option PvRegion
pv_region_named n = decided (pv_regions n) None

unfoldable pub property_named : ℕ → Option Property
property_named n = decided (properties n) None

unfoldable pub kind_named : ℕ → Option Kind
kind_named n = decided (kinds n) None
