-- What a call is of (document 02, §5): its kind, the region and the property that it names, and its inputs in its order. Each call makes the record of its own arguments (Answer.antt carries it).
-- Then the numbers of its columns: region, 0 where the call names none; kind; property, 0 but for (p,T).
use Rattle.std.specs.Prelude.{ℕ, Float, Option, Some, None}
use Rattle.float.specs.Sign.{nought}
use Rattle.pairs.specs.Names.{number_of}
use Rattle.pairs.specs.declared.row.Region.{Region}
use Rattle.pairs.specs.declared.row.Pair.{Pair}
use Rattle.pairs.specs.declared.row.Pair.TheVariants.{Pv1, Tv1, Th1, Ts1, Pv2, Tv2, Th2, Ts2, Tv5, Th5, Ts5}
use Rattle.vessel.specs.declared.property.Property.{Property}
use Rattle.vessel.specs.declared.property.Property.TheVariants.{Volume, InternalEnergy, Entropy, Enthalpy, Cp, Cv, SpeedOfSound}
use Rattle.vessel.specs.declared.asked.Kind.{Kind}
use Rattle.vessel.specs.declared.asked.Kind.TheVariants.{PT, SaturationPressure, SaturationTemperature, B23Pressure, B23Temperature, Pv, Tv, Th, Ts}
use Rattle.vessel.specs.declared.asked.Asked.{Asked}

-- ---- the record: a property by (p,T); a coordinate of a line by the other one, which has no region and no second input; a search by a pair
abbrev pub at_state : Option Region → Option Property → Float → Float → Asked
at_state region property p T = record { kind = PT; region = region; property = property; first = p; second = T }

abbrev pub on_line : Kind → Float → Asked
on_line kind x = record { kind = kind; region = None; property = None; first = x; second = nought }

abbrev pub of_pair : Kind → Option Region → Float → Float → Asked
of_pair kind region fixed target = record { kind = kind; region = region; property = None; first = fixed; second = target }

-- the kind of the call that a pair belongs to
abbrev pub kind_of : Pair → Kind
kind_of Pv1 = Pv
kind_of Tv1 = Tv
kind_of Th1 = Th
kind_of Ts1 = Ts
kind_of Pv2 = Pv
kind_of Tv2 = Tv
kind_of Th2 = Th
kind_of Ts2 = Ts
kind_of Tv5 = Tv
kind_of Th5 = Th
kind_of Ts5 = Ts

-- ---- the numbers
abbrev pub region_number : Option Region → ℕ
region_number (Some region) = number_of region
region_number None = 0

abbrev pub kind_number : Kind → ℕ
kind_number PT = 1
kind_number SaturationPressure = 2
kind_number SaturationTemperature = 3
kind_number B23Pressure = 4
kind_number B23Temperature = 5
kind_number Pv = 6
kind_number Tv = 7
kind_number Th = 8
kind_number Ts = 9

-- its place in document 01's list
abbrev pub place_of : Property → ℕ
place_of Volume = 1
place_of InternalEnergy = 2
place_of Entropy = 3
place_of Enthalpy = 4
place_of Cp = 5
place_of Cv = 6
place_of SpeedOfSound = 7

abbrev pub property_number : Option Property → ℕ
property_number (Some property) = place_of property
property_number None = 0
