-- Every call of the vessel with its arguments, as document 02, §5 reads it: what it asks, written out call by call, and what it answers. proofs/EveryCall.antt is the one theorem that covers all.
use Rattle.std.specs.Prelude.{ℕ, Float, Some, None}
use Rattle.float.specs.Sign.{nought}
use Rattle.pairs.specs.declared.row.Region.{Region}
use Rattle.pairs.specs.declared.row.Region.TheVariants.{One, Two}
use Rattle.vessel.specs.Calls as calls
use Rattle.vessel.specs.Searches as searches
use Rattle.vessel.specs.declared.pair.PvRegion.{PvRegion}
use Rattle.vessel.specs.declared.pair.PvRegion.TheVariants.{One as One', Two as Two'}
use Rattle.vessel.specs.declared.property.Property.{Property}
use Rattle.vessel.specs.declared.asked.Kind as kind
use Rattle.vessel.specs.declared.asked.Asked.{Asked}
use Rattle.vessel.specs.declared.answer.Answer.{Answer}

-- a search's last argument is its step limit
pub data Call : Type 0 where
  pT : Region → Property → Float → Float → Call
  saturation_pressure : Float → Call
  saturation_temperature : Float → Call
  B23_pressure : Float → Call
  B23_temperature : Float → Call
  pv2T : PvRegion → Float → Float → ℕ → Call
  Tv2p : Region → Float → Float → ℕ → Call
  Th2p : Region → Float → Float → ℕ → Call
  Ts2p : Region → Float → Float → ℕ → Call

-- the region of (p,v), among all regions
abbrev pub region_of : PvRegion → Region
region_of One' = One
region_of Two' = Two

abbrev pub asks : Call → Asked
asks (pT region property p T) = record { kind = kind.TheVariants.PT; region = Some region; property = Some property; first = p; second = T }
asks (saturation_pressure T) = record { kind = kind.TheVariants.SaturationPressure; region = None; property = None; first = T; second = nought }
asks (saturation_temperature p) = record { kind = kind.TheVariants.SaturationTemperature; region = None; property = None; first = p; second = nought }
asks (B23_pressure T) = record { kind = kind.TheVariants.B23Pressure; region = None; property = None; first = T; second = nought }
asks (B23_temperature p) = record { kind = kind.TheVariants.B23Temperature; region = None; property = None; first = p; second = nought }
asks (pv2T region p v limit) = record { kind = kind.TheVariants.Pv; region = Some (region_of region); property = None; first = p; second = v }
asks (Tv2p region T v limit) = record { kind = kind.TheVariants.Tv; region = Some region; property = None; first = T; second = v }
asks (Th2p region T h limit) = record { kind = kind.TheVariants.Th; region = Some region; property = None; first = T; second = h }
asks (Ts2p region T s limit) = record { kind = kind.TheVariants.Ts; region = Some region; property = None; first = T; second = s }

-- the calls that do not search
abbrev pub NoSearch : Call → Type 0
NoSearch (pT region property p T) = Prim.Unit {0}
NoSearch (saturation_pressure T) = Prim.Unit {0}
NoSearch (saturation_temperature p) = Prim.Unit {0}
NoSearch (B23_pressure T) = Prim.Unit {0}
NoSearch (B23_temperature p) = Prim.Unit {0}
NoSearch (pv2T region p v limit) = ⊥
NoSearch (Tv2p region T v limit) = ⊥
NoSearch (Th2p region T h limit) = ⊥
NoSearch (Ts2p region T s limit) = ⊥

abbrev pub answers : Call → Answer
answers (pT region property p T) = calls.property region property p T
answers (saturation_pressure T) = calls.saturation_pressure T
answers (saturation_temperature p) = calls.saturation_temperature p
answers (B23_pressure T) = calls.B23_pressure T
answers (B23_temperature p) = calls.B23_temperature p
answers (pv2T region p v limit) = searches.pv2T region p v limit
answers (Tv2p region T v limit) = searches.Tv2p region T v limit
answers (Th2p region T h limit) = searches.Th2p region T h limit
answers (Ts2p region T s limit) = searches.Ts2p region T s limit
