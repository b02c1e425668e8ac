-- Every call of the C interface with its arguments: what it asks, by the numbers that it is given, and what it answers. proofs/EveryCall.antt is the one theorem that covers all, 21 included.
use Rattle.std.specs.Prelude.{ℕ, Float, Option, Some, None}
use Rattle.vessel.specs.Asked.{at_state, on_line, of_pair}
use Rattle.vessel.specs.Calls as lines
use Rattle.vessel.specs.EveryCall.{region_of}
use Rattle.vessel.specs.declared.asked.Asked.{Asked}
use Rattle.vessel.specs.declared.asked.Kind as kind
use Rattle.vessel.specs.Names.{pv_region_named, property_named}
use Rattle.vessel.specs.declared.pair.PvRegion.{PvRegion}
use Rattle.pairs.specs.Names.{region_named}
use Rattle.pairs.specs.declared.row.Region.{Region}
use Rattle.vessel.specs.declared.answer.Answer.{Answer}
use Rattle.climboat.specs.Calls as calls

-- regions and properties by number; a search's last argument is its step limit
pub data Call : Type 0 where
  pT : ℕ → ℕ → Float → Float → Call
  saturation_pressure : Float → Call
  saturation_temperature : Float → Call
  B23_pressure : Float → Call
  B23_temperature : Float → Call
  pv2T : ℕ → Float → Float → ℕ → Call
  Tv2p : ℕ → Float → Float → ℕ → Call
  Th2p : ℕ → Float → Float → ℕ → Call
  Ts2p : ℕ → Float → Float → ℕ → Call

-- the region of (p,v), among all regions
abbrev pub of_pv : Option PvRegion → Option Region
of_pv (Some region) = Some (region_of region)
of_pv None = None

abbrev pub asks : Call → Asked
asks (pT region property p T) = at_state (region_named region) (property_named property) p T
asks (saturation_pressure T) = on_line kind.TheVariants.SaturationPressure T
asks (saturation_temperature p) = on_line kind.TheVariants.SaturationTemperature p
asks (B23_pressure T) = on_line kind.TheVariants.B23Pressure T
asks (B23_temperature p) = on_line kind.TheVariants.B23Temperature p
asks (pv2T region p v limit) = of_pair kind.TheVariants.Pv (of_pv (pv_region_named region)) p v
asks (Tv2p region T v limit) = of_pair kind.TheVariants.Tv (region_named region) T v
asks (Th2p region T h limit) = of_pair kind.TheVariants.Th (region_named region) T h
asks (Ts2p region T s limit) = of_pair kind.TheVariants.Ts (region_named region) T s

abbrev pub answers : Call → Answer
answers (pT region property p T) = calls.pT region property p T
answers (saturation_pressure T) = lines.saturation_pressure T
answers (saturation_temperature p) = lines.saturation_temperature p
answers (B23_pressure T) = lines.B23_pressure T
answers (B23_temperature p) = lines.B23_temperature p
answers (pv2T region p v limit) = calls.pv2T region p v limit
answers (Tv2p region T v limit) = calls.Tv2p region T v limit
answers (Th2p region T h limit) = calls.Th2p region T h limit
answers (Ts2p region T s limit) = calls.Ts2p region T s limit
