-- The calls with numbers for their choices: the vessel's answer where the numbers name something, refusal 21 where one names nothing, before any other check. Its record has nothing for what could
-- not be named, and the rest as asked.
use Rattle.std.specs.Prelude.{ℕ, Float, Option, Some, None}
use Rattle.common.specs.declared.cause.Cause.TheVariants.{NamesNothing}
use Rattle.vessel.specs.Asked.{at_state, of_pair}
use Rattle.vessel.specs.Answer.{refused}
use Rattle.vessel.specs.Calls as calls
use Rattle.vessel.specs.Searches as searches
use Rattle.vessel.specs.Log.{Runs, Logged, unwritten, log}
use Rattle.vessel.specs.declared.asked.Asked.{Asked}
use Rattle.vessel.specs.declared.asked.Kind.TheVariants.{Pv, Tv, Th, Ts}
use Rattle.vessel.specs.declared.answer.Answer.{Answer}
use Rattle.vessel.specs.Names.{pv_region_named, property_named}
use Rattle.pairs.specs.Names.{region_named}
use Rattle.pairs.specs.declared.row.Region.{Region}
use Rattle.vessel.specs.declared.pair.PvRegion.{PvRegion}
use Rattle.vessel.specs.declared.property.Property.{Property}

abbrev pub unnamed : Asked → Answer
unnamed a = refused a NamesNothing

-- ---- a choice that is taken apart; `a` is what was asked where it names nothing
unfoldable pub in_region : Option Region → Asked → (Region → Answer) → Answer
in_region (Some region) a call = call region
in_region None a call = unnamed a

unfoldable pub in_pv_region : Option PvRegion → Asked → (PvRegion → Answer) → Answer
in_pv_region (Some region) a call = call region
in_pv_region None a call = unnamed a

unfoldable pub of_property : Option Property → Asked → (Property → Answer) → Answer
of_property (Some property) a call = call property
of_property None a call = unnamed a

-- ---- the calls
unfoldable pub pT : ℕ → ℕ → Float → Float → Answer
pT region property p T =
    let a = at_state (region_named region) (property_named property) p T in
    in_region (region_named region) a (λ r. of_property (property_named property) a (λ q. calls.property r q p T))

-- a log: of numbers that name something the vessel's; else 21 comes back and both runs are what they were, whatever their lengths
unfoldable pub named_log : Option Region → Option Property → Runs → Logged
named_log (Some r) (Some q) runs = log r q runs
named_log (Some r) None runs = unwritten NamesNothing runs
named_log None q runs = unwritten NamesNothing runs

unfoldable pub pT_log : ℕ → ℕ → Runs → Logged
pT_log region property runs = named_log (region_named region) (property_named property) runs

unfoldable pub pv2T : ℕ → Float → Float → ℕ → Answer
pv2T region p v limit = in_pv_region (pv_region_named region) (of_pair Pv None p v) (λ r. searches.pv2T r p v limit)

unfoldable pub Tv2p : ℕ → Float → Float → ℕ → Answer
Tv2p region T v limit = in_region (region_named region) (of_pair Tv None T v) (λ r. searches.Tv2p r T v limit)

unfoldable pub Th2p : ℕ → Float → Float → ℕ → Answer
Th2p region T h limit = in_region (region_named region) (of_pair Th None T h) (λ r. searches.Th2p r T h limit)

unfoldable pub Ts2p : ℕ → Float → Float → ℕ → Answer
Ts2p region T s limit = in_region (region_named region) (of_pair Ts None T s) (λ r. searches.Ts2p r T s limit)
