-- The question in the record is the question asked by number: one theorem over all calls of the C interface; and the numbers told are the numbers given, or 0 where they name nothing. Assumes nothing.
use Prim.Native.Nat.{ℕ}
use mathlib.Core.Path.{◌≡◌, refl}
use mathlib.Core.Logic.{◌⊎◌, inl, inr}
use lib.Ieee.{Float}
use Rattle.std.specs.Prelude.{Option, Some, None}
use Rattle.search.specs.Decision.{None as NoRow}
use Rattle.search.proofs.Searches.{decides}
use Rattle.pairs.specs.declared.row.Region.{Region}
use Rattle.vessel.specs.Asked.{region_number, property_number, at_state, of_pair}
use Rattle.vessel.specs.Calls as lines
use Rattle.vessel.specs.Searches as searches
use Rattle.vessel.specs.Answer.{columns}
use Rattle.vessel.specs.EveryCall as vessel
use Rattle.vessel.proofs.EveryCall as vessels
use Rattle.vessel.specs.declared.asked.Kind.{Kind}
use Rattle.vessel.specs.declared.asked.Kind.TheVariants.{Pv}
use Rattle.vessel.specs.declared.answer.Answer.{Answer}
use Rattle.pairs.specs.Names.{regions, region_named}
use Rattle.pairs.proofs.Names.{is, Told, region_told}
use Rattle.vessel.specs.Names.{pv_regions, properties, pv_region_named, property_named}
use Rattle.vessel.specs.declared.pair.PvRegion.{PvRegion}
use Rattle.vessel.specs.declared.property.Property.{Property}
use Rattle.climboat.specs.Calls as calls
use Rattle.climboat.specs.Calls.{in_region, in_pv_region, of_property}
use Rattle.climboat.specs.EveryCall.{Call, pT, saturation_pressure, saturation_temperature, B23_pressure, B23_temperature, pv2T, Tv2p, Th2p, Ts2p, of_pv, asks, answers}

-- a search whose number is taken apart
in_a_region : (kind : Kind) (x y : Float) (call : Region → Answer) → ((r : Region) → (columns (call r)).asked ≡ of_pair kind (Some r) x y)
    → (n : Option Region) → (columns (in_region n (of_pair kind None x y) call)).asked ≡ of_pair kind n x y
unfolding in_region
in_a_region kind x y call says (Some r) = says r
in_a_region kind x y call says None = refl

pub says : (call : Call) → (columns (answers call)).asked ≡ asks call
unfolding calls.pT calls.pv2T calls.Tv2p calls.Th2p calls.Ts2p in_region in_pv_region of_property
says (pT region property p T) = by (region_named region) (property_named property)
  where
    by : (n : Option Region) (m : Option Property)
        → (columns (in_region n (at_state n m p T) (λ r. of_property m (at_state n m p T) (λ q. lines.property r q p T)))).asked ≡ at_state n m p T
    by (Some r) (Some q) = vessels.says (vessel.pT r q p T)
    by (Some r) None = refl
    by None m = refl
says (saturation_pressure T) = vessels.says (vessel.saturation_pressure T)
says (saturation_temperature p) = vessels.says (vessel.saturation_temperature p)
says (B23_pressure T) = vessels.says (vessel.B23_pressure T)
says (B23_temperature p) = vessels.says (vessel.B23_temperature p)
says (pv2T region p v limit) = by (pv_region_named region)
  where
    by : (n : Option PvRegion) → (columns (in_pv_region n (of_pair Pv None p v) (λ r. searches.pv2T r p v limit))).asked ≡ of_pair Pv (of_pv n) p v
    by (Some r) = vessels.says (vessel.pv2T r p v limit)
    by None = refl
says (Tv2p region T v limit) = in_a_region _ T v _ (λ r. vessels.says (vessel.Tv2p r T v limit)) (region_named region)
says (Th2p region T h limit) = in_a_region _ T h _ (λ r. vessels.says (vessel.Th2p r T h limit)) (region_named region)
says (Ts2p region T s limit) = in_a_region _ T s _ (λ r. vessels.says (vessel.Ts2p r T s limit)) (region_named region)

-- ---- the numbers told
pub region-told : (n : ℕ) → (region_number (region_named n) ≡ n) ⊎ ((region_number (region_named n) ≡ 0) × NoRow (regions n))
region-told n = by (region_named n) (region_told n)
  where
    by : (a : Option Region) → Told n a → (region_number a ≡ n) ⊎ ((region_number a ≡ 0) × NoRow (regions n))
    by (Some region) h = inl h
    by None h = inr (refl, h)

pub pv_region-told : (n : ℕ) → (region_number (of_pv (pv_region_named n)) ≡ n) ⊎ ((region_number (of_pv (pv_region_named n)) ≡ 0) × NoRow (pv_regions n))
unfolding pv_region_named
pv_region-told n = decides (λ a. (region_number (of_pv a) ≡ n) ⊎ ((region_number (of_pv a) ≡ 0) × NoRow (pv_regions n))) (pv_regions n) None ((λ h. inl (is n 1 h)), ((λ h. inl (is n 2 h)), tt)) (λ h. inr (refl, h))

pub property-told : (n : ℕ) → (property_number (property_named n) ≡ n) ⊎ ((property_number (property_named n) ≡ 0) × NoRow (properties n))
unfolding property_named
property-told n =
    decides (λ a. (property_number a ≡ n) ⊎ ((property_number a ≡ 0) × NoRow (properties n))) (properties n) None
    ((λ h. inl (is n 1 h)), ((λ h. inl (is n 2 h)), ((λ h. inl (is n 3 h)), ((λ h. inl (is n 4 h)), ((λ h. inl (is n 5 h)), ((λ h. inl (is n 6 h)), ((λ h. inl (is n 7 h)), tt)))))))
    (λ h. inr (refl, h))

-- ---- (p,v) keeps its two regions: region 5 is refused by 21, whatever the inputs and the limit
pub pv_of_region_5 : (p v : Float) (limit : ℕ) → calls.pv2T 5 p v limit ≡ calls.unnamed (of_pair Pv None p v)
unfolding calls.pv2T in_pv_region pv_region_named
pv_of_region_5 p v limit = refl
