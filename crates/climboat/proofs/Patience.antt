-- More patience changes nothing, by number: of every search of the C interface, whatever numbers it is given. Where the region's number names something it is the vessel's theorem; 21 reads no limit.
-- Assumes nothing.
use Prim.Native.Nat.{ℕ}
use mathlib.Core.Path.{refl}
use lib.Ieee.{Float}
use Rattle.std.specs.Prelude.{Option, Some, None}
use Rattle.pairs.specs.declared.row.Region.{Region}
use Rattle.vessel.specs.Asked.{of_pair}
use Rattle.vessel.specs.Patience.{Patient}
use Rattle.vessel.specs.Searches as searches
use Rattle.vessel.proofs.Patience as vessel
use Rattle.vessel.specs.declared.asked.Asked.{Asked}
use Rattle.vessel.specs.declared.asked.Kind.TheVariants.{Pv}
use Rattle.vessel.specs.declared.pair.PvRegion.{PvRegion}
use Rattle.vessel.specs.declared.answer.Answer.{Answer}
use Rattle.pairs.specs.Names.{region_named}
use Rattle.vessel.specs.Names.{pv_region_named}
use Rattle.climboat.specs.Calls.{in_region, in_pv_region, pv2T, Tv2p, Th2p, Ts2p}

in_a_region : (a : Asked) (call : Region → ℕ → Answer) → ((r : Region) → Patient (call r)) → (n : Option Region) → Patient (λ limit. in_region n a (λ r. call r limit))
unfolding in_region
in_a_region a call patient (Some r) = patient r
in_a_region a call patient None = λ limit larger l allowed h. refl

pub pv2T_patient : (region : ℕ) (p v : Float) → Patient (pv2T region p v)
unfolding pv2T in_pv_region
pv2T_patient region p v = by (pv_region_named region)
  where
    by : (n : Option PvRegion) → Patient (λ limit. in_pv_region n (of_pair Pv None p v) (λ r. searches.pv2T r p v limit))
    by (Some r) = vessel.pv2T_patient r p v
    by None = λ limit larger l allowed h. refl

pub Tv2p_patient : (region : ℕ) (t v : Float) → Patient (Tv2p region t v)
unfolding Tv2p
Tv2p_patient region t v = in_a_region _ _ (λ r. vessel.Tv2p_patient r t v) (region_named region)

pub Th2p_patient : (region : ℕ) (t h : Float) → Patient (Th2p region t h)
unfolding Th2p
Th2p_patient region t h = in_a_region _ _ (λ r. vessel.Th2p_patient r t h) (region_named region)

pub Ts2p_patient : (region : ℕ) (t s : Float) → Patient (Ts2p region t s)
unfolding Ts2p
Ts2p_patient region t s = in_a_region _ _ (λ r. vessel.Ts2p_patient r t s) (region_named region)
