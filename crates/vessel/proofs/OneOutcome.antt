-- Each call has one outcome: two answers of which a caller is told what the call's own contract tells, for the same inputs, are the same; of a log, what comes back and both runs as they are left. Of
-- `Learnt`, the contract as the prover reads it. Assumes nothing.
use mathlib.Core.Path.{◌≡◌, sym, ◌∙◌}
use mathlib.Core.List.{List}
use contract.Lifetimes.{Lfts}
use borrow.Fn.Kinds.{ParamKind, ResultKind, Dens, res_t, ended_of, Out}
use denote.Triple.Clauses.{AtExit}
use Rattle.vessel.proofs.property.pT.Kinds as pT
use Rattle.vessel.proofs.property.pT.Reads as pT_contract
use Rattle.vessel.proofs.log.pT_log.Kinds as pT_log
use Rattle.vessel.proofs.log.pT_log.Reads as pT_log_contract
use Rattle.vessel.proofs.saturation.saturation_pressure.Kinds as saturation_pressure
use Rattle.vessel.proofs.saturation.saturation_pressure.Reads as saturation_pressure_contract
use Rattle.vessel.proofs.saturation.saturation_temperature.Kinds as saturation_temperature
use Rattle.vessel.proofs.saturation.saturation_temperature.Reads as saturation_temperature_contract
use Rattle.vessel.proofs.saturation.B23_pressure.Kinds as B23_pressure
use Rattle.vessel.proofs.saturation.B23_pressure.Reads as B23_pressure_contract
use Rattle.vessel.proofs.saturation.B23_temperature.Kinds as B23_temperature
use Rattle.vessel.proofs.saturation.B23_temperature.Reads as B23_temperature_contract
use Rattle.vessel.proofs.pair.pv2T.Kinds as pv2T
use Rattle.vessel.proofs.pair.pv2T.Reads as pv2T_contract
use Rattle.vessel.proofs.pair.Tv2p.Kinds as Tv2p
use Rattle.vessel.proofs.pair.Tv2p.Reads as Tv2p_contract
use Rattle.vessel.proofs.pair.Th2p.Kinds as Th2p
use Rattle.vessel.proofs.pair.Th2p.Reads as Th2p_contract
use Rattle.vessel.proofs.pair.Ts2p.Kinds as Ts2p
use Rattle.vessel.proofs.pair.Ts2p.Reads as Ts2p_contract

-- what is learnt of a result, from the same arguments, is true of one result
abbrev pub Once : (parameters : List (ParamKind 0)) (result : ResultKind 0) → Out 0 parameters result → Type 0
Once parameters result Learnt =
    (κs : Lfts 0) (a : Dens κs parameters) (x y : (res_t result κs).Denot) (s t : AtExit (ended_of 0 parameters result) κs) → Learnt κs a x s → Learnt κs a y t → x ≡ y

pub pT_once : Once pT.ps pT.r pT_contract.Learnt
pT_once κs a x y s t h k = h ∙ sym k

pub saturation_pressure_once : Once saturation_pressure.ps saturation_pressure.r saturation_pressure_contract.Learnt
saturation_pressure_once κs a x y s t h k = h ∙ sym k

pub saturation_temperature_once : Once saturation_temperature.ps saturation_temperature.r saturation_temperature_contract.Learnt
saturation_temperature_once κs a x y s t h k = h ∙ sym k

pub B23_pressure_once : Once B23_pressure.ps B23_pressure.r B23_pressure_contract.Learnt
B23_pressure_once κs a x y s t h k = h ∙ sym k

pub B23_temperature_once : Once B23_temperature.ps B23_temperature.r B23_temperature_contract.Learnt
B23_temperature_once κs a x y s t h k = h ∙ sym k

pub pv2T_once : Once pv2T.ps pv2T.r pv2T_contract.Learnt
pv2T_once κs a x y s t h k = h ∙ sym k

pub Tv2p_once : Once Tv2p.ps Tv2p.r Tv2p_contract.Learnt
Tv2p_once κs a x y s t h k = h ∙ sym k

pub Th2p_once : Once Th2p.ps Th2p.r Th2p_contract.Learnt
Th2p_once κs a x y s t h k = h ∙ sym k

pub Ts2p_once : Once Ts2p.ps Ts2p.r Ts2p_contract.Learnt
Ts2p_once κs a x y s t h k = h ∙ sym k

-- values and numbers are the fifth and the sixth parameter
pub record OneLog (κs : Lfts 4) (x y : (res_t pT_log.r κs).Denot) (s t : AtExit (ended_of 4 pT_log.ps pT_log.r) κs) : Type 0 where
  pub back : x ≡ y
  pub values : s.1.1.1.1.0.now ≡ t.1.1.1.1.0.now
  pub numbers : s.1.1.1.1.1.0.now ≡ t.1.1.1.1.1.0.now

pub pT_log_once : (κs : Lfts 4) (a : Dens κs pT_log.ps) (x y : (res_t pT_log.r κs).Denot) (s t : AtExit (ended_of 4 pT_log.ps pT_log.r) κs) → pT_log_contract.Learnt κs a x s → pT_log_contract.Learnt κs a y t → OneLog κs x y s t
pT_log_once κs a x y s t h k = record { back = h.0 ∙ sym k.0; values = h.1.0 ∙ sym k.1.0; numbers = h.1.1 ∙ sym k.1.1 }
