-- `vessel::log::pT_log` meets its contract. The invariant of its loop: both runs are filled up to the place. Assumes nothing.
use Rattle.vessel.specs.Calls.{property as property_of}
use Rattle.vessel.proofs.Places.{Begun}
use Rattle.vessel.proofs.log.pT_log.Given as goal

abbrev pub invariant-loop-place : goal.invariant-loop-place
invariant-loop-place l =
    Begun (λ c. c.value) (property_of l.region l.property) l.place l.p l.T l.initial.values l.values × Begun (λ c. c.number) (property_of l.region l.property) l.place l.p l.T l.initial.numbers l.numbers
