-- `vessel::saturation::B23_pressure` meets its contract: it is the definition. It is written out, so that an edit's log names what differs. Assumes nothing.
use Rattle.vessel.specs.Calls.{B23_pressure}
use Rattle.vessel.proofs.saturation.B23_pressure.Goals as goal

pub returns : goal.returns
unfolding B23_pressure
returns c = rw (← c.on_line.ensures, ← c.B23_T2p.ensures, ← c.checked.ensures) c.direct.ensures
