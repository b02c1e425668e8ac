-- `vessel::property::value` meets its contract: where the rule lets p and T in, it is the formula's result, as found. It is written out, so that an edit's log names what differs. Assumes nothing.
use Rattle.vessel.proofs.Refusing.{value_is}
use Rattle.vessel.proofs.property.value.Goals as goal

pub returns : goal.returns
returns c = rw (value_is c.args.region c.args.property c.args.p c.args.T, ← c.formula.ensures, ← c.found.ensures, ← c.check.ensures, c.in_ok-check.was)
