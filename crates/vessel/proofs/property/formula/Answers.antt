-- `vessel::property::formula` meets its contract: the arm that an edit turns is written out. Assumes nothing.
use Rattle.vessel.specs.Calls.{formula}
use Rattle.vessel.proofs.property.formula.Goals as goal

pub returns-in-Two-Volume : goal.returns-in-Two-Volume
unfolding formula
returns-in-Two-Volume c = rw (c.in-Two-Volume.is-0, c.in-Two-Volume.is-1) c.pT2v_reg2.ensures
