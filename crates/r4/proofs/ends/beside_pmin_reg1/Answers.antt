-- `r4::ends::beside_pmin_reg1` meets its contract: what is surely above the line is not below it. Assumes nothing.
use Rattle.r4.specs.Ends.{p_lowest_1}
use Rattle.r4.proofs.ends.beside_pmin_reg1.Goals as goal

pub returns-then-surely_above : goal.returns-then-surely_above
unfolding p_lowest_1
returns-then-surely_above c = let yes = c.surely_above.ensures c.if-surely_above.true in rw (yes.0, yes.1)
