-- `polynomial::polys_powi_steps` meets its contract: from its callees'. It is written out, so that an edit's log names what differs. Assumes nothing.
use Rattle.polynomial.proofs.polys_powi_steps.Goals as goal

pub returns : goal.returns
returns g c = rw (c.tiles-s.ensures, c.none.ensures, c.base.ensures, c.base-2.ensures) at c.divided.ensures
