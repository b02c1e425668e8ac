-- `vessel::pair::volume_refused` meets its contract: its tests are the definition's. The arms are written out, so that an edit's log names what differs. Assumes nothing.
use lib.Ieee.{of_bits}
use Rattle.float.specs.Decimal.{rounded}
use Rattle.vessel.specs.Searches.{volume_refused}
use Rattle.vessel.proofs.pair.volume_refused.Goals as goal

pub returns-then-of_volume : goal.returns-then-of_volume
unfolding volume_refused rounded of_bits
returns-then-of_volume c = rw (← c.of_volume.ensures, c.if-of_volume.true)

pub returns-else-of_volume : goal.returns-else-of_volume
unfolding volume_refused
returns-else-of_volume c = rw (← c.of_volume.ensures, c.if-of_volume.false)
