-- `climboat::calls::pT_log` meets its contract: the refusal that an edit turns, of no region, is written out. Assumes nothing.
use mathlib.Core.Path.{refl}
use Rattle.climboat.specs.Calls.{pT_log, named_log}
use Rattle.climboat.proofs.Names.{names_nothing}
use Rattle.climboat.proofs.calls.pT_log.Goals as goal

pub returns-in_default-2 : goal.returns-in_default-2
unfolding pT_log named_log
returns-in_default-2 c = rw (names_nothing _ c.try_from.ensures c.in_default.is-0) (record { value = refl; values_after = refl; numbers_after = refl })
