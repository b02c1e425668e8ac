use native.Mathlib.Omega.{arith}
use Rattle.polynomial.proofs.Rows.{reached_none, reached_next, reached_all}
use Rattle.polynomial.proofs.tiles.Goals as goal

pub loop-start-init : goal.loop-start-init
loop-start-init g c = reached_none _ _ _

pub loop-start-preserved : goal.loop-start-preserved
loop-start-preserved g c = reached_next _ _ _ 12 c.loop-start.invariant c.loop-start-test.true c.len-n.ensures c.cut.ensures (rw c.rows.ensures at c.part-sums.ensures)

pub returns-2 : goal.returns-2
returns-2 g c =
    reached_all _ _ _ (reached_next _ _ _ 12 c.loop-start.invariant c.loop-start-test.true c.len-n.ensures c.cut.ensures (rw c.rows.ensures at c.part-sums.ensures))
    (omega (arith, c.len-n.ensures))
