-- `polynomial::tiles` meets its contract: after each piece the sums are those up to its end (`Rows.Reached`). Assumes nothing.
use Rattle.polynomial.proofs.Rows.{Reached}
use Rattle.polynomial.proofs.tiles.Given as goal

abbrev pub invariant-loop-start : goal.invariant-loop-start
invariant-loop-start g l = Reached (g.S.Step.step l.vi l.vj) l.initial.sums l.table l.sums l.start
