-- `polynomial::tile` meets its contract: its loop takes a row at a time (`Rows`). Assumes nothing.
use Rattle.polynomial.proofs.Rows.{Left}
use Rattle.polynomial.proofs.tile.Given as goal

abbrev pub invariant-loop-k : goal.invariant-loop-k
invariant-loop-k g l = Left (g.S.Step.step l.vi l.vj) l.initial.sums l.table-inside.is.now l.table-inside.js.now l.table-inside.ns.now l.sums l.k
