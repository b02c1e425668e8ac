use mathlib.Core.Path.{◌∙◌, ap}
use native.Mathlib.Omega.{arith}
use lib.IntN.{pos}
use Rattle.polynomial.specs.Sums.{over}
use Rattle.polynomial.proofs.Rows.{starts, goes_on, ends, read_at, range_at_back}
use Rattle.polynomial.proofs.tile.Goals as goal

pub loop-k-init : goal.loop-k-init
loop-k-init g c = starts _ _ _ _ _

pub with_row-sums-requires : goal.with_row-sums-requires
with_row-sums-requires g c =
    let t = c.table.inside in
    let columns = c.table.invariant in
    let j = columns.as_long_j in
    (range_at_back t.is.now c.loop-k.k (pos 0) c.loop-k-test.true columns.firsts, range_at_back t.js.now c.loop-k.k (pos 0) (omega arith) columns.seconds)

pub loop-k-preserved : goal.loop-k-preserved
loop-k-preserved g c =
    let t = c.table.inside in
    let columns = c.table.invariant in
    let j = columns.as_long_j in
    goes_on _ _ _ _ _ columns c.loop-k.invariant c.loop-k-test.true
    (rw (read_at t.is.now c.loop-k.k (pos 0) c.loop-k-test.true columns.firsts, read_at t.js.now c.loop-k.k (pos 0) (omega arith) columns.seconds) at c.with_row-sums.ensures)

pub returns : goal.returns
returns g c = ends _ _ _ _ _ c.loop-k.invariant c.loop-k-test.false ∙ ap (over (g.S.Step.step c.args.vi.now c.args.vj.now) c.args.s) c.table.view_is
