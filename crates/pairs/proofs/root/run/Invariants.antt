-- `pairs::root::run` meets its contract: what is left of its loop is what is left of the definition's run. Assumes nothing.
use Rattle.std.proofs.Common.{◌≡◌, ◌-◌}
use Rattle.search.specs.Run.{run_from}
use Rattle.pairs.specs.Residual.{residual}
use Rattle.pairs.proofs.root.run.Given as goal

abbrev pub invariant-loop-n : goal.invariant-loop-n
invariant-loop-n g l =
    let next = g.S.Search.next l.rule (residual l.question) in
    run_from next g.S.Search.spent (l.limit - l.n) l.state l.n ≡ run_from next g.S.Search.spent l.limit l.fn.start 0
