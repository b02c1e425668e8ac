use mathlib.Core.Path.{◌≡◌, sym, ◌∙◌, ap}
use native.Mathlib.Omega.{arith}
use Rattle.search.proofs.Runs.{loop_stop, loop_go, loop_spent}
use Rattle.pairs.specs.Residual.{residual}
use Rattle.pairs.proofs.root.run.Goals as goal

pub returns-in-Break : goal.returns-in-Break
returns-in-Break g c =
    let next = g.S.Search.next c.args.rule (residual c.args.question) in
    sym (loop_stop next g.S.Search.spent c.args.limit c.loop-n.state c.loop-n.n c.in-Break.o c.loop-n-test.true (sym c.advance.ensures ∙ c.in-Break.is))
    ∙ c.loop-n.invariant

pub loop-n-preserved : goal.loop-n-preserved
loop-n-preserved g c =
    let next = g.S.Search.next c.args.rule (residual c.args.question) in
    sym (loop_go next g.S.Search.spent c.args.limit c.loop-n.state c.loop-n.n c.in-Continue.next c.loop-n-test.true (sym c.advance.ensures ∙ c.in-Continue.is))
    ∙ c.loop-n.invariant

pub returns : goal.returns
returns g c =
    let next = g.S.Search.next c.args.rule (residual c.args.question) in
    let ended : c.args.limit ≡ c.loop-n.n = omega (arith, c.loop-n-test.false, c.loop-n.auto.n-end) in
    c.spent.ensures
    ∙ ap (g.S.Search.spent c.loop-n.state) ended
    ∙ sym (loop_spent next g.S.Search.spent c.args.limit c.loop-n.state c.loop-n.n c.loop-n-test.false)
    ∙ c.loop-n.invariant
