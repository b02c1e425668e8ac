use mathlib.Core.Path.{◌∙◌}
use native.Mathlib.Omega.{arith}
use lib.ListN.{length-set}
use borrow.Author.Rules.{rules}
use Rattle.polynomial.proofs.Doubling.{filled_next}
use Rattle.polynomial.proofs.powers.doubled.Goals as goal

pub loop-i-init : goal.loop-i-init
loop-i-init c = (search rules, λ k l. c.requires.3 k (omega arith))

pub loop-i-preserved : goal.loop-i-preserved
loop-i-preserved c =
    let l = c.loop-i in
    (length-set l.q _ _ ∙ l.invariant.0, filled_next c.args.x c.args.sq c.args.h c.args.high l.i l.q l.invariant.0 c.requires.0 c.requires.1 c.requires.2 c.loop-i-test.true l.invariant.1)

pub returns : goal.returns
returns c = λ k m. c.loop-i.invariant.1 k (omega arith)
