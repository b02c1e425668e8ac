-- `vessel::pair::outcome` meets its contract: behind its tests the pair decides. Assumes nothing.
use Rattle.std.proofs.Common.{rules, ◌≡◌, true, false}
use mathlib.Core.Bool.{◌&&◌}
use lib.Ieee.Scale.{finite}
use borrow.Author.Tests.{le-leb}
use Rattle.common.specs.Boundaries.{inside}
use Rattle.pairs.specs.Residual.{row_of}
use Rattle.pairs.specs.Pairs.{pair}
use Rattle.vessel.specs.Searches.{volume_refused, outcome}
use Rattle.vessel.proofs.pair.outcome.Goals as goal

pub returns : goal.returns
unfolding outcome pair
returns c =
    let q = c.args.question in
    let numbers : (finite q.fixed && finite q.target) ≡ true = search rules in
    let in_range : inside (row_of q).range q.fixed ≡ true = search rules in
    let volume : volume_refused q ≡ false = search rules in
    rw (le-leb _ _ c.if-limit-gt-LARGEST_STEP_LIMIT.false, numbers, in_range, volume) c.pair.ensures
