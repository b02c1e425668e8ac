-- `search::brent::Brent::aim_sorted` meets its contract: its tests are the definition's in their order, at what the calls ensure. Assumes nothing.
use lib.Ieee.{of_bits}
use Rattle.search.specs.Brent.{aim_sorted}
use Rattle.search.proofs.brent.Brent.aim_sorted.Goals as goal

pub returns-then-self : goal.returns-then-self
unfolding of_bits aim_sorted
returns-then-self c = rw (c.if-self.true, ← c.bracket.ensures)

pub returns-then-abs-tolerance : goal.returns-then-abs-tolerance
unfolding of_bits aim_sorted
returns-then-abs-tolerance c = rw (c.if-self.false, ← c.half_width.ensures, ← c.abs.ensures, ← c.tolerance.ensures, c.if-abs-tolerance.true, ← c.bracket-then-abs-tolerance.ensures)

pub returns-then-strictly_between : goal.returns-then-strictly_between
unfolding of_bits aim_sorted
returns-then-strictly_between c = rw (c.if-self.false, ← c.half_width.ensures, ← c.abs.ensures, ← c.tolerance.ensures, c.if-abs-tolerance.false, ← c.lengths-l.ensures, ← c.next_point-x.ensures, ← c.strictly_between.ensures, c.if-strictly_between.true, ← c.with_lengths-state.ensures)

pub returns-then-strictly_between-2 : goal.returns-then-strictly_between-2
unfolding of_bits aim_sorted
returns-then-strictly_between-2 c = rw (c.with_lengths-state-then-strictly_between-2.ensures, c.halved.ensures, c.if-self.false, ← c.half_width.ensures, ← c.abs.ensures, ← c.tolerance.ensures, c.if-abs-tolerance.false, ← c.lengths-l.ensures, ← c.next_point-x.ensures, ← c.strictly_between.ensures, c.if-strictly_between.false, ← c.middle-x.ensures, ← c.strictly_between-2.ensures, c.if-strictly_between-2.true)

pub returns : goal.returns
unfolding of_bits aim_sorted
returns c = rw (c.if-self.false, ← c.half_width.ensures, ← c.abs.ensures, ← c.tolerance.ensures, c.if-abs-tolerance.false, ← c.lengths-l.ensures, ← c.next_point-x.ensures, ← c.strictly_between.ensures, c.if-strictly_between.false, ← c.middle-x.ensures, ← c.strictly_between-2.ensures, c.if-strictly_between-2.false, ← c.bracket-2.ensures)
