-- `float::sign::same_sign` meets its contract: what is below zero is not above it. Assumes nothing.
use mathlib.Core.Path.{sym}
use mathlib.Core.Bool.{or-false}
use lib.Ieee.{of_bits}
use Rattle.float.specs.Sign.{same_sign}
use Rattle.float.proofs.Signs.{not_both}
use Rattle.float.proofs.sign.same_sign.Goals as goal

pub returns-then-a : goal.returns-then-a
unfolding same_sign of_bits
returns-then-a c = rw (c.if-a.true, not_both c.args.a c.if-a.true) (sym (or-false _))

pub returns-then-a-2 : goal.returns-then-a-2
unfolding same_sign of_bits
returns-then-a-2 c = rw (c.if-a.false, c.if-a-2.true)

pub returns : goal.returns
unfolding same_sign of_bits
returns c = rw (c.if-a.false, c.if-a-2.false)
