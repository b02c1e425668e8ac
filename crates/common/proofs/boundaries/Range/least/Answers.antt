-- `common::boundaries::Range::least` meets its contract: a range after the other, by computation. Assumes nothing.
use lib.Ieee.{of_bits}
use Rattle.std.proofs.Common.{rules}
use Rattle.float.specs.Decimal.{rounded}
use Rattle.common.proofs.boundaries.Range.least.Goals as goal

pub returns-in-T1 : goal.returns-in-T1
unfolding rounded of_bits
returns-in-T1 c = search rules

pub returns-in-P1 : goal.returns-in-P1
unfolding rounded of_bits
returns-in-P1 c = rw c.in-P1.is

pub returns-in-P2 : goal.returns-in-P2
unfolding rounded of_bits
returns-in-P2 c = search rules

pub returns-in-T5 : goal.returns-in-T5
unfolding rounded of_bits
returns-in-T5 c = rw c.in-T5.is

pub returns-in-P4 : goal.returns-in-P4
unfolding rounded of_bits
returns-in-P4 c = rw c.in-P4.is

pub returns-in-T23 : goal.returns-in-T23
unfolding rounded of_bits
returns-in-T23 c = rw c.in-T23.is

pub returns-in-P23 : goal.returns-in-P23
unfolding rounded of_bits
returns-in-P23 c = rw c.in-P23.is
