-- `common::boundaries::Range::most` meets its contract: a range after the other, by computation. Assumes nothing.
use lib.Ieee.{of_bits}
use Rattle.std.proofs.Common.{rules}
use Rattle.float.specs.Decimal.{rounded}
use Rattle.common.proofs.boundaries.Range.most.Goals as goal

pub returns-in-T1 : goal.returns-in-T1
unfolding rounded of_bits
returns-in-T1 c = rw c.in-T1.is

pub returns-in-P1 : goal.returns-in-P1
unfolding rounded of_bits
returns-in-P1 c = search rules

pub returns-in-T2 : goal.returns-in-T2
unfolding rounded of_bits
returns-in-T2 c = rw c.in-T2.is

pub returns-in-T5 : goal.returns-in-T5
unfolding rounded of_bits
returns-in-T5 c = rw c.in-T5.is

pub returns-in-P5 : goal.returns-in-P5
unfolding rounded of_bits
returns-in-P5 c = rw c.in-P5.is

pub returns-in-T4 : goal.returns-in-T4
unfolding rounded of_bits
returns-in-T4 c = rw c.in-T4.is

pub returns-in-P4 : goal.returns-in-P4
unfolding rounded of_bits
returns-in-P4 c = rw c.in-P4.is

pub returns-in-T23 : goal.returns-in-T23
unfolding rounded of_bits
returns-in-T23 c = rw c.in-T23.is
