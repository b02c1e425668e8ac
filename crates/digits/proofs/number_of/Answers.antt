use mathlib.Core.Path.{◌≡◌, sym, ◌∙◌}
use native.Mathlib.Omega.{arith}
use borrow.Author.Tests.{le-ltb}
use lib.ListN.{get_or, drop_of_length-le}
use Rattle.std.specs.Prelude.{Some}
use Rattle.digits.specs.Digits.{digit_of, number_from}
use Rattle.digits.proofs.Reading.{digit_small, stops, goes_on, larger, room}
use Rattle.digits.proofs.number_of.Goals as goal
use Rattle.digits.proofs.number_of.Goals.{In_ok-n}

-- the digit that the loop is at
digit_is : (c : In_ok-n) → digit_of (get_or c.args.digits.now c.loop-byte.byte-index 0) ≡ Some c.in_ok-n.field-0
digit_is c = sym c.digit.ensures ∙ c.in_ok-n.was

pub overflow_mul-n : goal.overflow_mul-n
overflow_mul-n c = let r = room _ _ c.loop-byte.invariant.below (omega arith) in omega arith

pub returns-in_err-n : goal.returns-in_err-n
returns-in_err-n c =
    rw (c.from_residual.ensures, le-ltb _ _ c.if-digits-gt16.false)
    (stops c.args.digits.now c.loop-byte.n c.loop-byte.byte-index (omega arith) (sym c.digit.ensures ∙ c.in_err-n.was) ∙ c.loop-byte.invariant.same)

pub overflow_add-n : goal.overflow_add-n
overflow_add-n c =
    let r = room _ _ c.loop-byte.invariant.below (omega arith) in
    let d = digit_small (get_or c.args.digits.now c.loop-byte.byte-index 0) _ (digit_is c) in
    omega arith

pub loop-byte-preserved : goal.loop-byte-preserved
loop-byte-preserved c =
    let bs = c.args.digits.now in
    record {
      below = larger _ _ _ c.loop-byte.invariant.below (digit_small (get_or bs c.loop-byte.byte-index 0) _ (digit_is c));
      same = goes_on bs c.loop-byte.n c.loop-byte.byte-index (omega arith) _ (digit_is c) ∙ c.loop-byte.invariant.same;
    }

pub returns : goal.returns
unfolding number_from
returns c = rw (le-ltb _ _ c.if-digits-gt16.false) (rw (drop_of_length-le c.args.digits.now c.loop-byte-test.false) at c.loop-byte.invariant.same)
