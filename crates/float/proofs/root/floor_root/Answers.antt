-- `float::root::floor_root` meets its contract, whatever the guess is: a number whose square leaves no more than its double is the root, and where none was found the digit recurrence has it. Assumes nothing.
use mathlib.Core.Path.{◌≡◌}
use Prim.Native.Nat.{◌+◌, ◌*◌, ◌^◌, ◌≤◌}
use native.Mathlib.Omega.{arith}
use Rattle.float.specs.Root.{isqrt}
use Rattle.float.proofs.RootSquares.{floor_only, isqrt_floor}
use Rattle.float.proofs.root.floor_root.Goals as goal

pub returns-then-r : goal.returns-then-r
returns-then-r c =
    let m = c.args.m in
    let n = m * 2 ^ 44 in
    let r = c.raise-r.result in
    let kept : r.root * r.root + r.rest ≡ n =
    omega (arith, c.square-s.ensures, c.if-s-high.true, c.if-s-left.true, c.raise.ensures.0, c.raise-r.ensures.0) in
    let last : r.rest ≤ 2 * r.root = omega (arith, c.if-r.true) in
    floor_only n r.root (isqrt 54 n) (omega arith, omega arith) (isqrt_floor 54 n (omega arith))

pub returns : goal.returns
returns c = c.digit_recurrence.ensures
