-- `float::root::square` meets its contract: q is 2 ^ 27 * a + b, and each of the three products fits. Assumes nothing.
use mathlib.Core.Path.{◌≡◌, ap}
use Prim.Native.Nat.{ℕ, ◌+◌, ◌-◌, ◌*◌, ◌/◌, ◌%◌, ◌^◌, ◌≤◌, ◌<◌}
use native.Mathlib.Omega.{arith}
use Rattle.float.proofs.Halves.{product}
use Rattle.float.proofs.root.square.Goals as goal
use Rattle.float.proofs.root.square.Goals.{Start}

pub record Products (a b : ℕ) : Type 0 where
  pub aa : a * a ≤ (2 ^ 27 - 1) * (2 ^ 27 - 1)
  pub ab : a * b ≤ (2 ^ 27 - 1) * (2 ^ 27 - 1)
  pub bb : b * b ≤ (2 ^ 27 - 1) * (2 ^ 27 - 1)

small : (c : Start) → Products (c.args.q / 2 ^ 27) (c.args.q % 2 ^ 27)
small c =
    let a = c.args.q / 2 ^ 27 in
    let b = c.args.q % 2 ^ 27 in
    let h : a < 2 ^ 27 = omega (arith, c.requires) in
    let k : b < 2 ^ 27 = omega arith in
    record { aa = product 27 a a h h; ab = product 27 a b h k; bb = product 27 b b k k }

pub overflow_mul-mid : goal.overflow_mul-mid
overflow_mul-mid c = omega (arith, small (goal.at.overflow_mul-mid c).Start)

pub overflow_mul-mid-2 : goal.overflow_mul-mid-2
overflow_mul-mid-2 c = omega (arith, small (goal.at.overflow_mul-mid-2 c).Start)

pub overflow_mul-low : goal.overflow_mul-low
overflow_mul-low c = omega (arith, small (goal.at.overflow_mul-low c).Start)

pub overflow_add-low : goal.overflow_add-low
overflow_add-low c = omega (arith, small (goal.at.overflow_add-low c).Start)

pub overflow_mul-result : goal.overflow_mul-result
overflow_mul-result c = omega (arith, small (goal.at.overflow_mul-result c).Start)

pub overflow_add-result : goal.overflow_add-result
overflow_add-result c = omega (arith, small (goal.at.overflow_add-result c).Start)

pub overflow_add-result-2 : goal.overflow_add-result-2
overflow_add-result-2 c = omega (arith, small (goal.at.overflow_add-result-2 c).Start)

pub returns : goal.returns
returns c =
    let q = c.args.q in
    let halves : q ≡ 2 ^ 27 * (q / 2 ^ 27) + q % 2 ^ 27 = omega arith in
    let sum = ap (λ (x : ℕ). x * x) halves in
    (omega (arith, sum), omega (arith, sum))
