-- `float::log::high` meets its contract: the products of the halves fit, and carry into the high word what is to be carried. Assumes nothing.
use mathlib.Core.Path.{◌≡◌, ap, ◌∙◌}
use Prim.Native.Nat.{ℕ, ◌+◌, ◌-◌, ◌*◌, ◌/◌, ◌%◌, ◌^◌, ◌≤◌, ◌<◌}
use native.Mathlib.Omega.{arith}
use Rattle.float.proofs.Halves.{product}
use Rattle.float.proofs.log.high.Goals as goal
use Rattle.float.proofs.log.high.Goals.{Start}

record Products (a1 a0 b1 b0 : ℕ) : Type 0 where
  high : a1 * b1 ≤ (2 ^ 32 - 1) * (2 ^ 32 - 1)
  left : a1 * b0 ≤ (2 ^ 32 - 1) * (2 ^ 32 - 1)
  right : a0 * b1 ≤ (2 ^ 32 - 1) * (2 ^ 32 - 1)
  low : a0 * b0 ≤ (2 ^ 32 - 1) * (2 ^ 32 - 1)

-- the four products of the halves of two words
small : (c : Start) → Products (c.args.a / 2 ^ 32) (c.args.a % 2 ^ 32) (c.args.b / 2 ^ 32) (c.args.b % 2 ^ 32)
small c =
    let a1 = c.args.a / 2 ^ 32 in
    let a0 = c.args.a % 2 ^ 32 in
    let b1 = c.args.b / 2 ^ 32 in
    let b0 = c.args.b % 2 ^ 32 in
    let A1 : a1 < 2 ^ 32 = omega arith in
    let A0 : a0 < 2 ^ 32 = omega arith in
    let B1 : b1 < 2 ^ 32 = omega arith in
    let B0 : b0 < 2 ^ 32 = omega arith in
    record { high = product 32 a1 b1 A1 B1; left = product 32 a1 b0 A1 B0; right = product 32 a0 b1 A0 B1; low = product 32 a0 b0 A0 B0 }

pub overflow_mul-mid : goal.overflow_mul-mid
overflow_mul-mid c = omega (arith, small (goal.at.overflow_mul-mid c).Start)

pub overflow_mul-mid-2 : goal.overflow_mul-mid-2
overflow_mul-mid-2 c = omega (arith, small (goal.at.overflow_mul-mid-2 c).Start)

pub overflow_add-mid : goal.overflow_add-mid
overflow_add-mid c = omega (arith, small (goal.at.overflow_add-mid c).Start)

pub overflow_mul-low : goal.overflow_mul-low
overflow_mul-low c = omega (arith, small (goal.at.overflow_mul-low c).Start)

pub overflow_add-low : goal.overflow_add-low
overflow_add-low c = omega (arith, small (goal.at.overflow_add-low c).Start)

pub overflow_mul-result : goal.overflow_mul-result
overflow_mul-result c = omega (arith, small (goal.at.overflow_mul-result c).Start)

pub overflow_add-result : goal.overflow_add-result
overflow_add-result c = omega (arith, small (goal.at.overflow_add-result c).Start)

pub overflow_add-result-2 : goal.overflow_add-result-2
overflow_add-result-2 c = omega (arith, small (goal.at.overflow_add-result-2 c).Start)

-- a * b is (a1 * b1 + carried) * 2 ^ 64 and less than 2 ^ 64 more
halves : (a1 a0 b1 b0 : ℕ) → a0 < 2 ^ 32 → b0 < 2 ^ 32 → a1 * b1 + (a1 * b0 + a0 * b0 / 2 ^ 32) / 2 ^ 32 + (a0 * b1 + (a1 * b0 + a0 * b0 / 2 ^ 32) % 2 ^ 32) / 2 ^ 32 ≡ (2 ^ 32 * a1 + a0) * (2 ^ 32 * b1 + b0) / 2 ^ 64
halves a1 a0 b1 b0 h k = omega arith

pub returns : goal.returns
returns c =
    let a = c.args.a in
    let b = c.args.b in
    let left : 2 ^ 32 * (a / 2 ^ 32) + a % 2 ^ 32 ≡ a = omega arith in
    let right : 2 ^ 32 * (b / 2 ^ 32) + b % 2 ^ 32 ≡ b = omega arith in
    let is = halves (a / 2 ^ 32) (a % 2 ^ 32) (b / 2 ^ 32) (b % 2 ^ 32) (omega arith) (omega arith)
    ∙ ap (λ (n : ℕ). n * (2 ^ 32 * (b / 2 ^ 32) + b % 2 ^ 32) / 2 ^ 64) left
    ∙ ap (λ (n : ℕ). a * n / 2 ^ 64) right in
    omega (arith, is)
