-- A product of two halves of a word fits. Assumes nothing.
use Prim.Native.Nat.{ℕ, ◌-◌, ◌*◌, ◌^◌, ◌≤◌, ◌<◌}
use native.Mathlib.Nat.{mul-le-mul}
use native.Mathlib.Omega.{arith}

pub product : (k a b : ℕ) → a < 2 ^ k → b < 2 ^ k → a * b ≤ (2 ^ k - 1) * (2 ^ k - 1)
product k a b h l = mul-le-mul {n₁ = a} {m₁ = b} {n₂ = 2 ^ k - 1} {m₂ = 2 ^ k - 1} (omega arith) (omega arith)
