-- `float::root::raise` meets its contract: what the square gains, the rest loses. Assumes nothing.
use mathlib.Core.Path.{refl}
use Prim.Native.Nat.{ℕ, ◌*◌, ◌^◌, ◌≤◌}
use native.Mathlib.Nat.{mul-le-mul}
use native.Mathlib.Omega.{arith}
use mir.Syntax.{w64}
use mir.Val.{Fits}
use Rattle.float.proofs.root.raise.Goals as goal

product_fits : (a b : ℕ) → a ≤ 2 → b ≤ 2 ^ 57 → Fits w64 (a * b)
product_fits a b h l = let m = mul-le-mul {n₁ = a} {m₁ = b} {n₂ = 2} {m₂ = 2 ^ 57} h l in record { fits = omega arith }

pub overflow_mul-more-2 : goal.overflow_mul-more-2
overflow_mul-more-2 c = product_fits _ _ c.requires.1 (omega arith)

pub returns-then-more-c : goal.returns-then-more-c
returns-then-more-c c = (omega (arith, c.if-more-c.true), omega arith)

pub returns : goal.returns
returns c = (refl, omega arith)
