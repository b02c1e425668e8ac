-- `float::root::digit_recurrence` meets its contract. After i turns the part of m that is brought down, root * root + rem, above the register, reg, is m * 4 ^ i in 128 bits and more.
-- At i = 54 the register is empty. Assumes nothing.
use mathlib.Core.Path.{◌≡◌}
use Prim.Native.Nat.{ℕ, ◌+◌, ◌-◌, ◌*◌, ◌^◌, ◌≤◌, ◌<◌}
use Rattle.float.proofs.root.digit_recurrence.Given as goal

abbrev pub Down : ℕ → ℕ → ℕ → ℕ → ℕ → Type 0
Down m reg rem root i = ((root * root + rem) * 2 ^ 64 + reg ≡ m * 4 ^ i) × (rem ≤ 2 * root) × (root < 2 ^ i) × (reg < 2 ^ 64) × (i ≤ 54)

-- ---- the loop
abbrev pub invariant-loop-i : goal.invariant-loop-i
invariant-loop-i l = Down l.m l.reg l.rem l.root l.i

abbrev pub decreases-loop-i : goal.decreases-loop-i
decreases-loop-i l = 54 - l.i
