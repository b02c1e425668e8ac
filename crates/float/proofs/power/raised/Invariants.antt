-- `float::power::raised` meets its contract. The loop's invariant: what is left of the definition's squaring gives the result.
-- The measure is the exponent. Assumes nothing.
use Prim.Native.Nat.{ℕ, ◌≤◌}
use mathlib.Core.Path.{◌≡◌}
use Rattle.float.specs.Power.{squaring, raised}
use Rattle.float.proofs.power.raised.Given as goal

abbrev pub invariant-loop-k : goal.invariant-loop-k
invariant-loop-k l = (turns : ℕ) × (l.k ≤ turns) × (squaring turns l.k l.r l.b ≡ raised l.x l.m)

abbrev pub decreases-loop-k : goal.decreases-loop-k
decreases-loop-k l = l.k
