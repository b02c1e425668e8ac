-- `float::log::fallen` meets its contract: after j turns t is term j, s the total of the j terms before it. Assumes nothing.
use mathlib.Core.Path.{◌≡◌}
use Prim.Native.Nat.{◌*◌, ◌≤◌}
use Rattle.float.specs.Log.{term, total}
use Rattle.float.proofs.log.fallen.Given as goal

abbrev pub invariant-loop-j : goal.invariant-loop-j
invariant-loop-j l = (l.j ≤ 8) × (l.t ≡ term l.j l.z l.z) × (l.s ≡ total 1 l.j l.z l.z) × (l.t ≤ l.z) × (l.s ≤ l.j * l.z)
