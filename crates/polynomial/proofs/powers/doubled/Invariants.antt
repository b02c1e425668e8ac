-- `polynomial::powers::doubled` meets its contract: each turn adds one power (`Doubling.filled_next`). Assumes nothing.
use Prim.Native.Nat.{◌+◌}
use mathlib.Core.Path.{◌≡◌}
use lib.ListN.{length}
use Rattle.polynomial.specs.Powers.{Filled}
use Rattle.polynomial.proofs.powers.doubled.Given as goal

abbrev pub invariant-loop-i : goal.invariant-loop-i
invariant-loop-i l = (length l.q ≡ 64) × Filled l.x l.q (l.high + l.i)
