-- `polynomial::powers::Powers::power` meets its contract: by k's sign, from the power of its magnitude that is kept. Assumes nothing.
use Prim.Native.Nat.{ℕ, ◌≤◌}
use mathlib.Core.Path.{◌≡◌, ◌∙◌, ap}
use mathlib.Core.List.{List}
use native.Mathlib.Omega.{arith}
use lib.IntN.{ℤ, pos, nat_abs, ◌-ℤ◌}
use lib.ListN.{get_or}
use lib.Ieee.{Float, of_bits, nan}
use mir.Syntax.{w32, w64}
use mir.Val.{Fits, to_z, of_z}
use mir.Facts.{to_z-of_z}
use Rattle.exact.specs.Operations.{◌⊘◌}
use Rattle.float.specs.Power.{one, whole_power}
use Rattle.float.proofs.Exponents.{below, above, under, read_back}
use Rattle.polynomial.proofs.Doubling.{power_at}
use Rattle.polynomial.proofs.Exponents.{kept, not_least}
use Rattle.polynomial.proofs.powers.Powers.power.Goals as goal
use Rattle.polynomial.proofs.powers.Powers.power.Goals.{Then-k-lt0}

-- a magnitude that is kept fits
wide : (n : ℕ) → n ≤ 63 → Fits w64 n
wide n h = record { fits = omega arith }

back : (c : Then-k-lt0) → to_z w32 (of_z w32 (pos 0 -ℤ to_z w32 (of_z w32 c.args.k))) ≡ pos (nat_abs c.args.k)
back c = read_back c.ranges.k c.if-k-lt0.true (not_least c.args.k (kept c.args.k c.requires))

pub returns-then-k-lt0 : goal.returns-then-k-lt0
unfolding of_bits
returns-then-k-lt0 c =
    let h = kept c.args.k c.requires in
    ap (λ (z : ℤ). one ⊘ get_or c.self.inside.kept (nat_abs z) nan) (back (goal.at.returns-then-k-lt0 c).Then-k-lt0)
    ∙ ap (λ (y : Float). one ⊘ y) ((ap (λ (ps : List Float). get_or ps (nat_abs c.args.k) nan) c.self.invariant ∙ power_at c.self.inside.base (nat_abs c.args.k) (omega arith)))
    ∙ below c.self.inside.base c.args.k (under c.ranges.k c.if-k-lt0.true (not_least c.args.k h))
    ∙ ap (λ (x : Float). whole_power x c.args.k) c.self.view_is

pub returns : goal.returns
returns c =
    let h = kept c.args.k c.requires in
    ap (λ (z : ℤ). get_or c.self.inside.kept (nat_abs z) nan) (to_z-of_z c.ranges.k)
    ∙ (ap (λ (ps : List Float). get_or ps (nat_abs c.args.k) nan) c.self.invariant ∙ power_at c.self.inside.base (nat_abs c.args.k) (omega arith))
    ∙ above c.self.inside.base c.args.k (rw (to_z-of_z c.ranges.k) at c.if-k-lt0.false)
    ∙ ap (λ (x : Float). whole_power x c.args.k) c.self.view_is
