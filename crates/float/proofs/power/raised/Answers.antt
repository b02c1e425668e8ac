use Prim.Native.Nat.{ℕ, ◌≤◌, ◌/◌}
use mathlib.Core.Path.{◌≡◌, ◌∙◌, sym, refl}
use native.Mathlib.Nat.{le_refl}
use native.Mathlib.Omega.{arith}
use lib.Ieee.{of_bits}
use Rattle.exact.specs.Operations.{◌⊗◌}
use borrow.Author.Tests.{eq-eqb, ne_eqb}
use Rattle.float.specs.Power.{squaring, raised}
use Rattle.float.proofs.Squaring.{taken, turn, end}
use Rattle.float.proofs.power.raised.Goals as goal
use Rattle.float.proofs.power.raised.Goals.{then-odd, else-odd, Joined-odd}

pub loop-k-init : goal.loop-k-init
unfolding raised of_bits
loop-k-init c = (c.args.m, le_refl _, refl)

-- the result after the first branch
after : (c : Joined-odd) → c.if-odd.r ≡ taken c.loop-k.k c.loop-k.r c.loop-k.b
after c =
    elim c.if-odd.branch [
      | then-odd w ↦ rw (eq-eqb _ _ w.if-odd.true) w.r-is
      | else-odd w ↦ rw (ne_eqb _ _ w.if-odd.false) w.r-is
    ]

-- what is left of the definition's squaring after a turn
left : (c : Joined-odd)
    → (t : ℕ) × (c.loop-k.k / 2 ≤ t)
    × (squaring t (c.loop-k.k / 2) c.if-odd.r (c.loop-k.b ⊗ c.loop-k.b) ≡ raised c.args.x c.args.m)
left c =
    let l = c.loop-k in
    let s = turn l.invariant.0 l.k l.r l.b c.loop-k-test.true l.invariant.1 in
    (s.0, s.1, rw (after c) (sym s.2 ∙ l.invariant.2))

pub loop-k-smaller-then-k-ne0 : goal.loop-k-smaller-then-k-ne0
loop-k-smaller-then-k-ne0 c = omega (arith, c.loop-k-test.true)

pub loop-k-preserved-then-k-ne0 : goal.loop-k-preserved-then-k-ne0
loop-k-preserved-then-k-ne0 c = left (goal.at.loop-k-preserved-then-k-ne0 c).Joined-odd

pub loop-k-smaller : goal.loop-k-smaller
loop-k-smaller c = omega (arith, c.loop-k-test.true)

pub loop-k-preserved : goal.loop-k-preserved
loop-k-preserved c = let s = left (goal.at.loop-k-preserved c).Joined-odd in (s.0, s.1, end _ _ _ _ c.if-k-ne0.false ∙ sym (end _ _ _ _ c.if-k-ne0.false) ∙ s.2)

pub returns : goal.returns
returns c = sym (end _ _ _ _ c.loop-k-test.false) ∙ c.loop-k.invariant.2
