-- `float::sign::is_sign_negative` meets its contract: by the sign of a zero, or the comparison with it. Assumes nothing.
use mathlib.Core.Path.{◌≡◌, refl, sym, subst}
use mathlib.Core.Bool.{Bool, true, false}
use lib.Dec.{T}
use lib.Ieee.{Float, lt, eq, div, of_bits}
use Rattle.exact.specs.Value.{negative}
use Rattle.exact.specs.Operations.{◌⊘◌}
use Rattle.float.specs.Sign.{nought, with_sign}
use Rattle.float.specs.Power.{one}
use Rattle.float.proofs.Signs.{zero_is, sign_below, sign_above}
use Rattle.float.proofs.sign.is_sign_negative.Goals as goal

zero-sign : (s : Bool) → lt (one ⊘ with_sign s nought) nought ≡ s
unfolding lt div
zero-sign true = refl
zero-sign false = refl

by_sign_lem : (y : Float) → eq y nought ≡ false → lt y nought ≡ negative y
by_sign_lem y h = go (lt y nought) refl
  where
    go : (b : Bool) → lt y nought ≡ b → b ≡ negative y
    go true e = sym (sign_below y e)
    go false e = sym (sign_above y h e)

pub returns-then-y : goal.returns-then-y
unfolding of_bits
returns-then-y c =
    let y = c.args.y in
    subst (λ (z : Float). lt (one ⊘ z) nought ≡ negative y) (sym (zero_is y (subst T (sym c.well_formed.0.1) tt) c.if-y.true)) (zero-sign (negative y))

pub returns : goal.returns
unfolding of_bits
returns c = by_sign_lem c.args.y c.if-y.false
