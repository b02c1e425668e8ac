-- `float::power::powi` meets its contract: by n's sign, from the power of its magnitude. Assumes nothing.
use mathlib.Core.Path.{◌∙◌, ap, sym, subst}
use lib.Dec.{T}
use lib.IntN.{ℤ, nat_abs}
use lib.Signed.{non_neg}
use lib.Ieee.{Float, of_bits}
use mir.Syntax.{w32}
use mir.Val.{SFits, Fits}
use mir.Facts.{to_z-of_z, Fits-nat_abs}
use Rattle.exact.specs.Operations.{◌⊘◌}
use Rattle.float.specs.Power.{one, raised}
use Rattle.float.proofs.Exponents.{below, above, not-below, under, negated, negated_fits, read_back, least}
use Rattle.float.proofs.power.powi.Goals as goal

pub returns-then-n-eqminus2147483648 : goal.returns-then-n-eqminus2147483648
unfolding of_bits
returns-then-n-eqminus2147483648 c = ap (λ (r : Float). one ⊘ r) c.raised.ensures ∙ least c.args.x c.ranges.n c.if-n-eqminus2147483648.true

pub overflow_sub-n : goal.overflow_sub-n
overflow_sub-n c =
    subst (SFits w32) (sym (negated c.ranges.n c.if-n-lt0.true c.if-n-eqminus2147483648.false)) (negated_fits c.ranges.n c.if-n-lt0.true c.if-n-eqminus2147483648.false)

pub overflow_cast-n : goal.overflow_cast-n
overflow_cast-n c =
    subst (λ (z : ℤ). T (non_neg z) × Fits w32 (nat_abs z)) (sym (read_back c.ranges.n c.if-n-lt0.true c.if-n-eqminus2147483648.false))
    (tt, Fits-nat_abs tt (negated_fits c.ranges.n c.if-n-lt0.true c.if-n-eqminus2147483648.false))

pub overflow_cast-n-else-n-lt0 : goal.overflow_cast-n-else-n-lt0
overflow_cast-n-else-n-lt0 c =
    subst (λ (z : ℤ). T (non_neg z) × Fits w32 (nat_abs z)) (sym (to_z-of_z c.ranges.n)) (not-below c.args.n (rw (to_z-of_z c.ranges.n) at c.if-n-lt0.false), Fits-nat_abs tt c.ranges.n)

pub returns-then-n-lt0 : goal.returns-then-n-lt0
unfolding of_bits
returns-then-n-lt0 c =
    ap (λ (r : Float). one ⊘ r) (c.raised-then-n-lt0.ensures ∙ ap (λ (z : ℤ). raised c.args.x (nat_abs z)) (read_back c.ranges.n c.if-n-lt0.true c.if-n-eqminus2147483648.false))
    ∙ below c.args.x c.args.n (under c.ranges.n c.if-n-lt0.true c.if-n-eqminus2147483648.false)

pub returns-else-n-lt0 : goal.returns-else-n-lt0
returns-else-n-lt0 c =
    c.raised-else-n-lt0.ensures ∙ ap (λ (z : ℤ). raised c.args.x (nat_abs z)) (to_z-of_z c.ranges.n)
    ∙ above c.args.x c.args.n (rw (to_z-of_z c.ranges.n) at c.if-n-lt0.false)
