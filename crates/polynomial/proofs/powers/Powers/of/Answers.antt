use Prim.Native.Nat.{ℕ, ◌^◌}
use mathlib.Core.Path.{◌≡◌, ◌∙◌, ap, refl, subst}
use native.Mathlib.Omega.{arith}
use lib.Ieee.{of_bits}
use Rattle.polynomial.specs.Powers.{squared, Filled}
use Rattle.polynomial.proofs.Doubling.{first_power, all_filled, high_within, doubled_next}
use borrow.Author.Rules.{rules}
use Rattle.polynomial.proofs.powers.Powers.of.Goals as goal

pub loop-h-init : goal.loop-h-init
unfolding squared of_bits
loop-h-init c = record { within = omega arith; power = refl; square = refl; long = search rules; filled = first_power c.args.x _ refl }

pub doubled-more-requires : goal.doubled-more-requires
doubled-more-requires c =
    let v = c.loop-h.invariant in
    let p = v.power in
    let m = high_within c.loop-h.h c.loop-h-test.true in
    (v.power, omega arith, v.square, v.filled)

pub loop-h-preserved : goal.loop-h-preserved
loop-h-preserved c = doubled_next c.loop-h.invariant c.loop-h-test.true (search rules) c.doubled-more.ensures

pub invariant_of-result : goal.invariant_of-result
invariant_of-result c =
    let v = c.loop-h.invariant in
    let l = v.within in
    let n = c.loop-h-test.false in
    let e : c.loop-h.h ≡ 6 = omega arith in
    let m : c.loop-h.high ≡ 64 = v.power ∙ ap (λ (h : ℕ). 2 ^ h) e in
    all_filled _ _ v.long (subst (Filled c.args.x c.loop-h.kept) m v.filled)
