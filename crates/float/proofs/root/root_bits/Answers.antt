-- `float::root::root_bits` meets its contract: `sig` has what the bits are, `RootBits.zeros` what the leading zeros give, and `RootBits.found` the result. Assumes nothing.
use mathlib.Core.Path.{refl}
use native.Mathlib.Omega.{arith}
use lib.Count.{count_leading_zeros}
use Rattle.float.proofs.RootBits.{Zeros, zeros, Bits, result, found}
use Rattle.exact.proofs.Bits.{Significand, subnormal, normal}
use Rattle.float.proofs.root.root_bits.Goals as goal
use Rattle.float.proofs.root.root_bits.Goals.{then-field-gt0, else-field-gt0, After-floor_root-q, Joined-field-gt0}

sig : (c : Joined-field-gt0) → Significand c.args.b c.if-field-gt0.m c.if-field-gt0.j
sig c =
    elim c.if-field-gt0.branch [
      | then-field-gt0 w ↦ rw (w.m-is, w.j-is) (normal c.args.b c.requires.1 w.if-field-gt0.true)
      | else-field-gt0 w ↦ rw (w.m-is, w.j-is) (subnormal c.args.b c.requires.0 w.if-field-gt0.false)
    ]

zs : (c : Joined-field-gt0) → Zeros c.if-field-gt0.m (count_leading_zeros 64 c.if-field-gt0.m)
zs c = zeros c.if-field-gt0.m (sig c).some (sig c).few

got : (c : After-floor_root-q) → Bits c.args.b (result (count_leading_zeros 64 c.if-field-gt0.m) c.if-field-gt0.j c.floor_root-q.result) c.floor_root-q.result
got c =
    found c.args.b c.if-field-gt0.m c.if-field-gt0.j (count_leading_zeros 64 c.if-field-gt0.m) c.floor_root-q.result (sig c.before.before.before) refl c.floor_root-q.ensures

pub overflow_cast-z : goal.overflow_cast-z
overflow_cast-z c = omega (arith, (zs (goal.at.overflow_cast-z c).Joined-field-gt0).most)

pub overflow_add-sh : goal.overflow_add-sh
overflow_add-sh c = omega (arith, (zs (goal.at.overflow_add-sh c).Joined-field-gt0).most, (sig (goal.at.overflow_add-sh c).Joined-field-gt0).low)

pub overflow_sub-sh : goal.overflow_sub-sh
overflow_sub-sh c = omega (arith, (zs (goal.at.overflow_sub-sh c).Joined-field-gt0).least)

pub overflow_shl-m : goal.overflow_shl-m
overflow_shl-m c = omega (arith, (zs (goal.at.overflow_shl-m c).Joined-field-gt0).most)

pub overflow_add-result : goal.overflow_add-result
overflow_add-result c = omega (arith, (sig (goal.at.overflow_add-result c).Joined-field-gt0).low)

pub overflow_sub-result : goal.overflow_sub-result
overflow_sub-result c = omega (arith, (zs (goal.at.overflow_sub-result c).Joined-field-gt0).most)

pub overflow_mul-result : goal.overflow_mul-result
overflow_mul-result c = omega (arith, (sig (goal.at.overflow_mul-result c).Joined-field-gt0).low)

pub overflow_add-result-2 : goal.overflow_add-result-2
overflow_add-result-2 c = omega (arith, (got (goal.at.overflow_add-result-2 c).After-floor_root-q).small)

pub overflow_add-result-3 : goal.overflow_add-result-3
overflow_add-result-3 c = omega (arith, (got (goal.at.overflow_add-result-3 c).After-floor_root-q).below)

pub returns : goal.returns
returns c = ((got (goal.at.returns c).After-floor_root-q).below, (got (goal.at.returns c).After-floor_root-q).root)
