-- `float::root::sqrt` meets its contract: each of its returns is a case of `proofs/RootCases.antt`, and the last is what `root_bits` ensures, at the bits of x. Assumes nothing.
use mathlib.Core.Path.{sym, ap, ◌∙◌, subst}
use lib.Dec.{T}
use lib.Ieee.{binary64, fits, div, of_bits}
use lib.Ieee.Bits.{of_bits-to_bits}
use Rattle.float.specs.Root.{square_root}
use Rattle.float.proofs.RootCases.{Left, nan_case, zero_case, neg_case, left_over, inf_case, bits_case}
use Rattle.exact.proofs.Bits.{not_nan_bits}
use Rattle.float.proofs.Signs.{no_nan}
use Rattle.float.proofs.root.sqrt.Goals as goal
use Rattle.float.proofs.root.sqrt.Goals.{Else-x-3, Start}

-- what owning an `f64` tells: the format holds it
held : (c : Start) → T (fits binary64 c.args.x)
held c = subst T (sym c.well_formed.0.1) tt

rest : (c : Else-x-3) → Left c.args.x
unfolding of_bits
rest c = left_over c.args.x (held c.before.before.before) c.if-x.false c.if-x-2.false c.if-x-3.false

pub returns-then-x : goal.returns-then-x
returns-then-x c = nan_case c.args.x c.if-x.true

pub returns-then-x-2 : goal.returns-then-x-2
unfolding of_bits
returns-then-x-2 c = zero_case c.args.x (held (goal.at.returns-then-x-2 c).Start) c.if-x-2.true

pub returns-then-x-3 : goal.returns-then-x-3
unfolding div of_bits
returns-then-x-3 c = neg_case c.args.x c.if-x-3.true

pub float_to_bits-b : goal.float_to_bits-b
float_to_bits-b c = no_nan c.args.x c.if-x.false

pub returns-then-b-eq9218868437227405312 : goal.returns-then-b-eq9218868437227405312
returns-then-b-eq9218868437227405312 c = inf_case c.args.x (rest (goal.at.returns-then-b-eq9218868437227405312 c).Else-x-3) c.if-b-eq9218868437227405312.true

pub root_bits-requires : goal.root_bits-requires
root_bits-requires c = bits_case c.args.x (rest (goal.at.root_bits-requires c).Else-x-3) c.if-b-eq9218868437227405312.false

pub float_from_bits-result : goal.float_from_bits-result
float_from_bits-result c = not_nan_bits c.root_bits.result c.root_bits.ensures.0

pub returns : goal.returns
returns c =
    c.root_bits.ensures.1 ∙ ap square_root (of_bits-to_bits binary64 c.args.x (held (goal.at.returns c).Start))
