-- `pairs::row::Pair::upper_end` meets its contract: each arm is its rows'. Assumes nothing.
use mathlib.Core.Path.{◌≡◌, refl}
use mathlib.Core.List.{[], ◌∷◌}
use lib.Ieee.{of_bits}
use Rattle.float.specs.Decimal.{rounded}
use Rattle.common.specs.Constant.{p_50, p_most}
use Rattle.r4.specs.Ends.{always}
use Rattle.pairs.specs.Rows.{row}
use Rattle.pairs.specs.declared.row.Pair.TheVariants.{Tv1, Th1, Ts1, Tv2, Th2, Tv5, Th5, Ts5}
use Rattle.pairs.proofs.Cases.{among}
use Rattle.pairs.proofs.row.Pair.upper_end.Goals as goal

pub returns-in-Pv1 : goal.returns-in-Pv1
returns-in-Pv1 c = rw c.in-Pv1.is c.p2Tmax_reg1.ensures

pub returns-in-Tv1 : goal.returns-in-Tv1
unfolding rounded of_bits
returns-in-Tv1 c =
    let x = c.args.fixed in
    among (λ pair. always p_most x ≡ (row pair).upper x) (Tv1 ∷ (Th1 ∷ (Ts1 ∷ (Tv2 ∷ (Th2 ∷ []))))) c.args.self c.in-Tv1.is (refl, (refl, (refl, (refl, (refl, tt)))))

pub returns-in-Pv2 : goal.returns-in-Pv2
unfolding rounded of_bits
returns-in-Pv2 c = rw c.in-Pv2.is

pub returns-in-Ts2 : goal.returns-in-Ts2
returns-in-Ts2 c = rw c.in-Ts2.is c.T2pmax_reg2.ensures

pub returns-in-Tv5 : goal.returns-in-Tv5
unfolding rounded of_bits
returns-in-Tv5 c =
    let x = c.args.fixed in
    among (λ pair. always p_50 x ≡ (row pair).upper x) (Tv5 ∷ (Th5 ∷ (Ts5 ∷ []))) c.args.self c.in-Tv5.is (refl, (refl, (refl, tt)))
