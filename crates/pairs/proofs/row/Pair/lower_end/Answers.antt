-- `pairs::row::Pair::lower_end` meets its contract: each arm is its rows'. Assumes nothing.
use mathlib.Core.Path.{◌≡◌, refl}
use mathlib.Core.List.{[], ◌∷◌}
use lib.Ieee.{of_bits}
use Rattle.float.specs.Decimal.{rounded}
use Rattle.common.specs.Constant.{p_least}
use Rattle.r4.specs.Ends.{always, p_lowest_1}
use Rattle.pairs.specs.Rows.{row}
use Rattle.pairs.specs.declared.row.Pair.TheVariants.{Tv1, Th1, Ts1, Tv2, Th2, Ts2, Tv5, Th5, Ts5}
use Rattle.pairs.proofs.Cases.{among}
use Rattle.pairs.proofs.row.Pair.lower_end.Goals as goal

pub returns-in-Pv1 : goal.returns-in-Pv1
unfolding rounded of_bits
returns-in-Pv1 c = rw c.in-Pv1.is

pub returns-in-Tv1 : goal.returns-in-Tv1
returns-in-Tv1 c =
    let x = c.args.fixed in
    rw c.T2pmin_reg1.ensures (among (λ pair. p_lowest_1 x ≡ (row pair).lower x) (Tv1 ∷ (Th1 ∷ (Ts1 ∷ []))) c.args.self c.in-Tv1.is (refl, (refl, (refl, tt))))

pub returns-in-Pv2 : goal.returns-in-Pv2
returns-in-Pv2 c = rw c.in-Pv2.is c.p2Tmin_reg2.ensures

pub returns-in-Tv2 : goal.returns-in-Tv2
unfolding rounded of_bits
returns-in-Tv2 c =
    let x = c.args.fixed in
    among (λ pair. always p_least x ≡ (row pair).lower x) (Tv2 ∷ (Th2 ∷ (Ts2 ∷ (Tv5 ∷ (Th5 ∷ (Ts5 ∷ [])))))) c.args.self c.in-Tv2.is (refl, (refl, (refl, (refl, (refl, (refl, tt))))))
