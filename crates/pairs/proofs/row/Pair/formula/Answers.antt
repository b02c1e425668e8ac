-- `pairs::row::Pair::formula` meets its contract: each arm is its rows'. Assumes nothing.
use mathlib.Core.Path.{◌≡◌, refl}
use mathlib.Core.List.{[], ◌∷◌}
use Rattle.r1.specs.Region1 as region1
use Rattle.r2.specs.Region2 as region2
use Rattle.pairs.specs.Rows.{row}
use Rattle.pairs.specs.declared.row.Pair.TheVariants.{Pv1, Tv1, Pv2, Tv2}
use Rattle.pairs.proofs.Cases.{among}
use Rattle.pairs.proofs.row.Pair.formula.Goals as goal

pub returns-in-Pv1 : goal.returns-in-Pv1
returns-in-Pv1 c =
    let a = c.args in
    rw c.pT2v_reg1.ensures (among (λ pair. region1.pT2v a.p a.T ≡ (row pair).formula a.p a.T) (Pv1 ∷ (Tv1 ∷ [])) a.self c.in-Pv1.is (refl, (refl, tt)))

pub returns-in-Th1 : goal.returns-in-Th1
returns-in-Th1 c = rw c.in-Th1.is c.pT2h_reg1.ensures

pub returns-in-Ts1 : goal.returns-in-Ts1
returns-in-Ts1 c = rw c.in-Ts1.is c.pT2s_reg1.ensures

pub returns-in-Pv2 : goal.returns-in-Pv2
returns-in-Pv2 c =
    let a = c.args in
    rw c.pT2v_reg2.ensures (among (λ pair. region2.pT2v a.p a.T ≡ (row pair).formula a.p a.T) (Pv2 ∷ (Tv2 ∷ [])) a.self c.in-Pv2.is (refl, (refl, tt)))

pub returns-in-Th2 : goal.returns-in-Th2
returns-in-Th2 c = rw c.in-Th2.is c.pT2h_reg2.ensures

pub returns-in-Ts2 : goal.returns-in-Ts2
returns-in-Ts2 c = rw c.in-Ts2.is c.pT2s_reg2.ensures

pub returns-in-Tv5 : goal.returns-in-Tv5
returns-in-Tv5 c = rw c.in-Tv5.is c.pT2v_reg5.ensures

pub returns-in-Th5 : goal.returns-in-Th5
returns-in-Th5 c = rw c.in-Th5.is c.pT2h_reg5.ensures

pub returns-in-Ts5 : goal.returns-in-Ts5
returns-in-Ts5 c = rw c.in-Ts5.is c.pT2s_reg5.ensures
