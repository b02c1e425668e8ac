-- `r4::region4_sat_pT::surely_above` meets its contract: where it says yes, all its tests held. Assumes nothing.
use mathlib.Core.Path.{sym, ◌∙◌}
use lib.Ieee.{of_bits, neg}
use Rattle.exact.specs.Operations.{◌⊗◌}
use Rattle.float.specs.Decimal.{rounded}
use Rattle.r4.specs.Saturation.{two}
use Rattle.r4.proofs.Above.{Tested, of_true, above_the_line}
use Rattle.r4.proofs.region4_sat_pT.surely_above.Goals as goal

pub returns-then-bound : goal.returns-then-bound
unfolding rounded of_bits neg
returns-then-bound c e =
    let line = c.at-line.result in
    let tests : Tested (neg line.bco) c.square-square.result c.root_guess-root.result (two ⊗ line.cco) = record {
      square_above = of_true c.if-low.true;
      square_below = of_true (assumption c);
      x_below = of_true c.if-square.true;
      sum-above = of_true c.if-bottom.true;
      sum_below = of_true c.if-bottom-2.true;
      t_above = of_true c.if-top.true;
      t_below = of_true c.if-top-2.true;
      quotient_below = of_true c.if-bound.true;
    } in
    above_the_line c.args.T c.args.p c.root_guess-root.result
    (of_true (sym c.contains.ensures ∙ c.if-contains.true))
    (of_true c.well_formed.0.1)
    (of_true c.root_guess-root.type_inv)
    (rw (c.square-square.ensures, c.at-line.ensures) at tests)
    (of_true (rw (c.powi.ensures, c.at-line.ensures) at e))
