-- `polynomial::poly_powi_steps` meets its contract: the first component is its own sum. Assumes nothing.
use Rattle.polynomial.proofs.Components.{direct_sums}
use Rattle.polynomial.proofs.poly_powi_steps.Goals as goal

pub returns : goal.returns
returns g c =
    let a = c.args in
    rw (c.tiles-s.ensures, c.none.ensures) (direct_sums a.vi.now a.vj.now a.table.now g.I.Derived.order g.J.Derived.order)
