-- The residual of a question in document 01's words. Bisection: (v − v found) / v; Brent: target − found. Found values come from the formulas, without range checks.
use Rattle.std.specs.Prelude.{cond, Float}
use Rattle.exact.specs.Operations.{◌⊖◌, ◌⊘◌}
use Rattle.common.specs.Boundaries.{of_pressures}
use Rattle.search.specs.declared.method.Method.{Method}
use Rattle.search.specs.declared.method.Method.TheVariants.{ByBisection, ByBrent}
use Rattle.pairs.specs.Rows.{PairRow, row}
use Rattle.pairs.specs.declared.question.Question.{Question}
use Rattle.pairs.specs.declared.question.State.{State}

abbrev pub row_of : Question → PairRow
row_of q = row q.pair

-- the state at x: where p is fixed x is T, and where T is fixed x is p
unfoldable pub state_of : Question → Float → State
state_of q x = cond (of_pressures (row_of q).range) (record { p = q.fixed; T = x }) (record { p = x; T = q.fixed })

abbrev pub residual_by : Method → Float → Float → Float
residual_by (ByBisection rule) target found = (target ⊖ found) ⊘ target
residual_by ByBrent target found = target ⊖ found

unfoldable pub residual : Question → Float → Float
residual q x = residual_by (row_of q).method q.target ((row_of q).formula (state_of q x).p (state_of q x).T)
