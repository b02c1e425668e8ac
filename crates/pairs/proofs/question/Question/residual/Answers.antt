-- `pairs::question::Question::residual` meets its contract: by the search, at what the formula gives at the state. Assumes nothing.
use mathlib.Core.Path.{◌≡◌, ◌∙◌, ap}
use Rattle.pairs.specs.Residual.{row_of, state_of, residual}
use Rattle.pairs.specs.declared.question.State.{State}
use Rattle.pairs.proofs.question.Question.residual.Goals as goal
use Rattle.pairs.proofs.question.Question.residual.Goals.{After-formula-found}

-- what is found
found : (c : After-formula-found) → c.formula-found.result ≡ (row_of c.args.self).formula (state_of c.args.self c.args.x).p (state_of c.args.self c.args.x).T
found c = c.formula-found.ensures ∙ ap (λ (s : State). (row_of c.args.self).formula s.p s.T) c.state-state.ensures

pub returns-in-ByBisection : goal.returns-in-ByBisection
unfolding residual
returns-in-ByBisection c = rw (← found (goal.at.returns-in-ByBisection c).After-formula-found, ← c.method-method.ensures, c.in-ByBisection.is)

pub returns-in-ByBrent : goal.returns-in-ByBrent
unfolding residual
returns-in-ByBrent c = rw (← found (goal.at.returns-in-ByBrent c).After-formula-found, ← c.method-method.ensures, c.in-ByBrent.is)
