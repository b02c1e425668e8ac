-- `pairs::pair::between` meets its contract: 5, the ends evaluated, the opening, and the steps. Assumes nothing.
use Prim.Native.Nat.{ℕ}
use mathlib.Core.Path.{◌≡◌, sym}
use mathlib.Core.Bool.{true}
use lib.Ieee.{Float, lt}
use Rattle.search.specs.Search as search
use Rattle.search.specs.Search.{end_rows, opened, searched, ends}
use Rattle.search.proofs.Searches.{opening}
use Rattle.pairs.specs.Residual.{residual}
use Rattle.pairs.specs.Pairs.{steps, between}
use Rattle.pairs.specs.declared.question.Question.{Question}
use Rattle.pairs.proofs.pair.between.Goals as goal

-- where the ends are in order, the list that decides is what the code goes through
through : (q : Question) (low high : Float) (limit : ℕ) → lt low high ≡ true → between q low high limit ≡ searched (λ b. steps q b limit) (opened (ends (residual q) low high))
unfolding between search.between steps opened
through q low high limit h = rw h (sym (opening (end_rows (ends (residual q) low high)) (ends (residual q) low high) (λ b. steps q b limit)))

pub returns-in-Break : goal.returns-in-Break
returns-in-Break c =
    let a = c.args in
    rw (through a.question a.low a.high a.limit c.if-low-high.true, ← c.residual-r1.ensures, ← c.residual-r2.ensures, ← c.opened.ensures, c.in-Break.is)

pub returns-in-Continue : goal.returns-in-Continue
returns-in-Continue c =
    let a = c.args in
    rw (through a.question a.low a.high a.limit c.if-low-high.true, ← c.residual-r1.ensures, ← c.residual-r2.ensures, ← c.opened.ensures, c.in-Continue.is)
    c.steps.ensures

pub returns-else-low-high : goal.returns-else-low-high
unfolding between search.between
returns-else-low-high c = rw c.if-low-high.false c.refused.ensures
