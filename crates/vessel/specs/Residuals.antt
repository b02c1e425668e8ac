-- The residual columns of a search's answer (document 02, §5), by its reason and its number: an auditor computes them again, by the pair's residual at the ends in the same columns.
use Rattle.std.specs.Prelude.{◌≡◌, ◌⊎◌, cond, Float}
use Rattle.std.specs.Float.Ieee.Scale.{finite}
use Rattle.float.specs.Sign.{nought}
use Rattle.pairs.specs.Residual.{residual}
use Rattle.pairs.specs.declared.question.Question.{Question}
use Rattle.vessel.specs.Answer.{Reason, none, plain, exact_end, small_residual, narrow, Columns}
use Rattle.vessel.specs.Demand.{Early}

-- both columns, each read off the residual at its own end
abbrev pub AtEnds : (Float → Float) → Question → Columns → Type 0
AtEnds told q c = (c.lower_residual ≡ told (residual q c.lower)) × (c.upper_residual ≡ told (residual q c.upper))

abbrev pub itself : Float → Float
itself r = r

-- for 6 a residual that is not finite is 0
abbrev pub or_nought : Float → Float
or_nought r = cond (finite r) r nought

abbrev pub BothNought : Columns → Type 0
BothNought c = (c.lower_residual ≡ nought) × (c.upper_residual ≡ nought)

-- an answer; refusals: 0 and 0 for 11, 1 to 5, 7 and 9 (`Early`), else those of the bracket that is reported
abbrev pub ResidualsBy : Reason → Question → Columns → Type 0
ResidualsBy none q c = (Early c.number × BothNought c) ⊎ ((c.number ≡ 6) × AtEnds or_nought q c) ⊎ (((c.number ≡ 8) ⊎ (c.number ≡ 10)) × AtEnds itself q c)
ResidualsBy plain q c = ⊥
ResidualsBy exact_end q c = AtEnds itself q c
ResidualsBy small_residual q c = AtEnds itself q c
ResidualsBy narrow q c = AtEnds itself q c

abbrev pub Residuals : Question → Columns → Type 0
Residuals q c = ResidualsBy c.reason q c
