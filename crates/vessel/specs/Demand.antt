-- Demand 3 at the level of the calls, with no premise: what the columns of a search's answer owe, and what the brackets keep that they report. Distances are exact, in units of 2 ^ -1074.
use Rattle.std.specs.Prelude.{ℕ, ◌*◌, ◌≤◌, ◌<◌, ◌≡◌, ◌⊎◌, List, Float}
use Rattle.exact.specs.Operations.{◌⊗◌}
use Rattle.exact.specs.Value.{unit, in_units}
use Rattle.exact.specs.Rounding.{distance}
use Rattle.search.specs.Run.{last, Every}
use Rattle.search.specs.Bisection.{millionth}
use Rattle.search.specs.Search.{ends, brackets}
use Rattle.search.specs.Demand.{Opposite, Zero, Within, Nested, Lies, Enclosed, Small, near}
use Rattle.search.specs.declared.bracket.Bracket.{Bracket}
use Rattle.r4.specs.Ends.{place}
use Rattle.pairs.specs.Residual.{row_of, residual}
use Rattle.pairs.specs.Pairs.{lower_end, upper_end, start}
use Rattle.pairs.specs.declared.question.Question.{Question}
use Rattle.vessel.specs.Answer.{Reason, none, plain, exact_end, small_residual, narrow, Columns, columns}
use Rattle.vessel.specs.Searches.{search as search_of}

-- the refusals before the steps
abbrev pub Early : ℕ → Type 0
Early n = (n ≡ 11) ⊎ (n ≡ 1) ⊎ (n ≡ 2) ⊎ (n ≡ 3) ⊎ (n ≡ 4) ⊎ (n ≡ 9) ⊎ (n ≡ 5) ⊎ (n ≡ 7)

-- the bracket in the columns, with the residuals of its ends
abbrev pub reported : Question → Columns → Bracket
reported q c = ends (residual q) c.lower c.upper

-- it is the starting one
abbrev pub AtStart : Question → Columns → Type 0
AtStart q c = (c.lower ≡ place (lower_end q)) × (c.upper ≡ place (upper_end q))

-- ---- by the reason in the columns
abbrev pub OwesBy : Reason → Question → Columns → Type 0
OwesBy none q c = Early c.number ⊎ (((c.number ≡ 6) ⊎ (c.number ≡ 8) ⊎ (c.number ≡ 10)) × (AtStart q c ⊎ Within (reported q c) (start q)))
OwesBy plain q c = ⊥
OwesBy exact_end q c = ((c.value ≡ place (lower_end q)) ⊎ (c.value ≡ place (upper_end q))) × Zero (residual q c.value) × AtStart q c
OwesBy small_residual q c = Small (row_of q).method (residual q c.value) × Lies (start q) (reported q c) c.value
OwesBy narrow q c = Enclosed (residual q) (start q) (reported q c) c.value (near (row_of q).method (reported q c) c.value)

abbrev pub Owes : Question → Columns → Type 0
Owes q c = OwesBy c.reason q c

-- written out for bisection, of a narrow answer: the ends in its columns, which have opposite residuals, both lie exactly nearer to its value than w, and to each other than a millionth of n units
pub record Nearer (q : Question) (w : Float) (n : ℕ) (c : Columns) : Type 0 where
  pub signs : Opposite (residual q c.lower) (residual q c.upper)
  pub near_lower : distance c.value c.lower < in_units w
  pub near_upper : distance c.value c.upper < in_units w
  pub part : distance c.lower c.upper * 1000000 < n

-- in region 1 (p,v): than 1.0e-6, and than a millionth of 1
abbrev pub PvNearer : Question → Columns → Type 0
PvNearer q c = Nearer q millionth unit c

-- in region 2 (T,v), where p may be low: than 1.0e-6 times the upper end that is reported, as rounded, and than a millionth of that end
abbrev pub TvNearer : Question → Columns → Type 0
TvNearer q c = Nearer q (millionth ⊗ c.upper) (in_units c.upper) c

-- ---- the brackets that a search goes through, the starting one first
abbrev pub brackets_of : Question → ℕ → List Bracket
brackets_of q limit = brackets (row_of q).method (residual q) (start q) limit

-- each lies within the one before, with residuals opposite or one zero; the last is the one in the columns of the answer, and each is in those of the answer under some limit that is no larger
pub record Keeps (q : Question) (limit : ℕ) : Type 0 where
  pub nested : Nested (residual q) (brackets_of q limit)
  pub at_last : reported q (columns (search_of q limit)) ≡ last (start q) (brackets_of q limit)
  pub each : Every (λ b. (k : ℕ) × (k ≤ limit) × (reported q (columns (search_of q k)) ≡ b)) (brackets_of q limit)
