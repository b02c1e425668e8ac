-- "Given exactly when" of document 01's table, over any decision list: a number comes from the first row that holds, or from what follows the list if none does.
use Rattle.std.specs.Prelude.{ℕ, ◌≡◌, ◌⊎◌, true, false, List, [], ◌∷◌}
use Rattle.common.specs.Causes as causes
use Rattle.search.specs.declared.bracket.Outcome.{Outcome}
use Rattle.search.specs.declared.bracket.Outcome.TheVariants.{ExactEnd, SmallResidual, Narrow, Refused}
use Rattle.search.specs.Decision.{Row, ◌⇒◌}
use Rattle.vessel.specs.Answer.{columns}
use Rattle.vessel.specs.declared.answer.Answer.{Answer}

-- `number` reads the number of what a row gives
abbrev pub Given : {A : Type 0} → (A → ℕ) → ℕ → List (Row A) → A → Type 0
Given number n [] rest = number rest ≡ n
Given number n ((test ⇒ a) ∷ rows) rest = ((test ≡ true) × (number a ≡ n)) ⊎ ((test ≡ false) × Given number n rows rest)

-- a number is given if and only if its row holds and no earlier one does
pub record Exactly {A : Type 0} (number : A → ℕ) (given n : ℕ) (rows : List (Row A)) (rest : A) : Type 0 where
  pub only_if : given ≡ n → Given number n rows rest
  pub whenever : Given number n rows rest → given ≡ n

-- document 01's number, of an answer and of an outcome: 0 for an answer
abbrev pub number_of : Answer → ℕ
number_of a = (columns a).number

abbrev pub number_in : Outcome → ℕ
number_in (ExactEnd x b) = 0
number_in (SmallResidual x n b) = 0
number_in (Narrow x n b) = 0
number_in (Refused k x n b) = causes.number_of k
