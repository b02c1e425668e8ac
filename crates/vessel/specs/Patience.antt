-- More patience changes nothing (document 02, §10), at the calls that search: `answer` is one of them with all its arguments but the step limit. An answer is told whole, so that each of its columns is
-- the same where it is. Definitions only.
use Rattle.std.specs.Prelude.{ℕ, ◌+◌, ◌≤◌, ◌≡◌, cond, eqb}
use Rattle.search.specs.Patience.{CountedUnder}
use Rattle.vessel.specs.Answer.{Reason, none, plain, exact_end, small_residual, narrow, Columns, columns}
use Rattle.vessel.specs.Searches.{largest_limit}
use Rattle.vessel.specs.declared.answer.Answer.{Answer}

-- a limit that is not refused by 11
abbrev pub Allowed : ℕ → Type 0
Allowed limit = limit ≤ largest_limit

-- 8, which a larger limit may change
abbrev pub Spent : Answer → Type 0
Spent a = (columns a).number ≡ 8

-- of two allowed limits, the smaller first: an answer under the first, or a refusal other than 8, is the same under the second
abbrev pub Patient : (ℕ → Answer) → Type 0
Patient answer = (limit larger : ℕ) → limit ≤ larger → Allowed larger → (Spent (answer limit) → ⊥) → answer larger ≡ answer limit

-- ---- the steps are a promise
-- the least limit that is enough, with what a found value takes beyond its steps: 0 by bisection, which stops in its last step; 1 by Brent's search, which tests the limit before it stops. An exact end
-- takes none; 6 is given in the step that fails, 10 before one that is not taken, and the refusals before the steps have 0 of them
abbrev pub enough_by : Reason → ℕ → Columns → ℕ
enough_by none more c = c.steps + cond (eqb c.number 10) 1 0
enough_by plain more c = 0
enough_by exact_end more c = 0
enough_by small_residual more c = c.steps + more
enough_by narrow more c = c.steps + more

abbrev pub enough : ℕ → Answer → ℕ
enough more a = enough_by (columns a).reason more (columns a)

-- under each allowed limit there is 8, after as many steps as it allows, or what is the same under every allowed limit that is enough for it, and under every smaller one 8 likewise
abbrev pub Counts : ℕ → (ℕ → Answer) → Type 0
Counts more answer = CountedUnder Allowed (enough more) (λ a. (columns a).steps) Spent answer
