-- Patience (document 02, §10) of any search, as a function of its step limit: the outcome that a larger limit may change, the least limit that is enough for the others, and what is given under every
-- limit. Definitions only.
use Rattle.std.specs.Prelude.{ℕ, ◌+◌, ◌≤◌, ◌<◌, ◌≡◌, ◌⊎◌, cond, eqb}
use Rattle.common.specs.Causes.{number_of}
use Rattle.search.specs.declared.bracket.Outcome.{Outcome}
use Rattle.search.specs.declared.bracket.Outcome.TheVariants.{ExactEnd, SmallResidual, Narrow, Refused}
use Rattle.search.specs.declared.method.Method.{Method}
use Rattle.search.specs.declared.method.Method.TheVariants.{ByBisection, ByBrent}

-- ---- what is read off an outcome
-- one that a larger limit may change: 8
abbrev pub Spent : Outcome → Type 0
Spent (ExactEnd v b) = ⊥
Spent (SmallResidual v n b) = ⊥
Spent (Narrow v n b) = ⊥
Spent (Refused cause v n b) = number_of cause ≡ 8

abbrev pub steps_of : Outcome → ℕ
steps_of (ExactEnd v b) = 0
steps_of (SmallResidual v n b) = n
steps_of (Narrow v n b) = n
steps_of (Refused cause v n b) = n

-- ---- the least limit that is enough for an outcome
-- what an answer takes beyond its steps: bisection stops in its last step; Brent's search tests the limit before it stops
abbrev pub beyond : Method → ℕ
beyond (ByBisection rule) = 0
beyond ByBrent = 1

-- an exact end takes no step; 6 is given in the step that fails, and 10 before one that is not taken
abbrev pub enough : ℕ → Outcome → ℕ
enough more (ExactEnd v b) = 0
enough more (SmallResidual v n b) = n + more
enough more (Narrow v n b) = n + more
enough more (Refused cause v n b) = n + cond (eqb (number_of cause) 10) 1 0

-- ---- what was given under one limit and is not 8: the same under every allowed limit that is enough for it, and under every smaller one 8, after as many steps as that allows
pub record Counted {O : Type 0} (Allowed : ℕ → Type 0) (least steps : O → ℕ) (Eight : O → Type 0) (given : ℕ → O) (limit : ℕ) : Type 0 where
  pub settled : Eight (given limit) → ⊥
  pub held : least (given limit) ≤ limit
  pub same : (k : ℕ) → least (given limit) ≤ k → Allowed k → given k ≡ given limit
  pub smaller : (k : ℕ) → k < least (given limit) → Eight (given k) × (steps (given k) ≡ k)

-- under each allowed limit: 8, after as many steps as it allows, or what is counted
abbrev pub CountedUnder : {O : Type 0} → (ℕ → Type 0) → (O → ℕ) → (O → ℕ) → (O → Type 0) → (ℕ → O) → Type 0
CountedUnder Allowed least steps Eight given = (limit : ℕ) → Allowed limit → (Eight (given limit) × (steps (given limit) ≡ limit)) ⊎ Counted Allowed least steps Eight given limit

-- of a search under any limits, with what its answers take beyond their steps
abbrev pub Counts : ℕ → (ℕ → Outcome) → Type 0
Counts more given = CountedUnder (λ k. Prim.Unit {0}) (enough more) steps_of Spent given
