-- A search as a run: from a state a turn stops with an outcome or goes on to the next state; after the last step allowed the run is spent.
use Rattle.std.specs.Prelude.{ℕ, zero, suc, ◌+◌, List, [], ◌∷◌}
use Rattle.std.specs.declared.ops.ControlFlow.{ControlFlow}
use Rattle.std.specs.declared.ops.ControlFlow.TheVariants.{Continue, Break}

abbrev pub after : {O S : Type 0} → ControlFlow O S → (S → O) → O
after (Break o) rest = o
after (Continue c) rest = rest c

-- the run from the state s, after n steps, with k steps left
unfoldable pub run_from : {O S : Type 0} → (S → ℕ → ControlFlow O S) → (S → ℕ → O) → ℕ → S → ℕ → O
run_from next spent zero s n = spent s n
run_from next spent (suc k) s n = after (next s n) (λ c. run_from next spent k c (n + 1))

-- the states that it goes through, the first one first
abbrev pub onward : {O S : Type 0} → ControlFlow O S → (S → List S) → List S
onward (Break o) rest = []
onward (Continue c) rest = rest c

unfoldable pub states_from : {O S : Type 0} → (S → ℕ → ControlFlow O S) → ℕ → S → ℕ → List S
states_from next zero s n = s ∷ []
states_from next (suc k) s n = s ∷ onward (next s n) (λ c. states_from next k c (n + 1))

-- ---- of a list: the last one, where it begins with a; and what is true of every one
abbrev pub last : {A : Type 0} → A → List A → A
last a [] = a
last a (b ∷ rest) = last b rest

abbrev pub Every : {A : Type 0} → (A → Type 0) → List A → Type 0
Every P [] = Prim.Unit {0}
Every P (a ∷ rest) = P a × Every P rest
