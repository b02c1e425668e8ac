-- What an arm that names several pairs is told: the pair is one of theirs, so what holds of each of them holds of the pair. By induction on the arm's pairs. Assumes nothing.
use mathlib.Core.Path.{◌≡◌, sym, subst}
use mathlib.Core.Logic.{◌⊎◌, inl, inr}
use mathlib.Core.List.{List, [], ◌∷◌}
use Rattle.pairs.specs.declared.row.Pair.{Pair}

-- the pair is one of these, as an arm says it
abbrev pub OneOf : Pair → List Pair → Type 0
OneOf pair [] = ⊥
OneOf pair (p ∷ []) = pair ≡ p
OneOf pair (p ∷ (q ∷ pairs)) = (pair ≡ p) ⊎ OneOf pair (q ∷ pairs)

abbrev pub Each : (Pair → Type 0) → List Pair → Type 0
Each P [] = Prim.Unit {0}
Each P (p ∷ pairs) = P p × Each P pairs

pub among : (P : Pair → Type 0) (pairs : List Pair) (pair : Pair) → OneOf pair pairs → Each P pairs → P pair
among P [] pair h e = absurd h
among P (p ∷ []) pair h e = subst P (sym h) e.0
among P (p ∷ (q ∷ pairs)) pair (inl h) e = subst P (sym h) e.0
among P (p ∷ (q ∷ pairs)) pair (inr h) e = among P (q ∷ pairs) pair h e.1
