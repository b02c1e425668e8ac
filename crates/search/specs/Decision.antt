-- A decision list: rows in document 01's order, each a test and what is given if it holds and no earlier one does.
use Rattle.std.specs.Prelude.{◌≡◌, Bool, false, cond, List, [], ◌∷◌}

pub data Row (A : Type 0) : Type 0 where
  ◌⇒◌ : Bool → A → Row A

infixl 20 ◌⇒◌
abbrev pub decided : {A : Type 0} → List (Row A) → A → A
decided [] rest = rest
decided ((test ⇒ a) ∷ rows) rest = cond test a (decided rows rest)

-- no row holds, so that what follows the list is given
abbrev pub None : {A : Type 0} → List (Row A) → Type 0
None [] = Prim.Unit {0}
None ((test ⇒ a) ∷ rows) = (test ≡ false) × None rows
