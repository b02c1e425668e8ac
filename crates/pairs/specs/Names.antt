-- The regions' own numbers 1, 2 and 5, and what a number names: any other one names nothing.
use Rattle.std.specs.Prelude.{ℕ, List, [], ◌∷◌, eqb, Option, Some, None}
use Rattle.search.specs.Decision.{Row, ◌⇒◌, decided}
use Rattle.pairs.specs.declared.row.Region.{Region}
use Rattle.pairs.specs.declared.row.Region.TheVariants.{One, Two, Five}

abbrev pub number_of : Region → ℕ
number_of One = 1
number_of Two = 2
number_of Five = 5

abbrev pub regions : ℕ → List (Row (Option Region))
regions n = (eqb n 1 ⇒ Some One) ∷ ((eqb n 2 ⇒ Some Two) ∷ ((eqb n 5 ⇒ Some Five) ∷ []))

unfoldable pub region_named : ℕ → Option Region
region_named n = decided (regions n) None
