-- A region that a number names has that number, and a number that names none is no row's. Assumes nothing.
use Prim.Native.Nat.{ℕ}
use mathlib.Core.Path.{◌≡◌, sym, subst}
use mathlib.Core.Bool.{true}
use lib.Dec.{T, eqb, eqb→eq}
use Rattle.std.specs.Prelude.{Option, Some, None}
use Rattle.search.specs.Decision.{None as NoRow}
use Rattle.search.proofs.Searches.{decides}
use Rattle.pairs.specs.Names.{number_of, regions, region_named}
use Rattle.pairs.specs.declared.row.Region.{Region}

-- a row's number is the number that it is of
pub is : (n k : ℕ) → eqb n k ≡ true → k ≡ n
is n k h = sym (eqb→eq n k (subst T (sym h) tt))

abbrev pub Told : ℕ → Option Region → Type 0
Told n (Some region) = number_of region ≡ n
Told n None = NoRow (regions n)

pub region_told : (n : ℕ) → Told n (region_named n)
unfolding region_named
region_told n = decides (Told n) (regions n) None ((λ h. is n 1 h), ((λ h. is n 2 h), ((λ h. is n 5 h), tt))) (λ h. h)
