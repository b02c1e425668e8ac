-- A table by columns, its parts, and the test that is made once over it: the range of its exponents.
use Rattle.std.specs.Prelude.{ℕ, ◌-◌, ◌≡◌, Bool, true, ◌&&◌, List, [], ◌∷◌, map, T, length, take, drop, ℤ, Float}
use Rattle.std.specs.Int.Signed.{le_z}
use Rattle.float.specs.Decimal.{+◌, −◌, Decimal, rounded}
use Rattle.polynomial.specs.Terms.{Row, row}

-- three columns as a table, as long as the shortest
unfoldable pub rows : List ℤ → List ℤ → List Float → List Row
rows [] js ns = []
rows (i ∷ is) [] ns = []
rows (i ∷ is) (j ∷ js) [] = []
rows (i ∷ is) (j ∷ js) (n ∷ ns) = row i j n ∷ rows is js ns

-- the rows from a up to e
abbrev pub part : {A : Type 0} → ℕ → ℕ → List A → List A
part a e rs = take (e - a) (drop a rs)

-- the exponents of the tables, so that those less 2 are from -43 to 58
abbrev pub in_range : ℤ → Bool
in_range k = le_z (− 41) k && le_z k (+ 58)

unfoldable pub all_in_range : List ℤ → Bool
all_in_range [] = true
all_in_range (k ∷ ks) = in_range k && all_in_range ks

-- what the sums ask of a table: columns of one length, exponents in range
pub record Columns (is js : List ℤ) (ns : List Float) : Type 0 where
  pub firsts : T (all_in_range is)
  pub seconds : T (all_in_range js)
  pub as_long_j : length js ≡ length is
  pub as_long_n : length ns ≡ length is

-- ---- a table as a document prints it: exponents and exact decimals
pub data Printed : Type 0 where
  printed : ℤ → ℤ → Decimal → Printed

abbrev pub as_row : Printed → Row
as_row (printed I J n) = row I J (rounded n)

-- each coefficient rounded once to a double
abbrev pub doubles : List Printed → List Row
doubles table = map as_row table
