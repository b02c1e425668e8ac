-- Table 37 of the release: the six terms of the ideal-gas part of region 5, Eq. (33). A row: J twice (the part has one power), and n as its sign, the fourteen digits after the point and the power of ten.
use Rattle.std.specs.Prelude.{List, [], ◌∷◌}
use Rattle.float.specs.Decimal.{+◌, −◌, plus, less}
use Rattle.polynomial.specs.Tables.{Printed, printed}

unfoldable pub table : List Printed
table =
    printed (+ 0) (+ 0) (less 131_799_836_742_01 (+ 2))
    ∷ printed (+ 1) (+ 1) (plus 685_408_416_344_34 (+ 1))
    ∷ printed (− 3) (− 3) (less 248_051_489_334_66 (− 1))
    ∷ printed (− 2) (− 2) (plus 369_015_349_803_33 (+ 0))
    ∷ printed (− 1) (− 1) (less 311_613_182_139_25 (+ 1))
    ∷ printed (+ 2) (+ 2) (less 329_616_265_389_17 (+ 0))
    ∷ []
