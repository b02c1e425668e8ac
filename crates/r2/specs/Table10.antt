-- Table 10 of the release: the nine terms of the ideal-gas part of region 2, Eq. (16). A row: J twice (the part has one power), and n as its sign, the fourteen digits after the point and the power of ten.
use Rattle.std.specs.Prelude.{List, [], ◌∷◌}
use Rattle.float.specs.Decimal.{+◌, −◌, plus, less}
use Rattle.polynomial.specs.Tables.{Printed, printed}

unfoldable pub table : List Printed
table =
    printed (+ 0) (+ 0) (less 969_276_865_002_17 (+ 1))
    ∷ printed (+ 1) (+ 1) (plus 100_866_559_680_18 (+ 2))
    ∷ printed (− 5) (− 5) (less 560_879_112_830_20 (− 2))
    ∷ printed (− 4) (− 4) (plus 714_527_380_814_55 (− 1))
    ∷ printed (− 3) (− 3) (less 407_104_982_239_28 (+ 0))
    ∷ printed (− 2) (− 2) (plus 142_408_191_714_44 (+ 1))
    ∷ printed (− 1) (− 1) (less 438_395_113_194_50 (+ 1))
    ∷ printed (+ 2) (+ 2) (less 284_086_324_607_72 (+ 0))
    ∷ printed (+ 3) (+ 3) (plus 212_684_637_533_07 (− 1))
    ∷ []
