-- Table 38 of the release: the six terms of the residual part of region 5, Eq. (34). A row: I, J, and n as its sign, the fourteen digits after the point and the power of ten.
use Rattle.std.specs.Prelude.{List, [], ◌∷◌}
use Rattle.float.specs.Decimal.{+◌, −◌, plus, less}
use Rattle.polynomial.specs.Tables.{Printed, printed}

unfoldable pub table : List Printed
table =
    printed (+ 1) (+ 1) (plus 157_364_048_552_59 (− 2))
    ∷ printed (+ 1) (+ 2) (plus 901_537_616_739_44 (− 3))
    ∷ printed (+ 1) (+ 3) (less 502_700_776_776_48 (− 2))
    ∷ printed (+ 2) (+ 3) (plus 224_400_374_094_85 (− 5))
    ∷ printed (+ 2) (+ 9) (less 411_632_754_534_71 (− 5))
    ∷ printed (+ 3) (+ 7) (plus 379_194_548_229_55 (− 7))
    ∷ []
