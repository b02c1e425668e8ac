-- Table 2 of the release: the 34 terms of the dimensionless Gibbs free energy of region 1, Eq. (7). A row: I, J, and n as its sign, the fourteen digits after the point and the power of ten.
use Rattle.std.specs.Prelude.{List, [], ◌∷◌}
use Rattle.float.specs.Decimal.{+◌, −◌, plus, less}
use Rattle.polynomial.specs.Tables.{Printed, printed}

unfoldable pub table : List Printed
table =
    printed (+ 0) (− 2) (plus 146_329_712_131_67 (+ 0))
    ∷ printed (+ 0) (− 1) (less 845_481_871_691_14 (+ 0))
    ∷ printed (+ 0) (+ 0) (less 375_636_036_720_40 (+ 1))
    ∷ printed (+ 0) (+ 1) (plus 338_551_691_683_85 (+ 1))
    ∷ printed (+ 0) (+ 2) (less 957_919_633_878_72 (+ 0))
    ∷ printed (+ 0) (+ 3) (plus 157_720_385_132_28 (+ 0))
    ∷ printed (+ 0) (+ 4) (less 166_164_171_995_01 (− 1))
    ∷ printed (+ 0) (+ 5) (plus 812_146_299_835_68 (− 3))
    ∷ printed (+ 1) (− 9) (plus 283_190_801_238_04 (− 3))
    ∷ printed (+ 1) (− 7) (less 607_063_015_658_74 (− 3))
    ∷ printed (+ 1) (− 1) (less 189_900_682_184_19 (− 1))
    ∷ printed (+ 1) (+ 0) (less 325_297_487_705_05 (− 1))
    ∷ printed (+ 1) (+ 1) (less 218_417_171_754_14 (− 1))
    ∷ printed (+ 1) (+ 3) (less 528_383_579_699_30 (− 4))
    ∷ printed (+ 2) (− 3) (less 471_843_210_732_67 (− 3))
    ∷ printed (+ 2) (+ 0) (less 300_017_807_930_26 (− 3))
    ∷ printed (+ 2) (+ 1) (plus 476_613_939_069_87 (− 4))
    ∷ printed (+ 2) (+ 3) (less 441_418_453_308_46 (− 5))
    ∷ printed (+ 2) (+ 17) (less 726_949_962_975_94 (− 15))
    ∷ printed (+ 3) (− 4) (less 316_796_448_450_54 (− 4))
    ∷ printed (+ 3) (+ 0) (less 282_707_979_853_12 (− 5))
    ∷ printed (+ 3) (+ 6) (less 852_051_281_201_03 (− 9))
    ∷ printed (+ 4) (− 5) (less 224_252_819_080_00 (− 5))
    ∷ printed (+ 4) (− 2) (less 651_712_228_956_01 (− 6))
    ∷ printed (+ 4) (+ 10) (less 143_417_299_379_24 (− 12))
    ∷ printed (+ 5) (− 8) (less 405_169_968_601_17 (− 6))
    ∷ printed (+ 8) (− 11) (less 127_343_017_416_41 (− 8))
    ∷ printed (+ 8) (− 6) (less 174_248_712_306_34 (− 9))
    ∷ printed (+ 21) (− 29) (less 687_621_312_955_31 (− 18))
    ∷ printed (+ 23) (− 31) (plus 144_783_078_285_21 (− 19))
    ∷ printed (+ 29) (− 38) (plus 263_357_816_627_95 (− 22))
    ∷ printed (+ 30) (− 39) (less 119_476_226_400_71 (− 22))
    ∷ printed (+ 31) (− 40) (plus 182_280_945_814_04 (− 23))
    ∷ printed (+ 32) (− 41) (less 935_370_872_924_58 (− 25))
    ∷ []
