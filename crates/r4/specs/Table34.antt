-- Table 34 of the release: the coefficients of the saturation line, Eqs. (29) to (31).
use Rattle.float.specs.Decimal.{+◌, Decimal, plus, less}

abbrev pub n1 : Decimal
n1 = plus 116_705_214_527_67 (+ 4)

abbrev pub n2 : Decimal
n2 = less 724_213_167_032_06 (+ 6)

abbrev pub n3 : Decimal
n3 = less 170_738_469_400_92 (+ 2)

abbrev pub n4 : Decimal
n4 = plus 120_208_247_024_70 (+ 5)

abbrev pub n5 : Decimal
n5 = less 323_255_503_223_33 (+ 7)

abbrev pub n6 : Decimal
n6 = plus 149_151_086_135_30 (+ 2)

abbrev pub n7 : Decimal
n7 = less 482_326_573_615_91 (+ 4)

abbrev pub n8 : Decimal
n8 = plus 405_113_405_420_57 (+ 6)

abbrev pub n9 : Decimal
n9 = less 238_555_575_678_49 (+ 0)

abbrev pub n10 : Decimal
n10 = plus 650_175_348_447_98 (+ 3)
