-- Table 1 of the release: the coefficients of the boundary between regions 2 and 3, Eqs. (5) and (6).
use Rattle.float.specs.Decimal.{+◌, −◌, Decimal, plus, less}

abbrev pub n1 : Decimal
n1 = plus 348_051_856_289_69 (+ 3)

abbrev pub n2 : Decimal
n2 = less 116_718_598_799_75 (+ 1)

abbrev pub n3 : Decimal
n3 = plus 101_929_700_393_26 (− 2)

abbrev pub n4 : Decimal
n4 = plus 572_544_598_627_46 (+ 3)

abbrev pub n5 : Decimal
n5 = plus 139_188_397_788_70 (+ 2)
