-- The eight pairs of document 01 and the three of region 5 (document 02, §2), one row each: its region, the range of the input that is fixed (of pressures or of temperatures), whether the target is a volume, "Brackets" (the lower and the upper
-- end, from the fixed input), the formula that is found, and the search with its narrow rule, of Tv2 the one of document 02, §4. The Rust has them as pv2T_reg1, Tv2p_reg1, Th2p_reg1, Ts2p_reg1 pv2T_reg2 to Ts2p_reg2, and Tv2p_reg5 to Ts2p_reg5.
use Rattle.std.specs.Prelude.{Bool, true, false, Option, Float}
use Rattle.common.specs.Constant.{T_least, T_1073, p_least, p_50, p_most}
use Rattle.common.specs.declared.boundaries.Range.{Range}
use Rattle.common.specs.declared.boundaries.Range.TheVariants.{T1, P1, T2, P2, T5}
use Rattle.r1.specs.Region1 as region1
use Rattle.r2.specs.Region2 as region2
use Rattle.r5.specs.Region5 as region5
use Rattle.search.specs.declared.bisection.Width.TheVariants.{Millionth, MillionthOfUpper}
use Rattle.search.specs.declared.method.Method.{Method}
use Rattle.search.specs.declared.method.Method.TheVariants.{ByBisection, ByBrent}
use Rattle.r4.specs.Ends.{always, p_lowest_1, T_most_1, T_least_2, p_most_2}
use Rattle.pairs.specs.declared.row.Region.{Region}
use Rattle.pairs.specs.declared.row.Region.TheVariants.{One, Two, Five}
use Rattle.pairs.specs.declared.row.Pair.{Pair}
use Rattle.pairs.specs.declared.row.Pair.TheVariants.{Pv1, Tv1, Th1, Ts1, Pv2, Tv2, Th2, Ts2, Tv5, Th5, Ts5}

pub record PairRow : Type 0 where
  pub region : Region
  pub range : Range
  pub volume : Bool
  pub lower : Float → Option Float
  pub upper : Float → Option Float
  pub formula : Float → Float → Float
  pub method : Method

abbrev pub row : Pair → PairRow
row Pv1 = record { region = One; range = P1; volume = true; lower = always T_least; upper = T_most_1; formula = region1.pT2v; method = ByBisection Millionth }
row Tv1 = record { region = One; range = T1; volume = true; lower = p_lowest_1; upper = always p_most; formula = region1.pT2v; method = ByBrent }
row Th1 = record { region = One; range = T1; volume = false; lower = p_lowest_1; upper = always p_most; formula = region1.pT2h; method = ByBrent }
row Ts1 = record { region = One; range = T1; volume = false; lower = p_lowest_1; upper = always p_most; formula = region1.pT2s; method = ByBrent }
row Pv2 = record { region = Two; range = P2; volume = true; lower = T_least_2; upper = always T_1073; formula = region2.pT2v; method = ByBrent }
row Tv2 = record { region = Two; range = T2; volume = true; lower = always p_least; upper = always p_most; formula = region2.pT2v; method = ByBisection MillionthOfUpper }
row Th2 = record { region = Two; range = T2; volume = false; lower = always p_least; upper = always p_most; formula = region2.pT2h; method = ByBrent }
row Ts2 = record { region = Two; range = T2; volume = false; lower = always p_least; upper = p_most_2; formula = region2.pT2s; method = ByBrent }
row Tv5 = record { region = Five; range = T5; volume = true; lower = always p_least; upper = always p_50; formula = region5.pT2v; method = ByBrent }
row Th5 = record { region = Five; range = T5; volume = false; lower = always p_least; upper = always p_50; formula = region5.pT2h; method = ByBrent }
row Ts5 = record { region = Five; range = T5; volume = false; lower = always p_least; upper = always p_50; formula = region5.pT2s; method = ByBrent }
