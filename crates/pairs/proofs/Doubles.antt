-- The ends of every pair are doubles wherever they are not missing: a constant, or read off a line. By the rows. Assumes nothing.
use lib.Ieee.{fits}
use Rattle.float.specs.Decimal.{rounded}
use Rattle.r4.proofs.Doubles.{Doubled, lowest_1_double, most_1_double, least_2_double, most_2_double}
use Rattle.pairs.specs.Rows.{row}
use Rattle.pairs.specs.Pairs.{lower_end, upper_end}
use Rattle.pairs.specs.declared.row.Pair.{Pair}
use Rattle.pairs.specs.declared.row.Pair.TheVariants.{Pv1, Tv1, Th1, Ts1, Pv2, Tv2, Th2, Ts2, Tv5, Th5, Ts5}
use Rattle.pairs.specs.declared.question.Question.{Question}

pub lower-double : (q : Question) → Doubled (lower_end q)
unfolding rounded fits
lower-double q = by q.pair
  where
    by : (pair : Pair) → Doubled ((row pair).lower q.fixed)
    by Pv1 = λ m. tt
    by Tv1 = lowest_1_double q.fixed
    by Th1 = lowest_1_double q.fixed
    by Ts1 = lowest_1_double q.fixed
    by Pv2 = least_2_double q.fixed
    by Tv2 = λ m. tt
    by Th2 = λ m. tt
    by Ts2 = λ m. tt
    by Tv5 = λ m. tt
    by Th5 = λ m. tt
    by Ts5 = λ m. tt

pub upper-double : (q : Question) → Doubled (upper_end q)
unfolding rounded fits
upper-double q = by q.pair
  where
    by : (pair : Pair) → Doubled ((row pair).upper q.fixed)
    by Pv1 = most_1_double q.fixed
    by Tv1 = λ m. tt
    by Th1 = λ m. tt
    by Ts1 = λ m. tt
    by Pv2 = λ m. tt
    by Tv2 = λ m. tt
    by Th2 = λ m. tt
    by Ts2 = most_2_double q.fixed
    by Tv5 = λ m. tt
    by Th5 = λ m. tt
    by Ts5 = λ m. tt
