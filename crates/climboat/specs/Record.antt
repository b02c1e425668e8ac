-- A record: the columns of an answer in two arrays of eight, the whole numbers (number, reason, steps, mark, region, kind, property) and the doubles (value, lower end, upper end, the residuals there,
-- first and second input). The last place of each is 0: room that no call needs yet.
use Rattle.std.specs.Prelude.{ℕ, Bool, cond, List, [], ◌∷◌, Float}
use Rattle.float.specs.Sign.{nought}
use Rattle.vessel.specs.Asked.{region_number, kind_number, property_number}
use Rattle.vessel.specs.Answer.{Reason, none, plain, exact_end, small_residual, narrow, Mark, unmarked, inside, outside, columns}
use Rattle.vessel.specs.declared.asked.Asked.{Asked}
use Rattle.vessel.specs.declared.answer.Answer.{Answer}
use Rattle.climboat.specs.declared.record.First.{First}

abbrev pub reason_number : Reason → ℕ
reason_number none = 0
reason_number plain = 1
reason_number exact_end = 2
reason_number small_residual = 3
reason_number narrow = 4

abbrev pub mark_of : Mark → ℕ
mark_of unmarked = 0
mark_of inside = 1
mark_of outside = 2

unfoldable pub mark_number : Bool → ℕ
mark_number b = mark_of (cond b inside outside)

abbrev pub four : ℕ → ℕ → ℕ → ℕ → First
four number reason steps mark = record { number = number; reason = reason; steps = steps; mark = mark }

-- the first four
abbrev pub told : Answer → First
told a = four (columns a).number (reason_number (columns a).reason) (columns a).steps (mark_of (columns a).mark)

abbrev pub whole : First → Asked → List ℕ
whole t a =
    t.number ∷ (t.reason ∷ (t.steps ∷ (t.mark ∷ (region_number a.region ∷ (kind_number a.kind ∷ (property_number a.property ∷ (0 ∷ [])))))))

abbrev pub fractions : Float → Float → Float → Float → Float → Asked → List Float
fractions value lower upper lower_residual upper_residual a =
    value ∷ (lower ∷ (upper ∷ (lower_residual ∷ (upper_residual ∷ (a.first ∷ (a.second ∷ (nought ∷ [])))))))

unfoldable pub numbers : Answer → List ℕ
numbers a = whole (told a) (columns a).asked

unfoldable pub doubles : Answer → List Float
doubles a = fractions (columns a).value (columns a).lower (columns a).upper (columns a).lower_residual (columns a).upper_residual (columns a).asked
