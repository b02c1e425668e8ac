-- A whole log at once (document 02, §1): p in one lent run, T in another; one call fills two more with the value and the number of the single call at every place. If the four lengths differ, or exceed
-- 4,096, nothing is written and 13 comes back.
use Rattle.std.specs.Prelude.{ℕ, ◌≤◌, ◌<◌, ◌≡◌, Bool, cond, ◌&&◌, List, [], ◌∷◌, eqb, leb, Result, Ok, Err, ⊤, Float, length, get_or}
use Rattle.float.specs.Sign.{nought}
use Rattle.common.specs.declared.cause.Cause.{Cause}
use Rattle.common.specs.declared.cause.Cause.TheVariants.{RunsUnfit}
use Rattle.vessel.specs.Answer.{Columns, columns}
use Rattle.vessel.specs.Calls.{property}
use Rattle.vessel.specs.declared.answer.Answer.{Answer}
use Rattle.vessel.specs.declared.log.Reading.{Reading}
use Rattle.vessel.specs.declared.property.Property.{Property}
use Rattle.pairs.specs.declared.row.Region.{Region}

-- the four runs as they are lent
pub record Runs : Type 0 where
  pub p : List Float
  pub T : List Float
  pub values : List Float
  pub numbers : List ℕ

-- a name for a contract to use
abbrev pub lent : List Float → List Float → List Float → List ℕ → Runs
lent p T values numbers = record { p = p; T = T; values = values; numbers = numbers }

-- what comes back, and the two runs as they are left
pub record Logged : Type 0 where
  pub back : Result ⊤ Cause
  pub values : List Float
  pub numbers : List ℕ

-- the four lengths are one, and at most 4,096
unfoldable pub together : ℕ → ℕ → ℕ → ℕ → Bool
together p T values numbers = leb p 4096 && (eqb T p && (eqb values p && eqb numbers p))

abbrev pub fits : Runs → Bool
fits runs = together (length runs.p) (length runs.T) (length runs.values) (length runs.numbers)

-- what a log keeps of an answer: two of its columns
abbrev pub reading_of : Answer → Reading
reading_of a = record { number = (columns a).number; value = (columns a).value }

-- a column of the single call's answers, place by place
abbrev pub column : {A : Type 0} → (Columns → A) → (Float → Float → Answer) → List Float → List Float → List A
column of single [] Ts = []
column of single (p ∷ ps) [] = []
column of single (p ∷ ps) (T ∷ Ts) = of (columns (single p T)) ∷ column of single ps Ts

abbrev pub filled : (Float → Float → Answer) → Runs → Logged
filled single runs =
    record {
      back = Ok tt;
      values = column (λ c. c.value) single runs.p runs.T;
      numbers = column (λ c. c.number) single runs.p runs.T;
    }

-- both runs are what they were
abbrev pub unwritten : Cause → Runs → Logged
unwritten cause runs = record { back = Err cause; values = runs.values; numbers = runs.numbers }

unfoldable pub log : Region → Property → Runs → Logged
log region q runs = cond (fits runs) (filled (property region q) runs) (unwritten RunsUnfit runs)

-- ---- for an auditor: the test in plain words, and what a log says place by place (proofs/Places.antt)
pub record Together (runs : Runs) : Type 0 where
  pub at_most : length runs.p ≤ 4096
  pub T_as_p : length runs.T ≡ length runs.p
  pub values_as_p : length runs.values ≡ length runs.p
  pub numbers_as_p : length runs.numbers ≡ length runs.p

-- the outcome for every four lengths
pub record Complete (region : Region) (q : Property) (runs : Runs) : Type 0 where
  pub fills : Together runs → log region q runs ≡ filled (property region q) runs
  pub leaves : (Together runs → ⊥) → log region q runs ≡ unwritten RunsUnfit runs

-- the single call at place k
abbrev pub single_at : Region → Property → Runs → ℕ → Columns
single_at region q runs k = columns (property region q (get_or runs.p k nought) (get_or runs.T k nought))

-- place k of a log holds these columns
pub record HoldsAt (k : ℕ) (logged : Logged) (c : Columns) : Type 0 where
  pub the_value : get_or logged.values k nought ≡ c.value
  pub the_number : get_or logged.numbers k 0 ≡ c.number

-- two logs that have place k and agree there, whatever they hold elsewhere and however long they are
pub record AgreeAt (k : ℕ) (a b : Runs) : Type 0 where
  pub in_a : k < length a.p
  pub in_b : k < length b.p
  pub same_p : get_or a.p k nought ≡ get_or b.p k nought
  pub same_T : get_or a.T k nought ≡ get_or b.T k nought

-- they read the same there
pub record SameAt (k : ℕ) (a b : Logged) : Type 0 where
  pub same_value : get_or a.values k nought ≡ get_or b.values k nought
  pub same_number : get_or a.numbers k 0 ≡ get_or b.numbers k 0
