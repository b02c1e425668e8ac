-- More patience changes nothing, and the steps are a promise: one theorem over all pairs, of whatever inputs, and by the name of each call. An outcome is told as an answer without the limit, the rows
-- behind that of 11 read no limit and take no step, and what follows them is a search between two ends, whose steps count. Assumes nothing.
use Prim.Native.Nat.{ℕ, ◌≤◌, ◌<◌}
use native.Mathlib.Nat.{le_of_lt, le_trans}
use native.Mathlib.Omega.{arith}
use mathlib.Core.Path.{◌≡◌, refl, sym, ap, ◌∙◌, subst}
use mathlib.Core.Logic.{inl, inr}
use mathlib.Core.Bool.{Bool, true, false, cond}
use mathlib.Core.List.{List}
use lib.Dec.{leb, le→leb}
use lib.ListN.{take, drop}
use lib.Ieee.{Float}
use lib.Ieee.Bits.{is_true}
use Rattle.common.specs.Boundaries.{of_pressures, cause_of}
use Rattle.common.specs.Causes.{number_of}
use Rattle.common.specs.declared.cause.Cause.{Cause}
use Rattle.common.specs.declared.cause.Cause.TheVariants.{TemperatureOutOfRange, PressureOutOfRange}
use Rattle.common.specs.declared.boundaries.Range.{Range}
use Rattle.search.specs.Decision.{Row, decided}
use Rattle.search.specs.Search as search
use Rattle.search.specs.Search.{refused}
use Rattle.search.specs.Patience as outcomes
use Rattle.search.specs.Patience.{beyond}
use Rattle.search.specs.declared.bracket.Outcome.{Outcome}
use Rattle.search.specs.declared.bracket.Outcome.TheVariants.{ExactEnd, SmallResidual, Narrow, Refused}
use Rattle.search.proofs.Patience.{decided_counts, between_counts}
use Rattle.r4.specs.Ends.{place}
use Rattle.pairs.specs.Residual.{row_of, residual}
use Rattle.pairs.specs.Pairs.{asks, steps, lower_end, upper_end}
use Rattle.pairs.specs.declared.row.Region.{Region}
use Rattle.pairs.specs.declared.row.Region.TheVariants.{One, Two, Five}
use Rattle.pairs.specs.declared.row.Pair.TheVariants.{Pv1, Tv1, Th1, Ts1, Pv2, Tv2, Th2, Ts2, Tv5, Th5, Ts5}
use Rattle.pairs.specs.declared.question.Question.{Question}
use Rattle.vessel.specs.Answer.{columns, answered, value_of}
use Rattle.vessel.specs.Searches.{largest_limit, checks, outcome, mark, asked, search as search_of, pv2T, Tv2p, Th2p, Ts2p}
use Rattle.vessel.specs.Patience.{Allowed, Spent, Patient, enough, Counts}
use Rattle.vessel.specs.declared.answer.Answer.{Answer}
use Rattle.vessel.specs.declared.pair.PvRegion.{PvRegion}
use Rattle.vessel.specs.declared.pair.PvRegion.TheVariants.{One as One', Two as Two'}

-- ---- an outcome as an answer: the limit has no part in it
module _ (q : Question) where
  abbrev told : Outcome → Answer
  told o = answered (asked q) o (mark q (value_of o))

  enough-told : (more : ℕ) (o : Outcome) → enough more (told o) ≡ outcomes.enough more o
  unfolding answered
  enough-told more (ExactEnd x b) = refl
  enough-told more (SmallResidual x n b) = refl
  enough-told more (Narrow x n b) = refl
  enough-told more (Refused k x n b) = refl

  -- 8 is told as 8, and nothing else is
  spent-told : (o : Outcome) → outcomes.Spent o → Spent (told o)
  unfolding answered
  spent-told (ExactEnd x b) h = absurd h
  spent-told (SmallResidual x n b) h = absurd h
  spent-told (Narrow x n b) h = absurd h
  spent-told (Refused k x n b) h = h

  told-spent : (o : Outcome) → Spent (told o) → outcomes.Spent o
  unfolding answered
  told-spent (ExactEnd x b) h = omega (arith, h)
  told-spent (SmallResidual x n b) h = omega (arith, h)
  told-spent (Narrow x n b) h = omega (arith, h)
  told-spent (Refused k x n b) h = h

  steps-told : (o : Outcome) → (columns (told o)).steps ≡ outcomes.steps_of o
  unfolding answered
  steps-told (ExactEnd x b) = refl
  steps-told (SmallResidual x n b) = refl
  steps-told (Narrow x n b) = refl
  steps-told (Refused k x n b) = refl

  -- ---- under an allowed limit the row of 11 does not hold, and the other rows before the search read no limit
  abbrev others : List (Row Outcome)
  others = drop 1 (take 6 (checks q 0))

  abbrev more : ℕ
  more = beyond (row_of q).method

  abbrev searching : ℕ → Outcome
  searching k = search.between (row_of q).method (residual q) (place (lower_end q)) (place (upper_end q)) k

  abbrev behind : ℕ → Outcome
  behind k = decided others (searching k)

  allowed : (k : ℕ) → Allowed k → outcome q k ≡ behind k
  unfolding outcome steps search.between
  allowed k a = rw (is_true (leb k largest_limit) (le→leb k largest_limit a))

  searched : (k : ℕ) → Allowed k → search_of q k ≡ told (behind k)
  unfolding search_of
  searched k a = ap told (allowed k a)

  -- their outcomes take no step, and are not 8
  abbrev NoStep : Cause → Type 0
  NoStep cause = (outcomes.enough more (refused cause) ≡ 0) × (number_of cause ≡ 8 → ⊥)

  out_of_range : (range : Range) → NoStep (cause_of range)
  unfolding cause_of
  out_of_range range = pick (of_pressures range)
    where
      pick : (b : Bool) → NoStep (cond b PressureOutOfRange TemperatureOutOfRange)
      pick true = (refl, λ e. omega (arith, e))
      pick false = (refl, λ e. omega (arith, e))

  behind_counts : outcomes.Counts more behind
  behind_counts =
      decided_counts more others searching
      ((refl, λ e. omega (arith, e)), (out_of_range (row_of q).range, ((refl, λ e. omega (arith, e)), ((refl, λ e. omega (arith, e)), ((refl, λ e. omega (arith, e)), tt)))))
      (between_counts (row_of q).method (residual q) (place (lower_end q)) (place (upper_end q)))

  -- ---- the steps are a promise
  all_taken : (k : ℕ) → Allowed k → outcomes.Spent (behind k) × (outcomes.steps_of (behind k) ≡ k) → Spent (search_of q k) × ((columns (search_of q k)).steps ≡ k)
  all_taken k a x = (subst Spent (sym (searched k a)) (spent-told (behind k) x.0), ap (λ (w : Answer). (columns w).steps) (searched k a) ∙ steps-told (behind k) ∙ x.1)

  counted : (limit : ℕ) → Allowed limit → outcomes.Counted (λ k. Prim.Unit {0}) (outcomes.enough more) outcomes.steps_of outcomes.Spent behind limit
      → outcomes.Counted Allowed (enough more) (λ w. (columns w).steps) Spent (search_of q) limit
  counted limit a c =
      let s = searched limit a in
      let e : enough more (search_of q limit) ≡ outcomes.enough more (behind limit) = ap (enough more) s ∙ enough-told more (behind limit) in
      record {
        settled = λ h. c.settled (told-spent (behind limit) (subst Spent s h));
        held = subst (λ (n : ℕ). n ≤ limit) (sym e) c.held;
        same = λ k l b. searched k b ∙ ap told (c.same k (subst (λ (n : ℕ). n ≤ k) e l) tt) ∙ sym s;
        smaller = λ k l. let l' = subst (λ (n : ℕ). k < n) e l in all_taken k (le_trans (le_of_lt l') (le_trans c.held a)) (c.smaller k l');
      }

  pub counts : Counts more (search_of q)
  counts limit a = elim (behind_counts limit tt) [ inl x ↦ inl (all_taken limit a x) | inr c ↦ inr (counted limit a c) ]

-- ---- more patience changes nothing
pub patient : (q : Question) → Patient (search_of q)
patient q limit larger l a h = elim (counts q limit (le_trans l a)) [ inl x ↦ absurd (h x.0) | inr c ↦ c.same larger (le_trans c.held l) a ]

-- ---- call by call
pub pv2T_patient : (region : PvRegion) (p v : Float) → Patient (pv2T region p v)
pv2T_patient One' p v = patient (asks Pv1 p v)
pv2T_patient Two' p v = patient (asks Pv2 p v)

pub Tv2p_patient : (region : Region) (t v : Float) → Patient (Tv2p region t v)
Tv2p_patient One t v = patient (asks Tv1 t v)
Tv2p_patient Two t v = patient (asks Tv2 t v)
Tv2p_patient Five t v = patient (asks Tv5 t v)

pub Th2p_patient : (region : Region) (t h : Float) → Patient (Th2p region t h)
Th2p_patient One t h = patient (asks Th1 t h)
Th2p_patient Two t h = patient (asks Th2 t h)
Th2p_patient Five t h = patient (asks Th5 t h)

pub Ts2p_patient : (region : Region) (t s : Float) → Patient (Ts2p region t s)
Ts2p_patient One t s = patient (asks Ts1 t s)
Ts2p_patient Two t s = patient (asks Ts2 t s)
Ts2p_patient Five t s = patient (asks Ts5 t s)

pub pv2T_counts_1 : (p v : Float) → Counts 0 (pv2T One' p v)
pv2T_counts_1 p v = counts (asks Pv1 p v)

pub pv2T_counts_2 : (p v : Float) → Counts 1 (pv2T Two' p v)
pv2T_counts_2 p v = counts (asks Pv2 p v)

pub Tv2p_counts_1 : (t v : Float) → Counts 1 (Tv2p One t v)
Tv2p_counts_1 t v = counts (asks Tv1 t v)

pub Tv2p_counts_2 : (t v : Float) → Counts 0 (Tv2p Two t v)
Tv2p_counts_2 t v = counts (asks Tv2 t v)

pub Tv2p_counts_5 : (t v : Float) → Counts 1 (Tv2p Five t v)
Tv2p_counts_5 t v = counts (asks Tv5 t v)

pub Th2p_counts_1 : (t h : Float) → Counts 1 (Th2p One t h)
Th2p_counts_1 t h = counts (asks Th1 t h)

pub Th2p_counts_2 : (t h : Float) → Counts 1 (Th2p Two t h)
Th2p_counts_2 t h = counts (asks Th2 t h)

pub Th2p_counts_5 : (t h : Float) → Counts 1 (Th2p Five t h)
Th2p_counts_5 t h = counts (asks Th5 t h)

pub Ts2p_counts_1 : (t s : Float) → Counts 1 (Ts2p One t s)
Ts2p_counts_1 t s = counts (asks Ts1 t s)

pub Ts2p_counts_2 : (t s : Float) → Counts 1 (Ts2p Two t s)
Ts2p_counts_2 t s = counts (asks Ts2 t s)

pub Ts2p_counts_5 : (t s : Float) → Counts 1 (Ts2p Five t s)
Ts2p_counts_5 t s = counts (asks Ts5 t s)
