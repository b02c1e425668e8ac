-- A log as its loop fills it, and what a filled one says place by place. Assumes nothing.
use Prim.Native.Nat.{ℕ, zero, suc, ◌+◌, ◌≤◌, ◌<◌}
use mathlib.Core.Path.{◌≡◌, refl, sym, ap, ◌∙◌, subst}
use mathlib.Core.Bool.{Bool, true, false, ◌&&◌, true≢false}
use mathlib.Core.List.{List, [], ◌∷◌}
use native.Mathlib.Nat.{le_of_suc-le-suc, not-suc-le-zero, le_of_eq, le_antisymm}
use native.Mathlib.Numerals.{add-one}
use lib.Ieee.{Float}
use Rattle.std.specs.Prelude.{Result, Ok, Err}
use Rattle.common.specs.declared.cause.Cause.{Cause}
use Rattle.float.specs.Sign.{nought}
use lib.ListN.{length, get_or, set}
use borrow.Author.Tests.{leb-true, eqb-true, le-leb, eq-eqb}
use Rattle.pairs.specs.declared.row.Region.{Region}
use Rattle.vessel.specs.Answer.{Columns, columns, direct}
use Rattle.vessel.specs.Calls.{asks_for, value, property}
use Rattle.vessel.specs.Log.{Runs, together, fits, column, log, Together, Complete, single_at, HoldsAt, AgreeAt, SameAt}
use Rattle.vessel.specs.declared.answer.Answer.{Answer}
use Rattle.vessel.specs.declared.property.Property.{Property}

module _ {A : Type 0} (of : Columns → A) (single : Float → Float → Answer) where
  -- a run of which the first k places are filled
  abbrev begun : ℕ → List Float → List Float → List A → List A
  begun zero ps Ts old = old
  begun (suc k) [] Ts old = old
  begun (suc k) (p ∷ ps) [] old = old
  begun (suc k) (p ∷ ps) (T ∷ Ts) [] = []
  begun (suc k) (p ∷ ps) (T ∷ Ts) (x ∷ old) = of (columns (single p T)) ∷ begun k ps Ts old

  length_begun : (k : ℕ) (ps Ts : List Float) (old : List A) → length (begun k ps Ts old) ≡ length old
  length_begun zero ps Ts old = refl
  length_begun (suc k) [] Ts old = refl
  length_begun (suc k) (p ∷ ps) [] old = refl
  length_begun (suc k) (p ∷ ps) (T ∷ Ts) [] = refl
  length_begun (suc k) (p ∷ ps) (T ∷ Ts) (x ∷ old) = ap suc (length_begun k ps Ts old)

  -- one place more; d is what a read beyond a run would give
  next : (k : ℕ) (ps Ts : List Float) (old : List A) (d : Float) → k < length ps → k < length Ts → k < length old → set (begun k ps Ts old) k (of (columns (single (get_or ps k d) (get_or Ts k d)))) ≡ begun (suc k) ps Ts old
  next k [] Ts old d h i j = absurd (not-suc-le-zero h)
  next k (p ∷ ps) [] old d h i j = absurd (not-suc-le-zero i)
  next k (p ∷ ps) (T ∷ Ts) [] d h i j = absurd (not-suc-le-zero j)
  next zero (p ∷ ps) (T ∷ Ts) (x ∷ old) d h i j = refl
  next (suc k) (p ∷ ps) (T ∷ Ts) (x ∷ old) d h i j =
      ap (λ (l : List A). of (columns (single p T)) ∷ l) (next k ps Ts old d (le_of_suc-le-suc h) (le_of_suc-le-suc i) (le_of_suc-le-suc j))

  -- filled to its end it is the column
  to_the_end : (ps Ts : List Float) (old : List A) → length ps ≤ length Ts → length ps ≤ length old → length old ≤ length ps → begun (length ps) ps Ts old ≡ column of single ps Ts
  to_the_end [] Ts [] h i j = refl
  to_the_end [] Ts (x ∷ old) h i j = absurd (not-suc-le-zero j)
  to_the_end (p ∷ ps) [] old h i j = absurd (not-suc-le-zero h)
  to_the_end (p ∷ ps) (T ∷ Ts) [] h i j = absurd (not-suc-le-zero i)
  to_the_end (p ∷ ps) (T ∷ Ts) (x ∷ old) h i j =
      ap (λ (l : List A). of (columns (single p T)) ∷ l) (to_the_end ps Ts old (le_of_suc-le-suc h) (le_of_suc-le-suc i) (le_of_suc-le-suc j))

  -- what the column holds at place k
  pub column_at : (k : ℕ) (ps Ts : List Float) (d : Float) (e : A) → k < length ps → k < length Ts → get_or (column of single ps Ts) k e ≡ of (columns (single (get_or ps k d) (get_or Ts k d)))
  column_at k [] Ts d e h i = absurd (not-suc-le-zero h)
  column_at k (p ∷ ps) [] d e h i = absurd (not-suc-le-zero i)
  column_at zero (p ∷ ps) (T ∷ Ts) d e h i = refl
  column_at (suc k) (p ∷ ps) (T ∷ Ts) d e h i = column_at k ps Ts d e (le_of_suc-le-suc h) (le_of_suc-le-suc i)

-- ---- the same of a run as it stands at the loop's head, for its proof
pub record Begun {A : Type 0} (of : Columns → A) (single : Float → Float → Answer) (k : ℕ) (ps Ts : List Float) (old run : List A) : Type 0 where
  pub so_far : run ≡ begun of single k ps Ts old

module _ {A : Type 0} {of : Columns → A} {single : Float → Float → Answer} {ps Ts : List Float} {old run : List A} where
  pub as_long : {k : ℕ} → Begun of single k ps Ts old run → length run ≡ length old
  as_long {k} b = ap length b.so_far ∙ length_begun of single k ps Ts old

  -- a turn of the loop stores what the single call has at the place
  pub one_more : {k : ℕ} (d : Float) {x : A} → Begun of single k ps Ts old run → x ≡ of (columns (single (get_or ps k d) (get_or Ts k d))) → k < length ps → length Ts ≡ length ps → length old ≡ length ps → Begun of single (k + 1) ps Ts old (set run k x)
  one_more {k} d b stores h T_as_p old-as-p =
      record {
        so_far = rw (b.so_far, stores, add-one k) (next of single k ps Ts old d h (subst (λ (n : ℕ). k < n) (sym T_as_p) h) (subst (λ (n : ℕ). k < n) (sym old-as-p) h));
      }

  -- behind the loop the run is the column
  pub whole : {k : ℕ} → Begun of single k ps Ts old run → k ≤ length ps → length ps ≤ k → length Ts ≡ length ps → length old ≡ length ps → run ≡ column of single ps Ts
  whole b below above T_as_p old-as-p =
      b.so_far
      ∙ ap (λ (n : ℕ). begun of single n ps Ts old) (le_antisymm below above)
      ∙ to_the_end of single ps Ts old (le_of_eq (sym T_as_p)) (le_of_eq (sym old-as-p)) (le_of_eq old-as-p)

-- ---- the lengths' test, both ways
both : (a b : Bool) → a && b ≡ true → (a ≡ true) × (b ≡ true)
both true b h = (refl, h)
both false b h = absurd (true≢false (sym h))

pub all_one : (runs : Runs) → fits runs ≡ true → Together runs
unfolding together
all_one runs h =
    let t = both _ _ h in
    let v = both _ _ t.1 in
    let n = both _ _ v.1 in
    record {
      at_most = leb-true _ _ t.0;
      T_as_p = eqb-true _ _ v.0;
      values_as_p = eqb-true _ _ n.0;
      numbers_as_p = eqb-true _ _ n.1;
    }

fit : (runs : Runs) → Together runs → fits runs ≡ true
unfolding together
fit runs t = rw (le-leb _ _ t.at_most, eq-eqb _ _ t.T_as_p, eq-eqb _ _ t.values_as_p, eq-eqb _ _ t.numbers_as_p)

-- ---- what a log says
not_fit : (b : Bool) → (b ≡ true → ⊥) → b ≡ false
not_fit true h = absurd (h refl)
not_fit false h = refl

pub complete : (region : Region) (q : Property) (runs : Runs) → Complete region q runs
unfolding log
complete region q runs =
    record {
      fills = λ t. rw (fit runs t);
      leaves = λ t. rw (not_fit (fits runs) (λ h. t (all_one runs h)));
    }

pub every_place : (region : Region) (q : Property) (runs : Runs) → Together runs → (k : ℕ) → k < length runs.p → HoldsAt k (log region q runs) (single_at region q runs k)
every_place region q runs t k h =
    let in-T = subst (λ (n : ℕ). k < n) (sym t.T_as_p) h in
    record {
      the_value = rw ((complete region q runs).fills t) (column_at (λ c. c.value) (property region q) k runs.p runs.T nought nought h in-T);
      the_number = rw ((complete region q runs).fills t) (column_at (λ c. c.number) (property region q) k runs.p runs.T nought 0 h in-T);
    }

-- place k turns on p and T there alone
pub turns_on_its_place : (region : Region) (q : Property) (a b : Runs) → Together a → Together b → (k : ℕ) → AgreeAt k a b → SameAt k (log region q a) (log region q b)
turns_on_its_place region q a b t u k same =
    let x = every_place region q a t k same.in_a in
    let y = every_place region q b u k same.in_b in
    record {
      same_value = rw (x.the_value, y.the_value, same.same_p, same.same_T);
      same_number = rw (x.the_number, y.the_number, same.same_p, same.same_T);
    }

-- a place that is refused holds the value 0
pub nought_where_refused : (region : Region) (q : Property) (p T : Float) → ((columns (property region q p T)).number ≡ 0 → ⊥) → (columns (property region q p T)).value ≡ nought
unfolding property direct
nought_where_refused region q p T =
    by (value region q p T)
  where
    by : (found : Result Float Cause) → ((columns (direct (asks_for region q p T) found)).number ≡ 0 → ⊥) → (columns (direct (asks_for region q p T) found)).value ≡ nought
    by (Ok x) n = absurd (n refl)
    by (Err cause) n = refl
