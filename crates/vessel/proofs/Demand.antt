-- Demand 3 for each call, with no premise: its brackets are nested with opposite signs and are the ones that its answers report, and the columns of its answer owe what `Owes` says. Once over all
-- rows, whose ends are doubles or missing, then by the name of each call; and the narrow answers of the two bisections written out. Assumes nothing.
use Prim.Native.Nat.{ℕ, ◌*◌, ◌≤◌, ◌<◌}
use native.Mathlib.Nat.{le_refl, le_trans}
use mathlib.Core.Path.{◌≡◌, refl, sym, ap, ◌∙◌, subst}
use mathlib.Core.Logic.{inl, inr}
use mathlib.Core.Bool.{Bool, true, false, cond, not, true≢false}
use lib.Dec.{T, leb, leb→le, le→leb}
use lib.ListN.{take}
use lib.Ieee.{Float}
use lib.Ieee.Bits.{is_true}
use Rattle.exact.specs.Rounding.{distance}
use Rattle.common.specs.Boundaries.{of_pressures, cause_of, inside}
use Rattle.common.specs.Causes.{number_of}
use Rattle.common.specs.declared.cause.Cause.TheVariants.{TemperatureOutOfRange, PressureOutOfRange, ResultNotFinite}
use Rattle.common.specs.declared.boundaries.Range.{Range}
use Rattle.search.specs.Decision.{None}
use Rattle.search.specs.Bisection.{width_of}
use Rattle.search.specs.Search as search
use Rattle.search.specs.Search.{refused, run, ends}
use Rattle.search.specs.Demand.{Within, Signed, Lies, Enclosed, Part, whole, SearchOwes, near, reported as reported_in}
use Rattle.search.specs.declared.bracket.Bracket.{Bracket}
use Rattle.search.specs.declared.bracket.Outcome.{Outcome}
use Rattle.search.specs.declared.bracket.Outcome.TheVariants.{ExactEnd, SmallResidual, Narrow, Refused}
use Rattle.search.specs.declared.bisection.Width.{Width}
use Rattle.search.specs.declared.bisection.Width.TheVariants.{Millionth, MillionthOfUpper}
use Rattle.search.specs.declared.method.Method.{Method}
use Rattle.search.specs.declared.method.Method.TheVariants.{ByBisection, ByBrent}
use Rattle.search.proofs.Runs.{every}
use Rattle.search.proofs.Searches.{undecided, decides, between_nested, between_signed, between_owes, between-part}
use Rattle.r4.specs.Ends.{place}
use Rattle.pairs.specs.Residual.{row_of, residual}
use Rattle.pairs.specs.Pairs.{asks, steps, lower_end, upper_end, start}
use Rattle.pairs.proofs.Doubles.{lower-double, upper-double}
use Rattle.pairs.specs.declared.row.Region.TheVariants.{One, Two, Five}
use Rattle.pairs.specs.declared.row.Pair.TheVariants.{Pv1, Tv1, Th1, Ts1, Pv2, Tv2, Th2, Ts2, Tv5, Th5, Ts5}
use Rattle.pairs.specs.declared.question.Question.{Question}
use Rattle.vessel.specs.Answer.{Reason, none, plain, exact_end, small_residual, narrow, Columns, columns, answered, value_of}
use Rattle.vessel.specs.Searches.{largest_limit, checks, outcome, mark, asked, search as search_of, pv2T, Tv2p, Th2p, Ts2p}
use Rattle.vessel.specs.Demand.{Early, reported, OwesBy, Owes, Nearer, PvNearer, TvNearer, brackets_of, Keeps}
use Rattle.vessel.specs.declared.pair.PvRegion.TheVariants.{One as One', Two as Two'}

-- ---- an outcome's bracket, as the columns have it
carried : (q : Question) (b : Bracket) → Within b (start q) → Within (ends (residual q) b.x1 b.x2) (start q)
carried q b h = record { from_lower = h.from_lower; to_upper = h.to_upper }

lying : (q : Question) (b : Bracket) (v : Float) → Lies (start q) b v → Lies (start q) (ends (residual q) b.x1 b.x2) v
lying q b v h = record { inside = carried q b h.inside; above_lower = h.above_lower; below_upper = h.below_upper }

-- distances turn on the bracket's ends alone
near-ends : (m : Method) (f : Float → Float) (b : Bracket) (v : Float) → near m b v ≡ near m (ends f b.x1 b.x2) v
unfolding width_of
near-ends (ByBisection Millionth) f b v = refl
near-ends (ByBisection MillionthOfUpper) f b v = refl
near-ends ByBrent f b v = refl

whole-ends : (rule : Width) (f : Float → Float) (b : Bracket) → whole rule b ≡ whole rule (ends f b.x1 b.x2)
whole-ends Millionth f b = refl
whole-ends MillionthOfUpper f b = refl

lifted : (q : Question) (o : Outcome) (inside : Bool) → SearchOwes (row_of q).method (residual q) (start q) o → Owes q (columns (answered (asked q) o inside))
unfolding answered
lifted q (ExactEnd x b) inside (at, zero, same) = (at, zero, (ap (λ (w : Bracket). w.x1) same, ap (λ (w : Bracket). w.x2) same))
lifted q (SmallResidual x n b) inside h = (h.0, lying q b x h.1)
lifted q (Narrow x n b) inside h =
    subst (Enclosed (residual q) (start q) (ends (residual q) b.x1 b.x2) x) (near-ends (row_of q).method (residual q) b x)
    (record { lies = lying q b x h.lies; signs = h.signs; near_lower = h.near_lower; near_upper = h.near_upper })
lifted q (Refused k x n b) inside (inl five) = inl (inr (inr (inr (inr (inr (inr (inl five)))))))
lifted q (Refused k x n b) inside (inr (inl seven)) = inl (inr (inr (inr (inr (inr (inr (inr seven)))))))
lifted q (Refused k x n b) inside (inr (inr (inl (six, same)))) = inr (inl six, inl (ap (λ (w : Bracket). w.x1) same, ap (λ (w : Bracket). w.x2) same))
lifted q (Refused k x n b) inside (inr (inr (inr (late, h)))) = inr (late, inr (carried q b h))

pub out_of_range : (range : Range) → Early (number_of (cause_of range))
unfolding cause_of
out_of_range range = pick (of_pressures range)
  where
    pick : (b : Bool) → Early (number_of (cond b PressureOutOfRange TemperatureOutOfRange))
    pick true = inr (inr (inr (inl refl)))
    pick false = inr (inr (inl refl))

-- ---- with the checks before it
pub owes : (q : Question) (limit : ℕ) → Owes q (columns (search_of q limit))
unfolding search_of outcome steps search.between answered
owes q limit =
    decides Owed (take 6 (checks q limit)) last_of
    ((λ h. inl (inl refl)), ((λ h. inl (inr (inl refl))), ((λ h. inl (out_of_range (row_of q).range)), ((λ h. inl (inr (inr (inr (inr (inl refl)))))), ((λ h. nine), ((λ h. nine), tt))))))
    searching
  where
    last_of : Outcome
    last_of = search.between (row_of q).method (residual q) (place (lower_end q)) (place (upper_end q)) limit

    Owed : Outcome → Type 0
    Owed o = Owes q (columns (answered (asked q) o (mark q (value_of (outcome q limit)))))

    nine : Owed (refused ResultNotFinite)
    nine = inl (inr (inr (inr (inr (inr (inl refl))))))

    searching : None (take 6 (checks q limit)) → Owed last_of
    searching (most, (one, (range, (four, (low, (high, u)))))) =
        lifted q last_of (mark q (value_of (outcome q limit))) (between_owes (residual q) (place (lower_end q)) (place (upper_end q)) (lower-double q low) (upper-double q high) (row_of q).method limit)

-- ---- where no row of the list holds: the brackets, and that answers report them
reported-ends : (q : Question) (o : Outcome) (inside : Bool) → Signed (residual q) (reported_in o) → reported q (columns (answered (asked q) o inside)) ≡ reported_in o
unfolding answered
reported-ends q (ExactEnd v b) inside h = rw (← h.lower_at, ← h.upper_at)
reported-ends q (SmallResidual v n b) inside h = rw (← h.lower_at, ← h.upper_at)
reported-ends q (Narrow v n b) inside h = rw (← h.lower_at, ← h.upper_at)
reported-ends q (Refused number v n b) inside h = rw (← h.lower_at, ← h.upper_at)

module _ (q : Question) (limit : ℕ) where
  abbrev ran : ℕ → Outcome
  ran k = run (row_of q).method (residual q) (start q) k

  -- a smaller limit lets no row hold either
  smaller : (k : ℕ) → k ≤ limit → None (checks q limit) → None (checks q k)
  smaller k l (most, others) = (below (leb limit largest_limit) refl most, others)
    where
      below : (b : Bool) → leb limit largest_limit ≡ b → not b ≡ false → not (leb k largest_limit) ≡ false
      below true e h = rw (is_true (leb k largest_limit) (le→leb k largest_limit (le_trans l (leb→le limit largest_limit (subst T (sym e) tt)))))
      below false e h = absurd (true≢false h)

  told : (k : ℕ) → k ≤ limit → None (checks q limit) → reported q (columns (search_of q k)) ≡ reported_in (ran k)
  unfolding search_of outcome steps
  told k l no_row = by (smaller k l no_row)
    where
      by : None (checks q k) → reported q (columns (search_of q k)) ≡ reported_in (ran k)
      by (most, (one, (range, (four, (low, (high, rest)))))) =
          rw (undecided (checks q k) (ran k) (most, (one, (range, (four, (low, (high, rest)))))))
          (reported-ends q (ran k) _ (between_signed (residual q) (place (lower_end q)) (place (upper_end q)) (lower-double q low) (upper-double q high) (row_of q).method rest k))

  pub nested : None (checks q limit) → Keeps q limit
  nested (most, (one, (range, (four, (low, (high, rest)))))) =
      let no_row : None (checks q limit) = (most, (one, (range, (four, (low, (high, rest)))))) in
      let n = between_nested (residual q) (place (lower_end q)) (place (upper_end q)) (lower-double q low) (upper-double q high) (row_of q).method rest limit in
      record {
        nested = n.0;
        at_last = told limit (le_refl limit) no_row ∙ n.1.at_last;
        each = every (λ b w. (w.0, w.1, told w.0 w.1 no_row ∙ w.2)) (brackets_of q limit) n.1.each;
      }

-- ---- call by call
pub pv2T_owes_1 : (p v : Float) (limit : ℕ) → Owes (asks Pv1 p v) (columns (pv2T One' p v limit))
pv2T_owes_1 p v limit = owes (asks Pv1 p v) limit

pub pv2T_owes_2 : (p v : Float) (limit : ℕ) → Owes (asks Pv2 p v) (columns (pv2T Two' p v limit))
pv2T_owes_2 p v limit = owes (asks Pv2 p v) limit

pub Tv2p_owes_1 : (t v : Float) (limit : ℕ) → Owes (asks Tv1 t v) (columns (Tv2p One t v limit))
Tv2p_owes_1 t v limit = owes (asks Tv1 t v) limit

pub Tv2p_owes_2 : (t v : Float) (limit : ℕ) → Owes (asks Tv2 t v) (columns (Tv2p Two t v limit))
Tv2p_owes_2 t v limit = owes (asks Tv2 t v) limit

pub Tv2p_owes_5 : (t v : Float) (limit : ℕ) → Owes (asks Tv5 t v) (columns (Tv2p Five t v limit))
Tv2p_owes_5 t v limit = owes (asks Tv5 t v) limit

pub Th2p_owes_1 : (t h : Float) (limit : ℕ) → Owes (asks Th1 t h) (columns (Th2p One t h limit))
Th2p_owes_1 t h limit = owes (asks Th1 t h) limit

pub Th2p_owes_2 : (t h : Float) (limit : ℕ) → Owes (asks Th2 t h) (columns (Th2p Two t h limit))
Th2p_owes_2 t h limit = owes (asks Th2 t h) limit

pub Th2p_owes_5 : (t h : Float) (limit : ℕ) → Owes (asks Th5 t h) (columns (Th2p Five t h limit))
Th2p_owes_5 t h limit = owes (asks Th5 t h) limit

pub Ts2p_owes_1 : (t s : Float) (limit : ℕ) → Owes (asks Ts1 t s) (columns (Ts2p One t s limit))
Ts2p_owes_1 t s limit = owes (asks Ts1 t s) limit

pub Ts2p_owes_2 : (t s : Float) (limit : ℕ) → Owes (asks Ts2 t s) (columns (Ts2p Two t s limit))
Ts2p_owes_2 t s limit = owes (asks Ts2 t s) limit

pub Ts2p_owes_5 : (t s : Float) (limit : ℕ) → Owes (asks Ts5 t s) (columns (Ts2p Five t s limit))
Ts2p_owes_5 t s limit = owes (asks Ts5 t s) limit

-- ---- the narrow answers of bisection, written out
module _ (q : Question) (rule : Width) (same : (row_of q).method ≡ ByBisection rule) (limit : ℕ) where
  abbrev c : Columns
  c = columns (search_of q limit)

  outcome-part : Part rule (outcome q limit)
  unfolding outcome steps
  outcome-part = decides (Part rule) (checks q limit) (run (row_of q).method (residual q) (start q) limit) (any, (any, (any, (any, (any, (any, (any, (any, (any, (any, (any, tt))))))))))) searching
    where
      any : {A : Type 0} → A → Prim.Unit {0}
      any h = tt

      searching : None (checks q limit) → Part rule (run (row_of q).method (residual q) (start q) limit)
      searching (most, (one, (range, (four, (low, (high, rest)))))) =
          subst (λ (m : Method). Part rule (run m (residual q) (start q) limit)) (sym same)
          (between-part (residual q) (place (lower_end q)) (place (upper_end q)) (lower-double q low) (upper-double q high) rule rest limit)

  abbrev PartBy : Reason → Columns → Type 0
  PartBy none d = Prim.Unit {0}
  PartBy plain d = Prim.Unit {0}
  PartBy exact_end d = Prim.Unit {0}
  PartBy small_residual d = Prim.Unit {0}
  PartBy narrow d = distance d.lower d.upper * 1000000 < whole rule (reported q d)

  in_columns : (o : Outcome) (inside : Bool) → Part rule o → PartBy (columns (answered (asked q) o inside)).reason (columns (answered (asked q) o inside))
  unfolding answered
  in_columns (ExactEnd v b) inside h = tt
  in_columns (SmallResidual v n b) inside h = tt
  in_columns (Narrow v n b) inside h = subst (λ (n : ℕ). distance b.x1 b.x2 * 1000000 < n) (whole-ends rule (residual q) b) h
  in_columns (Refused k v n b) inside h = tt

  nearer : c.reason ≡ narrow → Nearer q (width_of rule (reported q c)) (whole rule (reported q c)) c
  unfolding search_of
  nearer is-narrow =
      let h : OwesBy narrow q c = subst (λ (r : Reason). OwesBy r q c) is-narrow (owes q limit) in
      let e = subst (λ (m : Method). Enclosed (residual q) (start q) (reported q c) c.value (near m (reported q c) c.value)) same h in
      record { signs = e.signs; near_lower = e.near_lower; near_upper = e.near_upper; part = subst (λ (r : Reason). PartBy r c) is-narrow (in_columns (outcome q limit) (mark q (value_of (outcome q limit))) outcome-part) }

pub pv2T_nearer_1 : (p v : Float) (limit : ℕ) → (columns (pv2T One' p v limit)).reason ≡ narrow → PvNearer (asks Pv1 p v) (columns (pv2T One' p v limit))
unfolding width_of
pv2T_nearer_1 p v limit = nearer (asks Pv1 p v) Millionth refl limit

pub Tv2p_nearer_2 : (t v : Float) (limit : ℕ) → (columns (Tv2p Two t v limit)).reason ≡ narrow → TvNearer (asks Tv2 t v) (columns (Tv2p Two t v limit))
unfolding width_of
Tv2p_nearer_2 t v limit = nearer (asks Tv2 t v) MillionthOfUpper refl limit
