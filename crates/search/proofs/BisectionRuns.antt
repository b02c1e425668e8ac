-- Demand 3 of bisection, for any residual function: its brackets are nested with opposite residuals, the last of them is reported, and an outcome is what demand 3 owes. A turn is inverted once
-- (`rule_of`); a middle that is not outside has a sum that does not overflow, so it lies between the ends, and the sign rule keeps the residuals opposite. Assumes nothing.
use mathlib.Core.Path.{◌≡◌, refl, ap, ◌∙◌, subst}
use mathlib.Core.Logic.{◌⊎◌, inl, inr}
use mathlib.Core.Bool.{Bool, true, false, cond, ◌||◌, true≢false}
use mathlib.Core.List.{map-id}
use Prim.Native.Nat.{ℕ, ◌+◌, ◌≤◌}
use native.Mathlib.Omega.{arith}
use lib.Dec.{T}
use lib.Ieee.{Float, nan, inf, fin, mul, lt, is_nan}
use lib.Ieee.Scale.{finite}
use Rattle.exact.specs.Operations.{◌⊕◌, ◌⊗◌}
use Rattle.exact.specs.Value.{in_units, double}
use Rattle.exact.specs.Middle.{half, middle}
use Rattle.exact.proofs.Finite.{add-number}
use Rattle.exact.proofs.Halfway.{middle-between}
use Rattle.float.specs.Sign.{nought, magnitude, same_sign}
use Rattle.std.specs.declared.ops.ControlFlow.{ControlFlow}
use Rattle.std.specs.declared.ops.ControlFlow.TheVariants.{Continue, Break}
use Rattle.common.specs.declared.cause.Cause.TheVariants.{ResidualNotFinite, PointOutside}
use Rattle.search.specs.Run.{states_from, last, Every}
use Rattle.search.specs.Bisection.{small, middle_of, outside, step, width_of, narrow, turn, next, spent, bisection, bisection_brackets}
use Rattle.search.specs.Demand.{Opposite, Start, Within, Nested, reported, RunOwes, Part}
use Rattle.search.specs.Patience.{Spent, steps_of, enough, Counts}
use Rattle.search.specs.declared.bracket.Bracket.{Bracket}
use Rattle.search.specs.declared.bracket.Outcome.{Outcome}
use Rattle.search.specs.declared.bracket.Outcome.TheVariants.{SmallResidual, Narrow, Refused}
use Rattle.search.specs.declared.bisection.Width.{Width}
use Rattle.search.proofs.Runs.{Hands, keeps, reports_last, reports_each, counts}
use Rattle.search.proofs.Narrow.{narrow-distance, narrow-part}
use Rattle.search.proofs.Residuals.{Nonzero, of_true, not-small, sign-rule}
use Rattle.search.proofs.Places.{Place, Held, widened, own, within, signed, started, lies, enclosed, nested}

-- ---- the middle: where the sum of the ends overflows it is outside
overflow : (s x y : Float) → is_nan s ≡ false → T (double x) → T (double y) → (lt (half ⊗ s) x || lt y (half ⊗ s)) ≡ false → T (finite s)
unfolding is_nan lt mul
overflow nan x y n p q h = absurd (true≢false n)
overflow (inf s) nan y n p q h = absurd p
overflow (inf s) (inf t) y n p q h = absurd p
overflow (inf s) (fin t m e) nan n p q h = absurd q
overflow (inf s) (fin t m e) (inf u) n p q h = absurd q
overflow (inf true) (fin t m e) (fin u k d) n p q h = true≢false h
overflow (inf false) (fin t m e) (fin u k d) n p q h = true≢false h
overflow (fin s k d) x y n p q h = tt

module _ (f : Float → Float) (w b : Bracket) (h : Held f w b) where
  abbrev m : Float
  m = middle_of b

  middled : outside b ≡ false → Place f b m (f m)
  unfolding outside middle
  middled i =
      let p = h.lower.is_double in
      let q = h.upper.is_double in
      let M = middle-between b.x1 b.x2 p q h.order (overflow (b.x1 ⊕ b.x2) b.x1 b.x2 (add-number b.x1 b.x2 p q) p q i) in
      record { is_double = M.is_double; residual = refl; from_lower = M.above; to_upper = M.under }

-- ---- what a step keeps: a bracket in w with opposite residuals
abbrev Kept : (Float → Float) → Bracket → Bracket → Type 0
Kept f w b = Held f w b × Opposite b.r1 b.r2

kept : (f : Float → Float) (w b : Bracket) → Kept f w b → outside b ≡ false → Nonzero (f (middle_of b)) → Kept f w (step b (f (middle_of b)))
unfolding step
kept f w b (h, o) i n = by (sign-rule r b.r1 b.r2 n o)
  where
    r : Float
    r = f (middle_of b)

    p : Place f b (middle_of b) r
    p = middled f w b h i

    by : ((same_sign r b.r1 ≡ true) × Opposite r b.r2) ⊎ ((same_sign r b.r1 ≡ false) × Opposite b.r1 r) → Kept f w (step b r)
    by (inl v) = rw v.0 (record { lower = widened h p; upper = h.upper; order = p.to_upper }, v.1)
    by (inr v) = rw v.0 (record { lower = h.lower; upper = widened h p; order = p.from_lower }, v.1)

-- ---- which rule a turn went by
module _ (width : Bracket → Float) (f : Float → Float) where
  data Rule (b : Bracket) (n : ℕ) : ControlFlow Outcome Bracket → Type 0 where
    outside_now : Rule b n (Break (Refused PointOutside nought n b))
    spoilt_now : Rule b n (Break (Refused ResidualNotFinite nought (n + 1) b))
    small_now : outside b ≡ false → lt (magnitude (f (middle_of b))) small ≡ true → Rule b n (Break (SmallResidual (middle_of b) (n + 1) b))
    narrow_now : outside b ≡ false → narrow width b ≡ true → Rule b n (Break (Narrow (middle_of b) (n + 1) b))
    next_now : outside b ≡ false → Nonzero (f (middle_of b)) → Rule b n (Continue (step b (f (middle_of b))))

  rule_of : (b : Bracket) (n : ℕ) → Rule b n (next width f b n)
  unfolding next turn
  rule_of b n = pick (outside b) refl (finite (f m)) refl (lt (magnitude (f m)) small) refl (narrow width b) refl
    where
      m : Float
      m = middle_of b

      pick : (o : Bool) → outside b ≡ o → (g : Bool) → finite (f m) ≡ g → (s : Bool) → lt (magnitude (f m)) small ≡ s → (w : Bool) → narrow width b ≡ w
          → Rule b n (cond o (Break (Refused PointOutside nought n b)) (cond g (cond s (Break (SmallResidual m (n + 1) b)) (cond w (Break (Narrow m (n + 1) b)) (Continue (step b (f m))))) (Break (Refused ResidualNotFinite nought (n + 1) b))))
      pick true p g q s r w v = outside_now
      pick false p false q s r w v = spoilt_now
      pick false p true q true r w v = small_now p r
      pick false p true q false r true v = narrow_now p v
      pick false p true q false r false v = next_now p (not-small (f m) q r)

  -- ---- the brackets of a run
  inward : (b : Bracket) (n : ℕ) → Kept f b b → Hands (λ o. Prim.Unit {0}) (λ c. Kept f c c × Within c b) (next width f b n)
  inward b n k = by (rule_of b n)
    where
      by : {t : ControlFlow Outcome Bracket} → Rule b n t → Hands (λ o. Prim.Unit {0}) (λ c. Kept f c c × Within c b) t
      by outside_now = tt
      by spoilt_now = tt
      by (small_now p q) = tt
      by (narrow_now p q) = tt
      by (next_now i z) = let v = kept f b b k i z in ((own (step b (f (middle_of b))) v.0, v.1), within k.0 v.0)

  pub bisection-nested : (s : Bracket) → Start f s → (limit : ℕ) → Nested f (bisection_brackets width f s limit)
  unfolding bisection_brackets
  bisection-nested s g limit = subst (Nested f) (map-id (states_from (next width f) limit s 0)) (nested f (λ b. b) (next width f) (λ b. Kept f b b) (λ b k. signed k.0 (inl k.1)) inward limit s 0 (started g, g.opposite))

  -- ---- they are the ones that outcomes report: each outcome has the bracket of its turn
  turn_reports : (b : Bracket) (n : ℕ) → Prim.Unit {0} → Hands (λ o. reported o ≡ b) (λ c. Prim.Unit {0}) (next width f b n)
  turn_reports b n u = by (rule_of b n)
    where
      by : {t : ControlFlow Outcome Bracket} → Rule b n t → Hands (λ o. reported o ≡ b) (λ c. Prim.Unit {0}) t
      by outside_now = refl
      by spoilt_now = refl
      by (small_now p q) = refl
      by (narrow_now p q) = refl
      by (next_now i z) = tt

  pub bisection_reports : (s : Bracket) (limit : ℕ) → reported (bisection width f s limit) ≡ last s (bisection_brackets width f s limit)
  unfolding bisection bisection_brackets
  bisection_reports s limit =
      reports_last (next width f) spent (λ b. b) reported (λ b. Prim.Unit {0}) turn_reports (λ b n. unfold spent in refl) limit s 0 tt ∙ ap (last s) (map-id (states_from (next width f) limit s 0))

  pub bisection-each : (s : Bracket) (limit : ℕ) → Every (λ b. (k : ℕ) × (k ≤ limit) × (reported (bisection width f s k) ≡ b)) (bisection_brackets width f s limit)
  unfolding bisection bisection_brackets
  bisection-each s limit =
      subst (Every _) (map-id (states_from (next width f) limit s 0)) (reports_each (next width f) spent (λ b. b) reported (λ b. Prim.Unit {0}) turn_reports (λ b n. unfold spent in refl) limit s 0 tt)

  -- ---- each stops in the step that it tells, but for 10, which is told before the next; none is 8
  abbrev Stops : ℕ → Outcome → Type 0
  Stops n o = (enough 0 o ≡ n + 1) × (Spent o → ⊥)

  turn_counts : (b : Bracket) (n : ℕ) → Hands (Stops n) (λ c. Prim.Unit {0}) (next width f b n)
  turn_counts b n = by (rule_of b n)
    where
      by : {t : ControlFlow Outcome Bracket} → Rule b n t → Hands (Stops n) (λ c. Prim.Unit {0}) t
      by outside_now = (refl, λ e. omega (arith, e))
      by spoilt_now = (omega arith, λ e. omega (arith, e))
      by (small_now p q) = (omega arith, λ e. e)
      by (narrow_now p q) = (omega arith, λ e. e)
      by (next_now i z) = tt

  pub bisection_counts : (s : Bracket) → Counts 0 (bisection width f s)
  unfolding bisection
  bisection_counts s = counts (next width f) spent (enough 0) steps_of Spent turn_counts (λ b n. unfold spent in (refl, refl)) s

  -- ---- what an outcome owes
  module _ (s : Bracket) (d : (b : Bracket) → T (double b.x1) → T (double b.x2) → T (double (width b))) (g : Start f s) where
    abbrev Owed : Outcome → Type 0
    Owed o = RunOwes (λ r. T (lt (magnitude r) small)) (λ b v. in_units (width b)) f s o

    turn_owes : (b : Bracket) (n : ℕ) → Kept f s b → Hands Owed (Kept f s) (next width f b n)
    turn_owes b n k = by (rule_of b n)
      where
        by : {t : ControlFlow Outcome Bracket} → Rule b n t → Hands Owed (Kept f s) t
        by outside_now = (inr (inr refl), within (started g) k.0)
        by spoilt_now = (inl refl, within (started g) k.0)
        by (small_now i p) = (of_true p, lies (started g) k.0 (middled f s b k.0 i))
        by (narrow_now i t) =
            let p = k.0.lower.is_double in
            let q = k.0.upper.is_double in
            enclosed (started g) k.0 k.1 (middled f s b k.0 i) (narrow-distance width b p q (d b p q) t)
        by (next_now i z) = kept f s b k i z

    pub bisection_owes : (limit : ℕ) → RunOwes (λ r. T (lt (magnitude r) small)) (λ b v. in_units (width b)) f s (bisection width f s limit)
    unfolding bisection
    bisection_owes limit =
        keeps (next width f) spent Owed (Kept f s) turn_owes (λ b n k. unfold spent in (inr (inl refl), within (started g) k.0)) limit s 0 (started g, g.opposite)

-- ---- by a named rule: a narrow outcome's bracket, of which the rule held
module _ (rule : Width) (f : Float → Float) (s : Bracket) (g : Start f s) where
  turn-part : (b : Bracket) (n : ℕ) → Kept f s b → Hands (Part rule) (Kept f s) (next (width_of rule) f b n)
  turn-part b n k = by (rule_of (width_of rule) f b n)
    where
      by : {t : ControlFlow Outcome Bracket} → Rule (width_of rule) f b n t → Hands (Part rule) (Kept f s) t
      by outside_now = tt
      by spoilt_now = tt
      by (small_now i p) = tt
      by (narrow_now i t) = narrow-part rule b k.0.lower.is_double k.0.upper.is_double t
      by (next_now i z) = kept f s b k i z

  pub bisection-part : (limit : ℕ) → Part rule (bisection (width_of rule) f s limit)
  unfolding bisection
  bisection-part limit = keeps (next (width_of rule) f) spent (Part rule) (Kept f s) turn-part (λ b n k. unfold spent in tt) limit s 0 (started g, g.opposite)
