-- Demand 3 of a whole search between any two doubles, by its name: its brackets are nested with opposite residuals and are the ones that outcomes report, and its outcome is an end that is an
-- exact zero, a refusal of the opening, or what its run owes. By the opening's tests: a bracket that none of them closes is a start of demand 3. And the list that decides it is what the code
-- goes through. Assumes nothing.
use mathlib.Core.Path.{◌≡◌, refl, sym, subst}
use mathlib.Core.Logic.{inl, inr}
use mathlib.Core.Bool.{Bool, true, false, not, ◌&&◌, true≢false}
use mathlib.Core.List.{List, [], ◌∷◌}
use Prim.Native.Nat.{ℕ}
use lib.Dec.{T}
use lib.Ieee.{Float, lt}
use lib.Ieee.Scale.{finite}
use Rattle.exact.specs.Value.{double}
use Rattle.std.specs.declared.ops.ControlFlow.TheVariants.{Continue}
use Rattle.search.specs.Run.{last}
use Rattle.search.specs.Bisection.{width_of}
use Rattle.search.specs.Decision.{Row, ◌⇒◌, decided, None}
use Rattle.search.specs.Search.{empty_row, end_rows, closing, searched, ends, run, brackets, between}
use Rattle.search.specs.Demand.{Start, Signed, Nested, reported, Told, Owes, Part, SearchOwes}
use Rattle.search.specs.declared.bracket.Bracket.{Bracket}
use Rattle.search.specs.declared.bracket.Outcome.{Outcome}
use Rattle.search.specs.declared.bracket.Outcome.TheVariants.{ExactEnd, SmallResidual, Narrow, Refused}
use Rattle.search.specs.declared.bisection.Width.{Width}
use Rattle.search.specs.declared.method.Method.{Method}
use Rattle.search.specs.declared.method.Method.TheVariants.{ByBisection, ByBrent}
use Rattle.search.proofs.Residuals.{of_true, no_zero, unlike_signs}
use Rattle.search.proofs.BisectionRuns.{bisection_owes, bisection-nested, bisection_reports, bisection-each, bisection-part}
use Rattle.search.proofs.Narrow.{rule-double}
use Rattle.search.proofs.BrentRuns.{zbrent_owes, zbrent-nested, zbrent_reports, zbrent-each}

-- ---- the list, as the code goes through it
pub opening : (rows : List (Row Outcome)) (b : Bracket) (steps : Bracket → Outcome) → searched steps (decided (closing rows) (Continue b)) ≡ decided rows (steps b)
opening [] b steps = refl
opening ((true ⇒ o) ∷ rows) b steps = refl
opening ((false ⇒ o) ∷ rows) b steps = opening rows b steps

-- where no row holds, what follows is given
pub undecided : {A : Type 0} (rows : List (Row A)) (rest : A) → None rows → decided rows rest ≡ rest
undecided [] rest h = refl
undecided ((test ⇒ a) ∷ rows) rest (t, h) = rw t (undecided rows rest h)

-- what each row gives where it holds, and what follows where none does, have P: so has what is decided
abbrev Gives : {A : Type 0} → (A → Type 0) → List (Row A) → Type 0
Gives P [] = Prim.Unit {0}
Gives P ((test ⇒ a) ∷ rows) = (test ≡ true → P a) × Gives P rows

pub decides : {A : Type 0} (P : A → Type 0) (rows : List (Row A)) (rest : A) → Gives P rows → (None rows → P rest) → P (decided rows rest)
decides P [] rest given h = h tt
decides P ((true ⇒ a) ∷ rows) rest given h = given.0 refl
decides P ((false ⇒ a) ∷ rows) rest given h = decides P rows rest given.1 (λ none. h (refl, none))

-- ---- a run, by its name
run-nested : (m : Method) (f : Float → Float) (s : Bracket) → Start f s → (limit : ℕ) → Nested f (brackets m f s limit)
unfolding brackets
run-nested (ByBisection rule) f s g limit = bisection-nested (width_of rule) f s g limit
run-nested ByBrent f s g limit = zbrent-nested f s g limit

run-told : (m : Method) (f : Float → Float) (s : Bracket) → Start f s → (limit : ℕ) → Told m f s limit
unfolding run brackets
run-told (ByBisection rule) f s g limit = record { at_last = bisection_reports (width_of rule) f s limit; each = bisection-each (width_of rule) f s limit }
run-told ByBrent f s g limit = record { at_last = zbrent_reports f s g limit; each = zbrent-each f s g limit }

run_owes : (m : Method) (f : Float → Float) (s : Bracket) → Start f s → (limit : ℕ) → Owes m f s (run m f s limit)
unfolding run
run_owes (ByBisection rule) f s g limit = bisection_owes (width_of rule) f s (rule-double rule) g limit
run_owes ByBrent f s g limit = zbrent_owes f s g limit

-- the last of nested brackets has the residuals of its ends
nested-last : (f : Float → Float) (b : Bracket) (l : List Bracket) → Signed f b → Nested f l → Signed f (last b l)
nested-last f b [] h n = h
nested-last f b (c ∷ []) h n = n
nested-last f b (c ∷ (d ∷ l)) h n = nested-last f c (d ∷ l) n.0 n.2

ran : (m : Method) (f : Float → Float) (s : Bracket) (o : Outcome) → Owes m f s o → SearchOwes m f s o
ran m f s (ExactEnd v b) k = absurd k
ran m f s (SmallResidual v n b) k = k
ran m f s (Narrow v n b) k = k
ran m f s (Refused cause v n b) k = inr (inr (inr k))

-- ---- from the two ends, any doubles: where no row of the opening holds they are a start
module _ (f : Float → Float) (low high : Float) (p : T (double low)) (q : T (double high)) where
  abbrev s : Bracket
  s = ends f low high

  starts : None (empty_row low high ∷ end_rows s) → Start f s
  starts (order, (six, (zero-low, (zero_high, (same, u))))) =
      let F = both (finite (f low)) (finite (f high)) six in
      record {
        lower = p;
        upper = q;
        order = of_true (turned (lt low high) order);
        lower_at = refl;
        upper_at = refl;
        opposite = unlike_signs (f low) (f high) (no_zero (f low) F.0 zero-low) (no_zero (f high) F.1 zero_high) same;
      }
    where
      turned : (b : Bool) → not b ≡ false → b ≡ true
      turned true h = refl
      turned false h = absurd (true≢false h)

      both : (a b : Bool) → not (a && b) ≡ false → (a ≡ true) × (b ≡ true)
      both true true h = (refl, refl)
      both true false h = absurd (true≢false h)
      both false b h = absurd (true≢false h)

  -- the brackets
  pub between_nested : (m : Method) → None (empty_row low high ∷ end_rows s) → (limit : ℕ) → Nested f (brackets m f s limit) × Told m f s limit
  between_nested m none limit = (run-nested m f s (starts none) limit, run-told m f s (starts none) limit)

  pub between_signed : (m : Method) → None (empty_row low high ∷ end_rows s) → (limit : ℕ) → Signed f (reported (run m f s limit))
  between_signed m none limit =
      let g = starts none in
      subst (Signed f) (sym (run-told m f s g limit).at_last) (nested-last f s (brackets m f s limit) (record { lower_at = refl; upper_at = refl; signs = inl g.opposite }) (run-nested m f s g limit))

  -- the outcome, of the steps and whole
  pub between_run : (m : Method) → None (empty_row low high ∷ end_rows s) → (limit : ℕ) → Owes m f s (run m f s limit)
  between_run m none limit = run_owes m f s (starts none) limit

  pub between_owes : (m : Method) (limit : ℕ) → SearchOwes m f s (between m f low high limit)
  unfolding between
  between_owes m limit =
      decides (SearchOwes m f s) (empty_row low high ∷ end_rows s) (run m f s limit)
      ((λ h. inl refl), ((λ h. inr (inr (inl (refl, refl)))), ((λ zero. (inl refl, zero, refl)), ((λ zero. (inr refl, zero, refl)), ((λ h. inr (inl refl)), tt)))))
      (λ none. ran m f s (run m f s limit) (between_run m none limit))

  -- by bisection
  pub between-part : (rule : Width) → None (empty_row low high ∷ end_rows s) → (limit : ℕ) → Part rule (run (ByBisection rule) f s limit)
  unfolding run
  between-part rule none limit = bisection-part rule f s (starts none) limit
