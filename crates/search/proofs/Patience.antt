-- More patience changes nothing, and the steps are a promise: of either search an outcome that is no refusal 8 is the same under every larger limit; by name, of a run and of a whole search between
-- two ends, it is the same under every limit that is enough for it, with 8 under every smaller one. By what each search counts, behind a list that decides first. Assumes nothing.
use mathlib.Core.Path.{◌≡◌, refl}
use mathlib.Core.Logic.{inl, inr}
use mathlib.Core.Bool.{true, false}
use mathlib.Core.List.{List, [], ◌∷◌}
use Prim.Native.Nat.{ℕ, ◌+◌}
use native.Mathlib.Omega.{arith}
use lib.Ieee.{Float}
use Rattle.search.specs.Bisection.{width_of, bisection}
use Rattle.search.specs.Brent.{zbrent}
use Rattle.search.specs.Decision.{Row, ◌⇒◌, decided}
use Rattle.search.specs.Search.{empty_row, end_rows, run, ends, between}
use Rattle.search.specs.Patience.{Spent, beyond, enough, Counts}
use Rattle.search.specs.declared.bracket.Bracket.{Bracket}
use Rattle.search.specs.declared.bracket.Outcome.{Outcome}
use Rattle.search.specs.declared.method.Method.{Method}
use Rattle.search.specs.declared.method.Method.TheVariants.{ByBisection, ByBrent}
use Rattle.search.proofs.BisectionRuns.{bisection_counts}
use Rattle.search.proofs.BrentRuns.{zbrent_counts}

-- ---- a larger limit
patient : (more_of : ℕ) (given : ℕ → Outcome) → Counts more_of given → (limit more : ℕ) → (Spent (given limit) → ⊥) → given (limit + more) ≡ given limit
patient more_of given counts limit more h = elim (counts limit tt) [ inl x ↦ absurd (h x.0) | inr c ↦ c.same (limit + more) (omega (arith, c.held)) tt ]

pub bisection_patient : (width : Bracket → Float) (f : Float → Float) (s : Bracket) (limit more : ℕ) → (Spent (bisection width f s limit) → ⊥) → bisection width f s (limit + more) ≡ bisection width f s limit
bisection_patient width f s = patient 0 (bisection width f s) (bisection_counts width f s)

pub zbrent_patient : (f : Float → Float) (s : Bracket) (limit more : ℕ) → (Spent (zbrent f s limit) → ⊥) → zbrent f s (limit + more) ≡ zbrent f s limit
zbrent_patient f s = patient 1 (zbrent f s) (zbrent_counts f s)

-- ---- by name
run_counts : (m : Method) (f : Float → Float) (s : Bracket) → Counts (beyond m) (run m f s)
unfolding run
run_counts (ByBisection rule) f s = bisection_counts (width_of rule) f s
run_counts ByBrent f s = zbrent_counts f s

-- ---- behind a list that reads no limit, whose outcomes take no step and are not 8
abbrev pub Unstepped : ℕ → List (Row Outcome) → Type 0
Unstepped more [] = Prim.Unit {0}
Unstepped more ((test ⇒ o) ∷ rows) = ((enough more o ≡ 0) × (Spent o → ⊥)) × Unstepped more rows

pub decided_counts : (more : ℕ) (rows : List (Row Outcome)) (rest : ℕ → Outcome) → Unstepped more rows → Counts more rest → Counts more (λ k. decided rows (rest k))
decided_counts more [] rest u counts limit a = counts limit a
decided_counts more ((true ⇒ o) ∷ rows) rest ((none, unlike), u) counts limit a = inr (record { settled = unlike; held = omega (arith, none); same = λ k l b. refl; smaller = λ k l. absurd (omega (arith, none, l)) })
decided_counts more ((false ⇒ o) ∷ rows) rest ((none, unlike), u) counts limit a = decided_counts more rows rest u counts limit a

-- ---- a whole search between two ends: what is decided before the steps takes none
pub between_counts : (m : Method) (f : Float → Float) (low high : Float) → Counts (beyond m) (between m f low high)
unfolding between
between_counts m f low high = decided_counts (beyond m) (empty_row low high ∷ end_rows (ends f low high)) (run m f (ends f low high)) ((refl, λ e. omega (arith, e)), ((refl, λ e. omega (arith, e)), ((refl, λ e. e), ((refl, λ e. e), ((refl, λ e. omega (arith, e)), tt))))) (run_counts m f (ends f low high))
