-- The middle of two doubles whose sum does not overflow: it lies between them, whatever their signs; and of two above zero it is the exact middle but for half a unit in the last place. Assumes nothing.
use mathlib.Core.Path.{◌≡◌, refl, sym, ap, ◌∙◌, subst}
use mathlib.Core.Logic.{◌⊎◌, inl, inr}
use Prim.Native.Nat.{ℕ, zero, suc, ◌+◌, ◌-◌, ◌*◌, ◌/◌, ◌^◌, ◌≤◌, ◌<◌}
use native.Mathlib.Nat.{le_trans, le_of_eq, not-le_of_lt, mul-one, mul_assoc, mul-le-mul_left, pow-suc}
use native.Mathlib.Omega.{arith}
use lib.Dec.{T, ltb, ltb→lt}
use lib.Pow.{pow_pos}
use lib.Ieee.{Float, binary64, size, fits}
use lib.Ieee.Digits.{size-le}
use lib.Ieee.Order.{drop}
use Rattle.exact.specs.Value.{unit, in_units, plus, minus, double, AtMost}
use lib.Ieee.Scale.{finite}
use Rattle.exact.specs.Rounding.{grid, Rounds}
use Rattle.exact.specs.Middle.{half, Ends, Between, Halfway, middle}
use Rattle.exact.proofs.Grid.{grid_ulp, grid_exact, grid_mono, grid-same, grid-small, grid-zero, either, other_way, grid_err_whole}
use Rattle.exact.proofs.Value.{unit_pos, Rep, units_rep, plus_rep, minus_rep, one_sided, grid_rep, units_of-plus, positive_minus, positive_double}
use Rattle.exact.proofs.Order.{le→exact}
use Rattle.exact.proofs.Operations.{add_rounds, mul_rounds}
use Rattle.exact.proofs.Finite.{part_finite}
use Rattle.exact.specs.Operations.{◌⊕◌, ◌⊗◌}
use Rattle.exact.proofs.Rounding.{rounds_le, rounds_ge, mul_units}

-- ---- on the grid
-- twice a number of at most 53 digits has at most 53 digits
twice : (n : ℕ) → Rep n → Rep (n * 2)
twice n r = record { q = r.q; j = suc r.j; small = r.small; is = ap (λ (a : ℕ). a * 2) r.is ∙ mul_assoc r.q (2 ^ r.j) 2 ∙ ap (λ (a : ℕ). r.q * a) (sym (pow-suc 2 r.j)) }

-- half of it: exact from 2 ^ 53 on
halved : (n q j : ℕ) → q < 2 ^ 53 → n ≡ q * 2 ^ j → 2 ^ 53 ≤ n → grid n 2 * 2 ≡ n
halved n q zero small is big = absurd (not-le_of_lt small (le_trans big (le_of_eq (is ∙ mul-one q))))
halved n q (suc i) small is big =
    let e : n ≡ q * 2 ^ i * 2 = is ∙ ap (λ (a : ℕ). q * a) (pow-suc 2 i) ∙ sym (mul_assoc q (2 ^ i) 2) in
    ap (λ (a : ℕ). a * 2) (grid_exact n 2 q i (pow_pos 1) small e) ∙ sym e

-- below that, within a half
half-small : (n : ℕ) → n < 2 ^ 53 → (grid n 2 * 2 ≤ n + 1) × (n ≤ grid n 2 * 2 + 1)
half-small n h = go (drop 53 n 2) (none (size (n / 2)) (size-le (n / 2) 53 (lt (n / 2) (omega arith)))) (grid_ulp n 2 (pow_pos 1))
  where
    lt : (a : ℕ) → a < 2 ^ 53 → a < 2 ^ 53
    lt a h = h

    none : (z : ℕ) → z ≤ 53 → z - 53 ≡ 0
    none z h = omega arith

    go : (k : ℕ) → k ≡ 0 → (grid n 2 * 2 * 2 ≤ n * 2 + 2 * 2 ^ k) × (n * 2 ≤ grid n 2 * 2 * 2 + 2 * 2 ^ k) → (grid n 2 * 2 ≤ n + 1) × (n ≤ grid n 2 * 2 + 1)
    go k z w = end (grid n 2) (2 ^ k) (ap (λ (a : ℕ). 2 ^ a) z) w.0 w.1
      where
        end : (G w : ℕ) → w ≡ 1 → G * 2 * 2 ≤ n * 2 + 2 * w → n * 2 ≤ G * 2 * 2 + 2 * w → (G * 2 ≤ n + 1) × (n ≤ G * 2 + 1)
        end G w z x y = (omega arith, omega arith)

-- S = grid N, M = grid (S / 2): N / 2 and M differ by at most 2 ^ -53 of N / 2, and half a unit
pub half-near : (N : ℕ) → Rep (grid N 1) → (2 ^ 53 * (grid (grid N 1) 2 * 2) ≤ 2 ^ 53 * N + (N + 2 ^ 53)) × (2 ^ 53 * N ≤ 2 ^ 53 * (grid (grid N 1) 2 * 2) + (N + 2 ^ 53))
half-near N r = elim (either (2 ^ 53) N) [ inl b ↦ big b | inr s ↦ small s ]
  where
    big : 2 ^ 53 ≤ N → (2 ^ 53 * (grid (grid N 1) 2 * 2) ≤ 2 ^ 53 * N + (N + 2 ^ 53)) × (2 ^ 53 * N ≤ 2 ^ 53 * (grid (grid N 1) 2 * 2) + (N + 2 ^ 53))
    big b =
        let l : 2 ^ 53 ≤ grid N 1 = le_trans (le_of_eq (sym (grid_exact (2 ^ 53) 1 1 53 (pow_pos 0) (pow_mono' tt) refl))) (grid_mono (2 ^ 53) 1 N 1 (pow_pos 0) (pow_pos 0) (omega arith)) in
        let e = halved (grid N 1) r.q r.j r.small r.is l in
        let w = grid_err_whole N in
        go (grid N 1) (grid (grid N 1) 2 * 2) e w.0 w.1
      where
        pow_mono' : T (ltb 1 (2 ^ 53)) → 1 < 2 ^ 53
        pow_mono' t = ltb→lt 1 (2 ^ 53) t

        go : (S M : ℕ) → M ≡ S → 2 ^ 53 * (S * 1) ≤ 2 ^ 53 * N + N → 2 ^ 53 * N ≤ 2 ^ 53 * (S * 1) + N → (2 ^ 53 * M ≤ 2 ^ 53 * N + (N + 2 ^ 53)) × (2 ^ 53 * N ≤ 2 ^ 53 * M + (N + 2 ^ 53))
        go S M e x y = (omega arith, omega arith)

    small : N < 2 ^ 53 → (2 ^ 53 * (grid (grid N 1) 2 * 2) ≤ 2 ^ 53 * N + (N + 2 ^ 53)) × (2 ^ 53 * N ≤ 2 ^ 53 * (grid (grid N 1) 2 * 2) + (N + 2 ^ 53))
    small s =
        let w = half-small N s in
        subst (λ (S : ℕ). (2 ^ 53 * (grid S 2 * 2) ≤ 2 ^ 53 * N + (N + 2 ^ 53)) × (2 ^ 53 * N ≤ 2 ^ 53 * (grid S 2 * 2) + (N + 2 ^ 53))) (sym (grid-small N s)) (go (grid N 2 * 2) w.0 w.1)
      where
        go : (M : ℕ) → M ≤ N + 1 → N ≤ M + 1 → (2 ^ 53 * M ≤ 2 ^ 53 * N + (N + 2 ^ 53)) × (2 ^ 53 * N ≤ 2 ^ 53 * M + (N + 2 ^ 53))
        go M x y = (omega arith, omega arith)

-- ---- half of a double
half-double : T (double half)
half-double = unfold fits in tt

half_units : plus half * 2 ≡ unit
half_units = unfold plus in_units unit in refl

half-minus : minus half ≡ 0
half-minus = unfold minus in refl

half-whole : in_units half * 2 ≡ unit
half-whole = ap (λ (a : ℕ). a * 2) (units_of-plus half half-minus) ∙ half_units

half_finite : (s : Float) → T (double s) → T (finite (half ⊗ s))
half_finite s d = part_finite half s half-double d (rw (← half-whole) (omega arith))

half_rounds : (s : Float) → T (double s) → Rounds (half ⊗ s) (plus half * plus s + minus half * minus s) (plus half * minus s + minus half * plus s) unit
half_rounds s d = mul_rounds half s half-double d (half_finite s d)

half-sign : (s : Float) → T (double s) → minus s ≡ 0 → minus (half ⊗ s) ≡ 0
half-sign s d z = (half_rounds s d).minus_is ∙ ap (λ (a : ℕ). grid a unit) (shape (plus half) (minus half) (plus s) (minus s) half-minus z) ∙ grid-zero unit unit_pos
  where
    shape : (H o P n : ℕ) → o ≡ 0 → n ≡ 0 → H * n + o * P - (H * P + o * n) ≡ 0
    shape H o P n f k = rw (f, k) (omega arith)

pub half-grid : (s : Float) → T (double s) → in_units (half ⊗ s) ≡ grid (in_units s) 2
half-grid s d = mul_units half s half-double d (half_finite s d) ∙ grid-same (in_units half * in_units s) unit (in_units s) 2 unit_pos (pow_pos 1) (rw (← half-whole) (omega arith))

-- ---- the middle of two doubles in order, whatever their signs
-- 2 (a - b) ≤ P - N says the same of P - N rounded, where a and b have at most 53 digits and one of them is 0
doubled : (a b P N : ℕ) → Rep a → Rep b → (a ≡ 0) ⊎ (b ≡ 0) → a * 2 + N ≤ P + b * 2 → a * 2 + grid (N - P) 1 ≤ grid (P - N) 1 + b * 2
doubled a b P N r t (inl z) h =
    let x : grid (N - P) 1 ≤ b * 2 = le_trans (grid_mono (N - P) 1 (b * 2) 1 (pow_pos 0) (pow_pos 0) (omega arith)) (le_of_eq (grid_rep (b * 2) (twice b t))) in
    omega arith
doubled a b P N r t (inr z) h =
    let y : grid (N - P) 1 ≡ 0 = ap (λ (k : ℕ). grid k 1) (omega arith) ∙ grid-zero 1 (pow_pos 0) in
    let x : a * 2 ≤ grid (P - N) 1 = le_trans (le_of_eq (sym (grid_rep (a * 2) (twice a r)))) (grid_mono (a * 2) 1 (P - N) 1 (pow_pos 0) (pow_pos 0) (omega arith)) in
    omega arith

pub middle-between : (x1 x2 : Float) → T (double x1) → T (double x2) → AtMost x1 x2 → T (finite (x1 ⊕ x2)) → Between x1 x2 (middle x1 x2)
unfolding middle
middle-between x1 x2 p q l h =
    let s = x1 ⊕ x2 in
    let P = plus x1 + plus x2 in
    let N = minus x1 + minus x2 in
    let R = add_rounds x1 x2 p q h in
    let M = half_rounds s R.is_double in
    let low : plus x1 * 2 + minus s ≤ plus s + minus x1 * 2 = rw (R.plus_is, R.minus_is) (doubled (plus x1) (minus x1) P N (plus_rep x1 p) (minus_rep x1 p) (one_sided x1) (omega (arith, l))) in
    let high : minus x2 * 2 + plus s ≤ minus s + plus x2 * 2 = rw (R.plus_is, R.minus_is) (doubled (minus x2) (plus x2) N P (minus_rep x2 q) (plus_rep x2 q) (other_way (one_sided x2)) (omega (arith, l))) in
    record {
      is_double = M.is_double;
      above = rounds_ge (half ⊗ s) x1 (plus half * plus s + minus half * minus s) (plus half * minus s + minus half * plus s) unit M unit_pos p (scaled (plus half) (minus half) (plus x1) (minus x1) (plus s) (minus s) unit half_units half-minus low);
      under = rounds_le (half ⊗ s) x2 (plus half * plus s + minus half * minus s) (plus half * minus s + minus half * plus s) unit M unit_pos q (omega (arith, scaled (plus half) (minus half) (minus x2) (plus x2) (minus s) (plus s) unit half_units half-minus high));
    }
  where
    scaled : (H o a b P n u : ℕ) → H * 2 ≡ u → o ≡ 0 → a * 2 + n ≤ P + b * 2 → a * u + (H * n + o * P) ≤ H * P + o * n + b * u
    scaled H o a b P n u e f h = rw (f, ← e) (omega (arith, mul-le-mul_left H h))

-- ---- where neither is negative, how near it is to the exact middle
pub halfway : (x1 x2 : Float) → T (double x1) → T (double x2) → minus x1 ≡ 0 → minus x2 ≡ 0 → plus x1 ≤ plus x2 → T (finite (x1 ⊕ x2)) → Halfway x1 x2 (middle x1 x2)
unfolding middle
halfway x1 x2 p q z1 z2 l h =
    let s = x1 ⊕ x2 in
    let m = half ⊗ s in
    let N = plus x1 + plus x2 in
    let R = add_rounds x1 x2 p q h in
    let S : plus s ≡ grid N 1 = R.plus_is ∙ ap (λ (a : ℕ). grid a 1) (omega arith) in
    let Z : minus s ≡ 0 = R.minus_is ∙ ap (λ (a : ℕ). grid a 1) (omega arith) ∙ grid-zero 1 (pow_pos 0) in
    let d = R.is_double in
    let W = half-sign s d Z in
    let M : plus m ≡ grid (grid N 1) 2 = sym (units_of-plus m W) ∙ half-grid s d ∙ ap (λ (a : ℕ). grid a 2) (units_of-plus s Z ∙ S) in
    let w = half-near N (subst Rep (units_of-plus s Z ∙ S) (units_rep s d)) in
    record {
      between = middle-between x1 x2 p q (omega arith) h;
      sign = W;
      near_up = subst (λ (a : ℕ). 2 ^ 53 * (a * 2) ≤ 2 ^ 53 * N + (N + 2 ^ 53)) (sym M) w.0;
      near_down = subst (λ (a : ℕ). 2 ^ 53 * N ≤ 2 ^ 53 * (a * 2) + (N + 2 ^ 53)) (sym M) w.1;
    }

-- from doubles above zero in order
pub halfway_of : (x1 x2 : Float) → T (fits binary64 x1) → T (fits binary64 x2) → Ends x1 x2 → Halfway x1 x2 (middle x1 x2)
halfway_of x1 x2 f g e =
    let p = positive_double x1 f e.first in
    let q = positive_double x2 g e.second in
    let z1 = positive_minus x1 e.first in
    let z2 = positive_minus x2 e.second in
    let l : AtMost x1 x2 = le→exact x1 x2 p q e.order in
    halfway x1 x2 p q z1 z2 (omega arith) e.sum
