-- What `Rounds` gives, for every operation alike: the order of exact results is kept, and the size of a result is that of the exact one, rounded; of a product, the product of the sizes. Assumes nothing.
use mathlib.Core.Path.{◌≡◌, sym, ap, ◌∙◌, subst}
use mathlib.Core.Logic.{◌⊎◌, inl, inr}
use mathlib.Core.Bool.{Bool, true, false}
use Prim.Native.Nat.{ℕ, ◌+◌, ◌-◌, ◌*◌, ◌≤◌, ◌<◌}
use native.Mathlib.Nat.{le_of_lt, mul-le-mul_right, add-le-add}
use native.Mathlib.Omega.{arith}
use lib.Dec.{T}
use lib.Pow.{pow_pos}
use lib.Ieee.{Float}
use Rattle.exact.specs.Value.{unit, in_units, negative, when, unless, plus, minus, double, AtMost}
use lib.Ieee.Scale.{finite}
use Rattle.exact.specs.Operations.{◌⊗◌}
use Rattle.exact.specs.Rounding.{grid, Rounds, apart}
use Rattle.exact.proofs.Grid.{grid_mono, grid-zero, either}
use Rattle.exact.proofs.Value.{unit_pos, units_rep, grid_rep, one_sided, units_of-plus, units_of-minus}
use Rattle.exact.proofs.Operations.{mul_rounds}

-- ---- a double rounds to itself
pub self_rounds : (y : Float) → T (double y) → Rounds y (plus y) (minus y) 1
unfolding plus minus
self_rounds y h = record { is_double = h; plus_is = go (negative y); minus_is = og (negative y) }
  where
    go : (s : Bool) → unless s (in_units y) ≡ grid (unless s (in_units y) - when s (in_units y)) 1
    go true = sym (ap (λ (a : ℕ). grid a 1) (no (in_units y)) ∙ grid-zero 1 (pow_pos 0))
      where
        no : (a : ℕ) → 0 - a ≡ 0
        no a = omega arith
    go false = sym (ap (λ (a : ℕ). grid a 1) (yes (in_units y)) ∙ grid_rep (in_units y) (units_rep y h))
      where
        yes : (a : ℕ) → a - 0 ≡ a
        yes a = omega arith

    og : (s : Bool) → when s (in_units y) ≡ grid (when s (in_units y) - unless s (in_units y)) 1
    og true = sym (ap (λ (a : ℕ). grid a 1) (yes (in_units y)) ∙ grid_rep (in_units y) (units_rep y h))
      where
        yes : (a : ℕ) → a - 0 ≡ a
        yes a = omega arith
    og false = sym (ap (λ (a : ℕ). grid a 1) (no (in_units y)) ∙ grid-zero 1 (pow_pos 0))
      where
        no : (a : ℕ) → 0 - a ≡ 0
        no a = omega arith

-- ---- the order: (p - n) / c ≤ (p' - n') / c'
sub_mono : (p n c p' n' c' : ℕ) → p * c' + n' * c ≤ p' * c + n * c' → (p - n) * c' ≤ (p' - n') * c
sub_mono p n c p' n' c' h = elim (either p n) [ inl l ↦ less l | inr l ↦ more (le_of_lt l) ]
  where
    less : p ≤ n → (p - n) * c' ≤ (p' - n') * c
    less l = let z : p - n ≡ 0 = omega arith in subst (λ (a : ℕ). a * c' ≤ (p' - n') * c) (sym z) (omega arith)

    more : n ≤ p → (p - n) * c' ≤ (p' - n') * c
    more l = go (p - n) (p' - n') (omega arith) (omega arith)
      where
        go : (d d' : ℕ) → p ≡ n + d → p' ≤ n' + d' → d * c' ≤ d' * c
        go d d' e f =
            let x : p * c' ≡ (n + d) * c' = ap (λ (a : ℕ). a * c') e in
            let y : p' * c ≤ (n' + d') * c = mul-le-mul_right c f in
            omega arith

pub rounds_mono : (r r' : Float) (p n c p' n' c' : ℕ) → Rounds r p n c → Rounds r' p' n' c' → 0 < c → 0 < c' → p * c' + n' * c ≤ p' * c + n * c' → AtMost r r'
rounds_mono r r' p n c p' n' c' R R' C C' h =
    let x : plus r ≤ plus r' = subst (λ (a : ℕ). a ≤ plus r') (sym R.plus_is) (subst (λ (a : ℕ). grid (p - n) c ≤ a) (sym R'.plus_is) (grid_mono (p - n) c (p' - n') c' C C' (sub_mono p n c p' n' c' h))) in
    let y : minus r' ≤ minus r = subst (λ (a : ℕ). a ≤ minus r) (sym R'.minus_is) (subst (λ (a : ℕ). grid (n' - p') c' ≤ a) (sym R.minus_is) (grid_mono (n' - p') c' (n - p) c C' C (sub_mono n' p' c' n p c (omega arith)))) in
    add-le-add x y

-- an exact result at most y, or at least y, for a double y: so is the result
pub rounds_le : (r y : Float) (p n c : ℕ) → Rounds r p n c → 0 < c → T (double y) → p + minus y * c ≤ plus y * c + n → AtMost r y
rounds_le r y p n c R C h l = rounds_mono r y p n c (plus y) (minus y) 1 R (self_rounds y h) C (pow_pos 0) (omega arith)

pub rounds_ge : (r y : Float) (p n c : ℕ) → Rounds r p n c → 0 < c → T (double y) → plus y * c + n ≤ p + minus y * c → AtMost y r
rounds_ge r y p n c R C h l = rounds_mono y r (plus y) (minus y) 1 p n c (self_rounds y h) R (pow_pos 0) C (omega arith)

-- ---- the size of a result
pub rounds_units : (r : Float) (p n c : ℕ) → Rounds r p n c → 0 < c → in_units r ≡ grid (apart p n) c
rounds_units r p n c R C = elim (either n p) [
  | inl l ↦
      let z : n - p ≡ 0 = omega arith in
      let s : p - n ≡ apart p n = omega arith in
      units_of-plus r (R.minus_is ∙ ap (λ (a : ℕ). grid a c) z ∙ grid-zero c C) ∙ R.plus_is ∙ ap (λ (a : ℕ). grid a c) s
  | inr l ↦
      let z : p - n ≡ 0 = omega arith in
      let s : n - p ≡ apart p n = omega arith in
      units_of-minus r (R.plus_is ∙ ap (λ (a : ℕ). grid a c) z ∙ grid-zero c C) ∙ R.minus_is ∙ ap (λ (a : ℕ). grid a c) s
]

-- of a product: the product of the sizes, rounded
pub mul_units : (x y : Float) → T (double x) → T (double y) → T (finite (x ⊗ y)) → in_units (x ⊗ y) ≡ grid (in_units x * in_units y) unit
mul_units x y p q f =
    rounds_units (x ⊗ y) (plus x * plus y + minus x * minus y) (plus x * minus y + minus x * plus y) unit (mul_rounds x y p q f) unit_pos
    ∙ ap (λ (a : ℕ). grid a unit) (shape (plus x) (minus x) (plus y) (minus y) (in_units x) (in_units y) (sides x) (sides y))
  where
    Sides : ℕ → ℕ → ℕ → Type 0
    Sides a b n = ((a ≡ n) × (b ≡ 0)) ⊎ ((a ≡ 0) × (b ≡ n))

    sides : (x : Float) → Sides (plus x) (minus x) (in_units x)
    sides x = elim (one_sided x) [ inl z ↦ inr (z, sym (units_of-minus x z)) | inr z ↦ inl (sym (units_of-plus x z), z) ]

    shape : (a b c d m n : ℕ) → Sides a b m → Sides c d n → apart (a * c + b * d) (a * d + b * c) ≡ m * n
    shape a b c d m n (inl (e, f)) (inl (g, h)) = rw (e, f, g, h) (omega arith)
    shape a b c d m n (inl (e, f)) (inr (g, h)) = rw (e, f, g, h) (omega arith)
    shape a b c d m n (inr (e, f)) (inl (g, h)) = rw (e, f, g, h) (omega arith)
    shape a b c d m n (inr (e, f)) (inr (g, h)) = rw (e, f, g, h) (omega arith)
