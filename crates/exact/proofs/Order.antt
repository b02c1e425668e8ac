-- The comparisons of doubles are those of exact values. Assumes nothing.
use mathlib.Core.Path.{◌≡◌, refl, sym, ap, ◌∙◌}
use mathlib.Core.Logic.{◌⊎◌, inl, inr}
use mathlib.Core.Bool.{Bool, true, false, ◌||◌, beq, true≢false}
use Prim.Native.Nat.{ℕ, ◌+◌, ◌*◌, ◌<◌, ◌≤◌}
use native.Mathlib.Nat.{le_of_eq, le_of_lt, lt_of_not-le, lt_of_le_of_lt, eq-or-lt_of_le, lt_of_lt_of_le, zero-mul, mul_comm, mul_assoc, mul_right_comm, mul-pos, mul-lt-mul_of_pos_right, lt_of_mul-lt-mul_right, eq_of_mul-eq-mul_right}
use native.Mathlib.Omega.{arith}
use lib.IntN.{ℤ}
use lib.Dec.{T, eqb, ltb→lt, lt→ltb, eqb→eq}
use lib.Ieee.{Float, nan, inf, fin, binary64, up, down, fits, below, level, lt, le, eq}
use lib.Ieee.Bits.{is_true}
use lib.Ieee.Fits.{down_pos, and_i, and_l, and_r, eq→eqb}
use Rattle.exact.specs.Value.{unit, in_units, when, unless, plus, minus, double, Less, AtMost, Equal}
use Rattle.exact.proofs.Grid.{either}
use Rattle.exact.proofs.Value.{unit_pos, units_exact}

-- ---- the comparisons
-- a * u is X * W and b * u is Y * W
record Same (a b X Y : ℕ) : Type 0 where
  u : ℕ
  W : ℕ
  U : 0 < u
  P : 0 < W
  ea : a * u ≡ X * W
  eb : b * u ≡ Y * W

cross : (s : Bool) (m : ℕ) (e : ℤ) (t : Bool) (n : ℕ) (d : ℤ) → T (fits binary64 (fin s m e)) → T (fits binary64 (fin t n d))
    → Same (m * up e * down d) (n * up d * down e) (in_units (fin s m e)) (in_units (fin t n d))
cross s m e t n d h k = record {
  u = unit;
  W = down e * down d;
  U = unit_pos;
  P = mul-pos (down_pos e) (down_pos d);
  ea = mul_right_comm (m * up e) (down d) unit ∙ ap (λ (x : ℕ). x * down d) (sym (units_exact s m e h)) ∙ mul_assoc (in_units (fin s m e)) (down e) (down d);
  eb = mul_right_comm (n * up d) (down e) unit ∙ ap (λ (x : ℕ). x * down e) (sym (units_exact t n d k)) ∙ mul_assoc (in_units (fin t n d)) (down d) (down e) ∙ ap (λ (x : ℕ). in_units (fin t n d) * x) (mul_comm (down d) (down e));
}

flip : {a b X Y : ℕ} → Same a b X Y → Same b a Y X
flip r = record { u = r.u; W = r.W; U = r.U; P = r.P; ea = r.eb; eb = r.ea }

lt_up : {a b X Y : ℕ} → Same a b X Y → a < b → X < Y
lt_up {a} {b} {X} {Y} r h = lt_of_mul-lt-mul_right r.W (lt_of_le_of_lt (le_of_eq (sym r.ea)) (lt_of_lt_of_le (mul-lt-mul_of_pos_right h r.U) (le_of_eq r.eb)))

lt-down : {a b X Y : ℕ} → Same a b X Y → X < Y → a < b
lt-down {a} {b} {X} {Y} r h = lt_of_mul-lt-mul_right r.u (lt_of_le_of_lt (le_of_eq r.ea) (lt_of_lt_of_le (mul-lt-mul_of_pos_right h r.P) (le_of_eq (sym r.eb))))

eq-up : {a b X Y : ℕ} → Same a b X Y → a ≡ b → X ≡ Y
eq-up {a} {b} {X} {Y} r h = eq_of_mul-eq-mul_right r.W r.P X Y (sym r.ea ∙ ap (λ (x : ℕ). x * r.u) h ∙ r.eb)

eq-down : {a b X Y : ℕ} → Same a b X Y → X ≡ Y → a ≡ b
eq-down {a} {b} {X} {Y} r h = eq_of_mul-eq-mul_right r.u r.U a b (r.ea ∙ ap (λ (x : ℕ). x * r.W) h ∙ sym r.eb)

-- the second against 0
to_zero : {a b X Y : ℕ} → Same a b X Y → Same a 0 X 0
to_zero r = record { u = r.u; W = r.W; U = r.U; P = r.P; ea = r.ea; eb = zero-mul r.u ∙ sym (zero-mul r.W) }

-- ±a < ±b by the exact sizes X and Y
abbrev Below : Bool → ℕ → Bool → ℕ → Type 0
Below s X t Y = unless s X + when t Y < unless t Y + when s X

below_up : (s : Bool) (a : ℕ) (t : Bool) (b X Y : ℕ) → Same a b X Y → T (below s a t b) → Below s X t Y
below_up false a false b X Y r h = let k : X < Y = lt_up r (ltb→lt a b h) in omega arith
below_up false a true b X Y r h = absurd h
below_up true a false b X Y r h = elim (both (ltb→lt 0 (a + b) h)) [ inl p ↦ (let k : 0 < X = lt_up (flip (to_zero r)) p in omega arith) | inr p ↦ (let k : 0 < Y = lt_up (flip (to_zero (flip r))) p in omega arith) ]
  where
    both : 0 < a + b → (0 < a) ⊎ (0 < b)
    both h = elim (either a 0) [ inl z ↦ inr (omega arith) | inr p ↦ inl p ]
below_up true a true b X Y r h = let k : Y < X = lt_up (flip r) (ltb→lt b a h) in omega arith

below-down : (s : Bool) (a : ℕ) (t : Bool) (b X Y : ℕ) → Same a b X Y → Below s X t Y → T (below s a t b)
below-down false a false b X Y r h = lt→ltb a b (lt-down r (omega arith))
below-down false a true b X Y r h = absurd (none X Y h)
  where
    none : (X Y : ℕ) → X + Y < 0 + 0 → ⊥
    none X Y h = omega arith
below-down true a false b X Y r h = elim (either X 0) [
  | inl z ↦ (let k : 0 < b = lt-down (flip (to_zero (flip r))) (omega arith) in lt→ltb 0 (a + b) (omega arith))
  | inr p ↦ (let k : 0 < a = lt-down (flip (to_zero r)) p in lt→ltb 0 (a + b) (omega arith))
]
below-down true a true b X Y r h = lt→ltb b a (lt-down (flip r) (omega arith))

pub lt→exact : (x y : Float) → T (double x) → T (double y) → T (lt x y) → Less x y
unfolding lt plus minus
lt→exact nan y p q h = absurd p
lt→exact (inf s) y p q h = absurd p
lt→exact (fin s m e) nan p q h = absurd q
lt→exact (fin s m e) (inf t) p q h = absurd q
lt→exact (fin s m e) (fin t n d) p q h = below_up s (m * up e * down d) t (n * up d * down e) (in_units (fin s m e)) (in_units (fin t n d)) (cross s m e t n d p q) h

pub exact→lt : (x y : Float) → T (double x) → T (double y) → Less x y → T (lt x y)
unfolding lt plus minus
exact→lt nan y p q h = absurd p
exact→lt (inf s) y p q h = absurd p
exact→lt (fin s m e) nan p q h = absurd q
exact→lt (fin s m e) (inf t) p q h = absurd q
exact→lt (fin s m e) (fin t n d) p q h = below-down s (m * up e * down d) t (n * up d * down e) (in_units (fin s m e)) (in_units (fin t n d)) (cross s m e t n d p q) h

abbrev Level : Bool → ℕ → Bool → ℕ → Type 0
Level s X t Y = unless s X + when t Y ≡ unless t Y + when s X

level_up : (s : Bool) (a : ℕ) (t : Bool) (b X Y : ℕ) → Same a b X Y → T (level s a t b) → Level s X t Y
level_up s a t b X Y r h = go s t (eq-up r (eqb→eq a b (and_l (eqb a b) (beq s t || eqb a 0) h))) (and_r (eqb a b) (beq s t || eqb a 0) h)
  where
    go : (s t : Bool) → X ≡ Y → T (beq s t || eqb a 0) → Level s X t Y
    go false false e z = omega arith
    go false true e z = let k : X ≡ 0 = eq-up (to_zero r) (eqb→eq a 0 z) in omega arith
    go true false e z = let k : X ≡ 0 = eq-up (to_zero r) (eqb→eq a 0 z) in omega arith
    go true true e z = omega arith

level_down : (s : Bool) (a : ℕ) (t : Bool) (b X Y : ℕ) → Same a b X Y → Level s X t Y → T (level s a t b)
level_down s a t b X Y r h = go s t h
  where
    same : X ≡ Y → T (eqb a b)
    same e = eq→eqb (eq-down r e)

    nil : X ≡ 0 → T (eqb a 0)
    nil e = eq→eqb (eq-down (to_zero r) e)

    go : (s t : Bool) → Level s X t Y → T (level s a t b)
    go false false h = and_i (eqb a b) true (same (omega arith)) tt
    go false true h = and_i (eqb a b) (eqb a 0) (same (omega arith)) (nil (omega arith))
    go true false h = and_i (eqb a b) (eqb a 0) (same (omega arith)) (nil (omega arith))
    go true true h = and_i (eqb a b) true (same (omega arith)) tt

pub eq→exact : (x y : Float) → T (double x) → T (double y) → T (eq x y) → Equal x y
unfolding eq plus minus
eq→exact nan y p q h = absurd p
eq→exact (inf s) y p q h = absurd p
eq→exact (fin s m e) nan p q h = absurd q
eq→exact (fin s m e) (inf t) p q h = absurd q
eq→exact (fin s m e) (fin t n d) p q h = level_up s (m * up e * down d) t (n * up d * down e) (in_units (fin s m e)) (in_units (fin t n d)) (cross s m e t n d p q) h

pub exact→eq : (x y : Float) → T (double x) → T (double y) → Equal x y → T (eq x y)
unfolding eq plus minus
exact→eq nan y p q h = absurd p
exact→eq (inf s) y p q h = absurd p
exact→eq (fin s m e) nan p q h = absurd q
exact→eq (fin s m e) (inf t) p q h = absurd q
exact→eq (fin s m e) (fin t n d) p q h = level_down s (m * up e * down d) t (n * up d * down e) (in_units (fin s m e)) (in_units (fin t n d)) (cross s m e t n d p q) h

or_split : (a b : Bool) → T (a || b) → T a ⊎ T b
or_split true b t = inl tt
or_split false b t = inr t

pub or_l : (a b : Bool) → T a → T (a || b)
or_l true b t = tt
or_l false b t = absurd t

or_r : (a b : Bool) → T b → T (a || b)
or_r true b t = tt
or_r false b t = t

pub le→exact : (x y : Float) → T (double x) → T (double y) → T (le x y) → AtMost x y
unfolding le
le→exact x y p q h = elim (or_split (lt x y) (eq x y) h) [ inl k ↦ le_of_lt (lt→exact x y p q k) | inr k ↦ le_of_eq (eq→exact x y p q k) ]

pub exact→le : (x y : Float) → T (double x) → T (double y) → AtMost x y → T (le x y)
unfolding le
exact→le x y p q h = elim (eq-or-lt_of_le h) [ inl k ↦ or_r (lt x y) (eq x y) (exact→eq x y p q k) | inr k ↦ or_l (lt x y) (eq x y) (exact→lt x y p q k) ]

-- ---- chains, and what a comparison that fails says
pub le-le : (x y z : Float) → T (double x) → T (double y) → T (double z) → T (le x y) → T (le y z) → T (le x z)
le-le x y z p q r h k =
    let a : plus x + minus y ≤ plus y + minus x = le→exact x y p q h in
    let b : plus y + minus z ≤ plus z + minus y = le→exact y z q r k in
    exact→le x z p r (omega (arith, a, b))

not_le→less : (x y : Float) → T (double x) → T (double y) → le x y ≡ false → Less y x
not_le→less x y p q h = lt_of_not-le (λ k. true≢false (sym (is_true (le x y) (exact→le x y p q k)) ∙ h))

pub not_le→le : (x y : Float) → T (double x) → T (double y) → le x y ≡ false → T (le y x)
not_le→le x y p q h = exact→le y x q p (le_of_lt (not_le→less x y p q h))

pub not_lt→le : (x y : Float) → T (double x) → T (double y) → lt x y ≡ false → T (le y x)
not_lt→le x y p q h = by (le y x) refl
  where
    by : (b : Bool) → le y x ≡ b → T b
    by true e = tt
    by false e = true≢false (sym (is_true (lt x y) (exact→lt x y p q (not_le→less y x q p e))) ∙ h)
