-- The exact value of a double: nothing is cut off, it is q * 2 ^ j units with q below 2 ^ 53, it lies below 2 ^ 2098 units, and with the sign it says which double it is. Assumes nothing.
use mathlib.Core.Path.{◌≡◌, refl, sym, ap, ◌∙◌, subst}
use mathlib.Core.Logic.{◌⊎◌, inl, inr}
use mathlib.Core.Bool.{Bool, true, false, ◌&&◌, cond}
use Prim.Native.Nat.{ℕ, zero, suc, ◌+◌, ◌-◌, ◌*◌, ◌/◌, ◌%◌, ◌^◌, ◌≤◌, ◌<◌}
use native.Mathlib.Omega.{arith}
use native.Mathlib.Nat.{le_of_eq, lt_of_le_of_lt, lt_of_lt_of_le, not-le_of_lt, lt_of_not-le, le_of_suc-le-suc, mul-one, one-mul, zero-mul, mul_assoc, mul_right_comm, mul-pos, mul-lt-mul_of_pos_right, lt_of_mul-lt-mul_right, mul-div_cancel, zero-div, zero-lt-suc}
use lib.IntN.{ℤ, pos, negsuc}
use lib.Dec.{T, leb, ltb, eqb, leb→le, ltb→lt}
use lib.Pow.{pow-add, pow_pos, pow-lt}
use lib.Ieee.{Float, nan, inf, fin, binary64, up, down, size, fits, to_bits}
use lib.Ieee.Digits.{back}
use lib.Ieee.Exact.{HasValue}
use lib.Ieee.Fits.{down_pos, and_i, and_l, and_r}
use lib.Ieee.Bits.{of_bits-to_bits}
use lib.Ieee.Scale.{finite}
use lib.Ieee.Positive.{positive}
use Rattle.exact.specs.Value.{unit, in_units, negative, when, unless, plus, minus, double}
use Rattle.exact.specs.Rounding.{grid, apart}
use Rattle.exact.proofs.Grid.{grid_exact}

pub unit_pos : 0 < unit
unfolding unit
unit_pos = pow_pos 1074

pub double_of : (x : Float) → T (finite x) → T (fits binary64 x) → T (double x)
double_of x t u = and_i (finite x) (fits binary64 x) t u

-- ---- what `fits` says of a number above zero in size
record Held (m : ℕ) (e : ℤ) : Type 0 where
  few : m < 2 ^ 53
  fine : down e ≤ 2 ^ 1074
  top : m * up e < 2 ^ 1024 * down e

held : (s : Bool) (m : ℕ) (e : ℤ) → T (fits binary64 (fin s (suc m) e)) → Held (suc m) e
unfolding fits
held s m e t =
    let A = eqb (suc m % 2) 1 in
    let B = ltb (suc m) (2 ^ 53) in
    let C = leb (down e) (2 ^ 1074) in
    let D = ltb (suc m * up e) (2 ^ 1024 * down e) in
    record {
      few = ltb→lt (suc m) (2 ^ 53) (and_r A B (and_l (A && B) C (and_l (A && B && C) D t)));
      fine = leb→le (down e) (2 ^ 1074) (and_r (A && B) C (and_l (A && B && C) D t));
      top = ltb→lt (suc m * up e) (2 ^ 1024 * down e) (and_r (A && B && C) D t);
    }

-- 2 ^ e is a power of two of units
grain : (e : ℤ) → down e ≤ 2 ^ 1074 → (j : ℕ) × (up e * unit ≡ 2 ^ j * down e)
unfolding unit
grain (pos k) h = (k + 1074, sym (pow-add 2 k 1074) ∙ sym (mul-one (2 ^ (k + 1074))))
grain (negsuc k) h = (1074 - suc k, one-mul (2 ^ 1074) ∙ ap (λ (x : ℕ). 2 ^ x) (sym (back 1074 (suc k) (least (suc k) 1074 h))) ∙ pow-add 2 (1074 - suc k) (suc k))
  where
    least : (i j : ℕ) → 2 ^ i ≤ 2 ^ j → i ≤ j
    least i j h = le_of_suc-le-suc (lt_of_not-le (λ (k : suc j ≤ i). not-le_of_lt (pow-lt k) h))

placed : (m : ℕ) (e : ℤ) → Held m e → (j : ℕ) × (m * up e * unit ≡ m * 2 ^ j * down e)
placed m e h = let w = grain e h.fine in (w.0, mul_assoc m (up e) unit ∙ ap (λ (a : ℕ). m * a) w.1 ∙ sym (mul_assoc m (2 ^ w.0) (down e)))

-- ---- the size is q * 2 ^ j units
pub record Rep (n : ℕ) : Type 0 where
  pub q : ℕ
  pub j : ℕ
  pub small : q < 2 ^ 53
  pub is : n ≡ q * 2 ^ j

pub zero_rep : Rep 0
zero_rep = record { q = 0; j = 0; small = pow_pos 53; is = refl }

pub zero_units : (s : Bool) (e : ℤ) → in_units (fin s 0 e) ≡ 0
unfolding in_units
zero_units s e = ap (λ (a : ℕ). a * unit / down e) (zero-mul (up e)) ∙ ap (λ (a : ℕ). a / down e) (zero-mul unit) ∙ zero-div (down e)

pub units_rep : (x : Float) → T (double x) → Rep (in_units x)
units_rep nan h = absurd h
units_rep (inf s) h = absurd h
units_rep (fin s zero e) h = subst Rep (sym (zero_units s e)) zero_rep
units_rep (fin s (suc m) e) h =
    let d = held s m e h in
    let w = placed (suc m) e d in
    record { q = suc m; j = w.0; small = d.few; is = unfold in_units in ap (λ (a : ℕ). a / down e) w.1 ∙ mul-div_cancel (suc m * 2 ^ w.0) (down_pos e) }

-- nothing is cut off
pub units_exact : (s : Bool) (m : ℕ) (e : ℤ) → T (fits binary64 (fin s m e)) → in_units (fin s m e) * down e ≡ m * up e * unit
units_exact s zero e h = ap (λ (a : ℕ). a * down e) (zero_units s e) ∙ zero-mul (down e) ∙ sym (ap (λ (a : ℕ). a * unit) (zero-mul (up e)) ∙ zero-mul unit)
units_exact s (suc m) e h =
    let w = placed (suc m) e (held s m e h) in
    unfold in_units in
    ap (λ (a : ℕ). a / down e * down e) w.1 ∙ ap (λ (a : ℕ). a * down e) (mul-div_cancel (suc m * 2 ^ w.0) (down_pos e)) ∙ sym w.1

-- so a double is on the grid, and any fraction that equals a double rounds to it
pub grid_rep_at : (n a c : ℕ) → 0 < c → Rep n → a ≡ n * c → grid a c ≡ n
grid_rep_at n a c C r h = grid_exact a c r.q r.j C r.small (h ∙ ap (λ (x : ℕ). x * c) r.is) ∙ sym r.is

pub grid_rep : (n : ℕ) → Rep n → grid n 1 ≡ n
grid_rep n r = grid_rep_at n n 1 (pow_pos 0) r (sym (mul-one n))

pub units_lt : (x : Float) → T (double x) → in_units x < 2 ^ 2098
units_lt nan h = absurd h
units_lt (inf s) h = absurd h
units_lt (fin s zero e) h = subst (λ (n : ℕ). n < 2 ^ 2098) (sym (zero_units s e)) (pow_pos 2098)
units_lt (fin s (suc m) e) h =
    lt_of_mul-lt-mul_right (down e)
    (lt_of_le_of_lt (le_of_eq (units_exact s (suc m) e h)) (lt_of_lt_of_le (mul-lt-mul_of_pos_right (held s m e h).top unit_pos) (le_of_eq (mul_right_comm (2 ^ 1024) (down e) unit ∙ ap (λ (a : ℕ). a * down e) joined))))
  where
    joined : 2 ^ 1024 * unit ≡ 2 ^ 2098
    joined = unfold unit in refl

pub units_pos : (s : Bool) (m : ℕ) (e : ℤ) → T (fits binary64 (fin s (suc m) e)) → 0 < in_units (fin s (suc m) e)
units_pos s m e h =
    let w = placed (suc m) e (held s m e h) in
    unfold in_units in
    subst (λ (n : ℕ). 0 < n) (sym (ap (λ (a : ℕ). a / down e) w.1 ∙ mul-div_cancel (suc m * 2 ^ w.0) (down_pos e))) (mul-pos (zero-lt-suc m) (pow_pos w.0))

-- ---- what a fraction over 2 ^ 1074 is in units
pub units_of : (x : Float) (s : Bool) (n : ℕ) → HasValue x s n (2 ^ 1074) → (in_units x ≡ n) × (negative x ≡ s) × T (finite x)
unfolding in_units
units_of nan s n h = absurd h
units_of (inf t) s n h = absurd h
units_of (fin t m e) s n h = (ap (λ (a : ℕ). a / down e) h.1 ∙ mul-div_cancel n (down_pos e), h.0, tt)

-- ---- the two parts of the value
module _ (x : Float) where
  pub one_sided : (plus x ≡ 0) ⊎ (minus x ≡ 0)
  unfolding plus minus
  one_sided = go (negative x)
    where
      go : (s : Bool) → (unless s (in_units x) ≡ 0) ⊎ (when s (in_units x) ≡ 0)
      go true = inl refl
      go false = inr refl

  pub units_of-plus : minus x ≡ 0 → in_units x ≡ plus x
  unfolding plus minus
  units_of-plus h = go (negative x) h
    where
      go : (s : Bool) → when s (in_units x) ≡ 0 → in_units x ≡ unless s (in_units x)
      go true h = h
      go false h = refl

  pub units_of-minus : plus x ≡ 0 → in_units x ≡ minus x
  unfolding plus minus
  units_of-minus h = go (negative x) h
    where
      go : (s : Bool) → unless s (in_units x) ≡ 0 → in_units x ≡ when s (in_units x)
      go true h = refl
      go false h = h

  pub units_apart : in_units x ≡ apart (plus x) (minus x)
  unfolding plus minus
  units_apart = go (negative x)
    where
      go : (s : Bool) → in_units x ≡ apart (unless s (in_units x)) (when s (in_units x))
      go true = omega arith
      go false = omega arith

  pub plus_rep : T (double x) → Rep (plus x)
  unfolding plus
  plus_rep d = go (negative x)
    where
      go : (s : Bool) → Rep (unless s (in_units x))
      go true = zero_rep
      go false = units_rep x d

  pub minus_rep : T (double x) → Rep (minus x)
  unfolding minus
  minus_rep d = go (negative x)
    where
      go : (s : Bool) → Rep (when s (in_units x))
      go true = units_rep x d
      go false = zero_rep

  -- with the sign +
  pub plus_of_sign : negative x ≡ false → plus x ≡ in_units x
  unfolding plus
  plus_of_sign e = ap (λ (s : Bool). unless s (in_units x)) e

-- ---- above zero
pub positive_minus : (x : Float) → T (positive x) → minus x ≡ 0
unfolding minus
positive_minus nan h = absurd h
positive_minus (inf s) h = absurd h
positive_minus (fin true m e) h = absurd h
positive_minus (fin false m e) h = refl

pub positive_double : (x : Float) → T (fits binary64 x) → T (positive x) → T (double x)
positive_double nan f h = absurd h
positive_double (inf s) f h = absurd h
positive_double (fin s m e) f h = f

-- ---- the sign and the size say which double it is: its bits are made of them alone
abbrev pub bits_of : Bool → ℕ → ℕ
bits_of s n = cond s (2 ^ 63) 0 + (size n - 53) * 2 ^ 52 + n / 2 ^ (size n - 53)

pub to_bits_units : (x : Float) → T (finite x) → to_bits binary64 x ≡ bits_of (negative x) (in_units x)
unfolding to_bits in_units
to_bits_units nan p = absurd p
to_bits_units (inf s) p = absurd p
to_bits_units (fin s m e) p = refl

pub same_value : (x y : Float) → T (double x) → T (double y) → negative x ≡ negative y → in_units x ≡ in_units y → x ≡ y
same_value x y p q s e =
    sym (of_bits-to_bits binary64 x (and_r (finite x) (fits binary64 x) p))
    ∙ ap (lib.Ieee.of_bits binary64) (to_bits_units x (and_l (finite x) (fits binary64 x) p) ∙ ap (λ (t : Bool). bits_of t (in_units x)) s ∙ ap (bits_of (negative y)) e ∙ sym (to_bits_units y (and_l (finite y) (fits binary64 y) q)))
    ∙ of_bits-to_bits binary64 y (and_r (finite y) (fits binary64 y) q)
