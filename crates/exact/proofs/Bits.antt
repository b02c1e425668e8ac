-- The bit patterns of doubles that are not negative, and their exact values: what a pattern below the infinity's stands for, and the significand and the exponent's field of a double. Assumes nothing.
use mathlib.Core.Path.{◌≡◌, sym, ap, ◌∙◌, subst}
use mathlib.Core.Logic.{inl, inr}
use mathlib.Core.Bool.{Bool, false, not, cond}
use Prim.Native.Nat.{ℕ, suc, ◌+◌, ◌-◌, ◌*◌, ◌/◌, ◌%◌, ◌^◌, ◌≤◌, ◌<◌}
use native.Mathlib.Nat.{le_trans, le_of_eq, lt_of_lt_of_le, lt_of_le_of_lt, lt_of_not-le, not-le_of_lt, lt_irrefl, mul-le-mul_right, mul-lt-mul_of_pos_right, eq-zero-or-pos}
use native.Mathlib.Omega.{arith}
use lib.Dec.{T, leb, eqb, eqb→eq, not_T}
use lib.Arith.{lt→nleb, le→nltb}
use lib.Pow.{pow-add, pow_pos, pow_mono}
use lib.Ieee.{Float, inf, nan, binary64, size, odd, fits, of_fields, of_bits, to_bits, nan_bits}
use lib.Ieee.Digits.{size-le}
use lib.Ieee.Fits.{kept-lt, and_l, and_r}
use lib.Ieee.Exact.{HasValue, odd_sign}
use lib.Ieee.Bits.{is_false, cond_no, of_bits-to_bits, nan_bits_above}
use lib.Ieee.Scale.{finite}
use Rattle.exact.specs.Value.{in_units, negative, double}
use Rattle.exact.proofs.Grid.{either}
use Rattle.exact.proofs.Value.{units_of, units_lt, to_bits_units}

-- ---- what a bit pattern below the infinity's is
same_fields : {s s' : Bool} {x x' t t' : ℕ} → s ≡ s' → x ≡ x' → t ≡ t' → of_fields binary64 s x t ≡ of_fields binary64 s' x' t'
same_fields {s} {s'} {x} {x'} {t} {t'} p q r = cc

of_bits_fields : (x t : ℕ) → x < 2047 → t < 2 ^ 52 → of_bits binary64 (x * 2 ^ 52 + t) ≡ of_fields binary64 false x t
unfolding of_bits
of_bits_fields x t X H =
    same_fields (is_false (leb (2 ^ 63) (x * 2 ^ 52 + t)) (lt→nleb (2 ^ 63) (x * 2 ^ 52 + t) (omega arith))) (field x t X H) (low x t H)
  where
    field : (x t : ℕ) → x < 2047 → t < 2 ^ 52 → (x * 2 ^ 52 + t) % 2 ^ 63 / 2 ^ 52 ≡ x
    field x t X H = omega arith

    low : (x t : ℕ) → t < 2 ^ 52 → (x * 2 ^ 52 + t) % 2 ^ 52 ≡ t
    low x t H = omega arith

-- the exponent's field is 0: t units
pub bits_low : (t : ℕ) → t < 2 ^ 52 → HasValue (of_bits binary64 t) false (t * 2 ^ 0) (2 ^ 1074)
unfolding of_fields
bits_low t h =
    subst (λ (v : Float). HasValue v false (t * 2 ^ 0) (2 ^ 1074)) (sym (ap (of_bits binary64) (plain t) ∙ of_bits_fields 0 t (omega arith) h)) (odd_sign 53 false t 0 1074)
  where
    plain : (t : ℕ) → t ≡ 0 * 2 ^ 52 + t
    plain t = omega arith

-- the field is x + 1: (2 ^ 52 + t) * 2 ^ x units
pub bits_mid : (x t : ℕ) → suc x < 2047 → t < 2 ^ 52 → HasValue (of_bits binary64 (suc x * 2 ^ 52 + t)) false ((2 ^ 52 + t) * 2 ^ x) (2 ^ 1074)
bits_mid x t l h =
    subst (λ (v : Float). HasValue v false ((2 ^ 52 + t) * 2 ^ x) (2 ^ 1074)) (sym (of_bits_fields (suc x) t l h ∙ at x t l)) (odd_sign 53 false (2 ^ 52 + t) x 1074)
  where
    ne : (x : ℕ) → suc x < 2047 → suc x ≡ 2047 → ⊥
    ne x h e = omega arith

    at : (x t : ℕ) → suc x < 2047 → of_fields binary64 false (suc x) t ≡ odd 53 false (2 ^ 52 + t) x 1074
    at x t h = unfold of_fields in cond_no (eqb (suc x) 2047) (cond (eqb t 0) (inf false) nan) (odd 53 false (2 ^ 52 + t) x 1074) (not_T (eqb (suc x) 2047) (λ u. ne x h (eqb→eq (suc x) 2047 u)))

-- ---- the significand m of the pattern b, and its place: the double is m * 2 ^ j units
pub record Significand (b m j : ℕ) : Type 0 where
  pub value : HasValue (of_bits binary64 b) false (m * 2 ^ j) (2 ^ 1074)
  pub some : 0 < m
  pub few : m < 2 ^ 53
  pub low : j ≤ 2045

pub subnormal : (b : ℕ) → 0 < b → b / 2 ^ 52 ≤ 0 → Significand b (b % 2 ^ 52) 0
subnormal b P l =
    let e : b % 2 ^ 52 ≡ b = omega arith in
    subst (λ (m : ℕ). Significand b m 0) (sym e) (record { value = bits_low b (omega arith); some = P; few = omega arith; low = omega arith })

pub normal : (b : ℕ) → b < 2047 * 2 ^ 52 → 0 < b / 2 ^ 52 → Significand b (b % 2 ^ 52 + 2 ^ 52) (b / 2 ^ 52 - 1)
normal b h l =
    let x = b / 2 ^ 52 - 1 in
    let t = b % 2 ^ 52 in
    let e : suc x * 2 ^ 52 + t ≡ b = omega arith in
    let f : 2 ^ 52 + t ≡ t + 2 ^ 52 = omega arith in
    record {
      value = subst (λ (n : ℕ). HasValue (of_bits binary64 b) false (n * 2 ^ x) (2 ^ 1074)) f (subst (λ (n : ℕ). HasValue (of_bits binary64 n) false ((2 ^ 52 + t) * 2 ^ x) (2 ^ 1074)) e (bits_mid x t (omega arith) (omega arith)));
      some = omega arith;
      few = omega arith;
      low = omega arith;
    }

-- no NaN's bits
pub not_nan_bits : (b : ℕ) → b < 2047 * 2 ^ 52 → T (not (nan_bits binary64 b))
not_nan_bits b h = subst (λ (t : Bool). T (not t)) (sym (nan_bits_above binary64 b)) (le→nltb (2047 * 2 ^ 52) (b % 2 ^ 63) (omega arith))

-- ---- the bits of a double with the sign +
module _ (x : Float) (d : T (double x)) (s : negative x ≡ false) where
  back : of_bits binary64 (to_bits binary64 x) ≡ x
  back = of_bits-to_bits binary64 x (and_r (finite x) (fits binary64 x) d)

  pub bits_below : to_bits binary64 x < 2047 * 2 ^ 52
  bits_below =
      let n = in_units x in
      subst (λ (b : ℕ). b < 2047 * 2 ^ 52) (sym (to_bits_units x (and_l (finite x) (fits binary64 x) d) ∙ ap (λ (t : Bool). cond t (2 ^ 63) 0 + (size n - 53) * 2 ^ 52 + n / 2 ^ (size n - 53)) s))
      (below (size n - 53) (n / 2 ^ (size n - 53)) (fewer (size n) (size-le n 2098 (units_lt x d))) (kept-lt 53 n))
    where
      below : (k d : ℕ) → k ≤ 2045 → d < 2 ^ 53 → 0 + k * 2 ^ 52 + d < 2047 * 2 ^ 52
      below k d h l = omega arith

      fewer : (z : ℕ) → z ≤ 2098 → z - 53 ≤ 2045
      fewer z h = omega arith

  -- the size that a pattern's significand says is the double's
  pub units_at : (m j : ℕ) → Significand (to_bits binary64 x) m j → in_units x ≡ m * 2 ^ j
  units_at m j g = (units_of x false (m * 2 ^ j) (subst (λ (v : Float). HasValue v false (m * 2 ^ j) (2 ^ 1074)) back g.value)).0

  pub bits_some : 0 < in_units x → 0 < to_bits binary64 x
  bits_some P = elim (eq-zero-or-pos (to_bits binary64 x)) [
    | inl z ↦ absurd (lt_irrefl 0 (subst (λ (n : ℕ). 0 < n) (ap in_units (sym back ∙ ap (of_bits binary64) z) ∙ (units_of (of_bits binary64 0) false (0 * 2 ^ 0) (bits_low 0 (pow_pos 52))).0) P))
    | inr h ↦ h
  ]

-- ---- a double in the normal range: M * 2 ^ k units with 2 ^ 52 ≤ M < 2 ^ 53, the exponent's field k + 1 and the digits M less 2 ^ 52
pub record Parts (x : Float) : Type 0 where
  pub k : ℕ
  pub M : ℕ
  pub is : in_units x ≡ M * 2 ^ k
  pub least : 2 ^ 52 ≤ M
  pub most : M < 2 ^ 53
  pub field : to_bits binary64 x / 2 ^ 52 ≡ k + 1
  pub digits : to_bits binary64 x % 2 ^ 52 ≡ M - 2 ^ 52

pub parts : (x : Float) → T (double x) → negative x ≡ false → 2 ^ 52 ≤ in_units x → Parts x
parts x d s h =
    let b = to_bits binary64 x in
    let below : b < 2047 * 2 ^ 52 = bits_below x d s in
    elim (either (b / 2 ^ 52) 0) [
      | inl l ↦
          let u : in_units x ≡ b % 2 ^ 52 * 2 ^ 0 = units_at x d s (b % 2 ^ 52) 0 (subnormal b (bits_some x d s (lt_of_lt_of_le (pow_pos 52) h)) l) in
          absurd (omega arith)
      | inr l ↦
          let g = normal b below l in
          record { k = b / 2 ^ 52 - 1; M = b % 2 ^ 52 + 2 ^ 52; is = units_at x d s (b % 2 ^ 52 + 2 ^ 52) (b / 2 ^ 52 - 1) g; least = omega arith; most = g.few; field = omega arith; digits = omega arith }
    ]

-- between two powers of two of units
module _ (x : Float) (P : Parts x) (j : ℕ) where
  exponent_lt : (i j : ℕ) → 2 ^ i < 2 ^ j → i < j
  exponent_lt i j h = lt_of_not-le (λ (k : j ≤ i). not-le_of_lt h (pow_mono k))

  pub parts_above : 2 ^ j ≤ in_units x → j < 53 + P.k
  parts_above h =
      exponent_lt j (53 + P.k) (lt_of_le_of_lt h (lt_of_le_of_lt (le_of_eq P.is) (lt_of_lt_of_le (mul-lt-mul_of_pos_right P.most (pow_pos P.k)) (le_of_eq (sym (pow-add 2 53 P.k))))))

  pub parts_below : in_units x < 2 ^ j → 52 + P.k < j
  parts_below h =
      exponent_lt (52 + P.k) j (lt_of_le_of_lt (le_trans (le_of_eq (pow-add 2 52 P.k)) (le_trans (mul-le-mul_right (2 ^ P.k) P.least) (le_of_eq (sym P.is)))) h)
