-- A double's sign by comparisons with zero, and the two zeros. Assumes nothing.
use mathlib.Core.Path.{◌≡◌, refl, sym, ap, ◌∙◌, subst}
use mathlib.Core.Bool.{Bool, true, false, ◌||◌, not, beq, true≢false}
use Prim.Native.Nat.{ℕ, zero, suc, ◌+◌, ◌-◌, ◌*◌, ◌^◌, ◌≤◌, ◌<◌}
use native.Mathlib.Nat.{zero-mul, mul-one, one-mul, mul-pos, lt_irrefl, zero-lt-suc, pow-succ'}
use native.Mathlib.Omega.{arith}
use lib.IntN.{ℤ, pos, negsuc}
use lib.Dec.{T, ltb, eqb, ltb→lt, lt→ltb, eqb→eq, eqb_refl}
use lib.Pow.{pow_pos}
use lib.Ieee.{Float, nan, inf, fin, binary64, up, down, neg, sub, fits, lt, eq, ne, is_nan}
use lib.Ieee.Fits.{up_pos, and_l}
use lib.Ieee.Bits.{is_true}
use lib.Ieee.Scale.{finite}
use Rattle.exact.specs.Operations.{◌⊖◌}
use Rattle.exact.specs.Value.{in_units, negative, plus, minus, double}
use Rattle.exact.specs.Rounding.{grid, apart}
use Rattle.exact.proofs.Grid.{grid-zero}
use Rattle.exact.proofs.Value.{zero_units}
use Rattle.exact.proofs.Order.{exact→eq}
use Rattle.exact.proofs.Operations.{sub_rounds}
use Rattle.exact.proofs.Finite.{sub_finite}
use Rattle.float.specs.Sign.{nought, with_sign, magnitude}

-- ---- the two zeros
pub zero-eq : (s : Bool) (e : ℤ) → eq (fin s 0 e) nought ≡ true
unfolding eq
zero-eq true e = rw (zero-mul (up e), zero-mul (down e)) refl
zero-eq false e = rw (zero-mul (up e), zero-mul (down e)) refl

-- what is not zero in size is on one side of zero
size_pos : (m : ℕ) (e : ℤ) → 0 < suc m * up e
size_pos m e = mul-pos (zero-lt-suc m) (up_pos e)

pub minus-lt : (m : ℕ) (e : ℤ) → lt (fin true (suc m) e) nought ≡ true
unfolding lt
minus-lt m e = is_true (ltb 0 (suc m * up e * 1 + 0 * down e)) (lt→ltb 0 (suc m * up e * 1 + 0 * down e) (more (suc m * up e) (0 * down e) (size_pos m e)))
  where
    more : (a b : ℕ) → 0 < a → 0 < a * 1 + b
    more a b h = omega arith

-- the format writes a zero in one way
flat : (e : ℤ) → up e * down e ≡ 1 → e ≡ pos 0
flat (pos zero) h = refl
flat (pos (suc k)) h = absurd (two (2 ^ k) (pow_pos k) (sym (pow-succ' 2 k) ∙ sym (mul-one (2 ^ suc k)) ∙ h))
  where
    two : (p : ℕ) → 0 < p → 2 * p ≡ 1 → ⊥
    two p h e = omega arith
flat (negsuc k) h = absurd (two (2 ^ k) (pow_pos k) (sym (pow-succ' 2 k) ∙ sym (one-mul (2 ^ suc k)) ∙ h))
  where
    two : (p : ℕ) → 0 < p → 2 * p ≡ 1 → ⊥
    two p h e = omega arith

pub zero_is : (x : Float) → T (fits binary64 x) → eq x nought ≡ true → x ≡ with_sign (negative x) nought
unfolding eq
zero_is nan t h = absurd (true≢false (sym h))
zero_is (inf s) t h = absurd (true≢false (sym h))
zero_is (fin s zero e) t h = ap (fin s 0) (flat e (eqb→eq (up e * down e) 1 (unfold fits in t)))
zero_is (fin s (suc m) e) t h =
    absurd (lt_irrefl 0 (subst (λ (k : ℕ). 0 < k)
    (sym (mul-one (suc m * up e)) ∙ eqb→eq (suc m * up e * 1) (0 * down e) (and_l (eqb (suc m * up e * 1) (0 * down e)) (beq s false || eqb (suc m * up e * 1) 0) (subst T (sym h) tt)) ∙ zero-mul (down e))
    (size_pos m e)))

-- ---- the sign by the comparisons
pub sign_below : (x : Float) → lt x nought ≡ true → negative x ≡ true
unfolding lt
sign_below nan h = absurd (true≢false (sym h))
sign_below (inf true) h = refl
sign_below (inf false) h = absurd (true≢false (sym h))
sign_below (fin true m e) h = refl
sign_below (fin false m e) h = absurd (none (m * up e * 1) (subst (λ (k : ℕ). m * up e * 1 < k) (zero-mul (down e)) (ltb→lt (m * up e * 1) (0 * down e) (subst T (sym h) tt))))
  where
    none : (a : ℕ) → a < 0 → ⊥
    none a h = omega arith

pub sign_above : (x : Float) → eq x nought ≡ false → lt x nought ≡ false → negative x ≡ false
sign_above nan p q = refl
sign_above (inf true) p q = absurd (true≢false (unfold lt in q))
sign_above (inf false) p q = refl
sign_above (fin false m e) p q = refl
sign_above (fin true zero e) p q = absurd (true≢false (sym (zero-eq true e) ∙ p))
sign_above (fin true (suc m) e) p q = absurd (true≢false (sym (minus-lt m e) ∙ q))

-- what is above zero is not below it
pub not_both : (x : Float) → lt x nought ≡ true → lt nought x ≡ false
unfolding lt
not_both nan h = refl
not_both (inf true) h = refl
not_both (inf false) h = absurd (true≢false (sym h))
not_both (fin true m e) h = refl
not_both (fin false m e) h = absurd (true≢false (sym (sign_below (fin false m e) h)))

-- ---- the magnitude by the sign
pub negated : (x : Float) → negative x ≡ true → neg x ≡ magnitude x
unfolding neg
negated nan h = refl
negated (inf s) h = ap inf (ap not h)
negated (fin s m e) h = ap (λ (t : Bool). fin (not t) m e) h

pub unchanged : (x : Float) → negative x ≡ false → x ≡ magnitude x
unchanged nan h = refl
unchanged (inf s) h = ap inf h
unchanged (fin s m e) h = ap (λ (t : Bool). fin t m e) h

-- the sign put on
pub put_on : (x : Float) → neg (magnitude x) ≡ with_sign true x
unfolding neg
put_on nan = refl
put_on (inf s) = refl
put_on (fin s m e) = refl

-- ---- a NaN is what differs from itself
pub nan_is : (x : Float) → ne x x ≡ is_nan x
unfolding ne is_nan
nan_is nan = refl
nan_is (inf true) = refl
nan_is (inf false) = refl
nan_is (fin true m e) = rw (is_true (eqb (m * up e * down e) (m * up e * down e)) (eqb_refl (m * up e * down e)))
nan_is (fin false m e) = rw (is_true (eqb (m * up e * down e) (m * up e * down e)) (eqb_refl (m * up e * down e)))

pub no_nan : (x : Float) → ne x x ≡ false → T (not (is_nan x))
no_nan x h = subst (λ (b : Bool). T (not b)) (sym h ∙ nan_is x) tt

-- ---- x - x is a zero exactly where x is finite
nought-double : T (double nought)
nought-double = unfold fits in tt

pub self_minus_self : (x : Float) → T (fits binary64 x) → eq (x ⊖ x) nought ≡ finite x
self_minus_self nan t = unfold sub eq in refl
self_minus_self (inf true) t = unfold sub eq in refl
self_minus_self (inf false) t = unfold sub eq in refl
self_minus_self (fin s m e) t =
    let x : Float = fin s m e in
    let R = sub_rounds x x t t (sub_finite x x x t t t (none (plus x) (minus x) (in_units x))) in
    let P : plus (x ⊖ x) ≡ 0 = R.plus_is ∙ ap (λ (a : ℕ). grid a 1) (same (plus x) (minus x)) ∙ grid-zero 1 (pow_pos 0) in
    let M : minus (x ⊖ x) ≡ 0 = R.minus_is ∙ ap (λ (a : ℕ). grid a 1) (emas (plus x) (minus x)) ∙ grid-zero 1 (pow_pos 0) in
    let p0 : plus nought ≡ 0 = unfold plus in zero_units false (pos 0) in
    let m0 : minus nought ≡ 0 = unfold minus in refl in
    is_true (eq (x ⊖ x) nought) (exact→eq (x ⊖ x) nought R.is_double nought-double (omega arith))
  where
    none : (p n u : ℕ) → apart (p + n) (n + p) ≤ u
    none p n u = omega arith

    same : (p n : ℕ) → p + n - (n + p) ≡ 0
    same p n = omega arith

    emas : (p n : ℕ) → n + p - (p + n) ≡ 0
    emas p n = omega arith
