-- The signs of residuals, which may be any floats: a finite one is below zero, above it or a zero; what the sign rule says; and that a zero has no sign and no magnitude below it.
-- By cases on the float, and on the comparisons with zero. Assumes nothing.
use mathlib.Core.Path.{◌≡◌, refl, sym, ap, ◌∙◌, subst}
use mathlib.Core.Logic.{◌⊎◌, inl, inr}
use mathlib.Core.Bool.{Bool, true, false, ◌||◌, beq, true≢false}
use Prim.Native.Nat.{ℕ, zero, suc, ◌*◌, ◌<◌}
use native.Mathlib.Nat.{zero-mul, mul-one, mul-pos, lt_irrefl, zero-lt-suc}
use native.Mathlib.Omega.{arith}
use lib.IntN.{ℤ, pos}
use lib.Dec.{T, ltb, eqb, ltb→lt, lt→ltb, eqb→eq}
use lib.Ieee.{Float, nan, inf, fin, up, down, lt, eq}
use lib.Ieee.Fits.{up_pos, down_pos, and_l}
use lib.Ieee.Bits.{is_true}
use lib.Ieee.Scale.{finite}
use lib.Ieee.Positive.{positive}
use Rattle.float.specs.Decimal.{rounded}
use Rattle.float.specs.Sign.{nought, magnitude, same_sign}
use Rattle.float.proofs.Signs.{zero-eq, minus-lt, not_both}
use Rattle.search.specs.Bisection.{small}
use Rattle.search.specs.Demand.{Opposite, Zero}

pub of_true : {b : Bool} → b ≡ true → T b
of_true h = subst T (sym h) tt

abbrev pub Nonzero : Float → Type 0
Nonzero r = T (lt r nought) ⊎ T (lt nought r)

-- ---- zero against what is above it
zero-below : (e : ℤ) (y : Float) → T (positive y) → lt (fin false 0 e) y ≡ true
unfolding lt
zero-below e nan p = absurd p
zero-below e (inf s) p = absurd p
zero-below e (fin true n d) p = absurd p
zero-below e (fin false n d) p =
    is_true (ltb (0 * up e * down d) (n * up d * down e))
    (lt→ltb (0 * up e * down d) (n * up d * down e) (rw (zero-mul (up e), zero-mul (down d)) (mul-pos (mul-pos (ltb→lt 0 n p) (up_pos d)) (down_pos e))))

-- ---- a float that equals zero is one
zero_shape : (r : Float) → Zero r → (s : Bool) × (e : ℤ) × (r ≡ fin s 0 e)
unfolding eq
zero_shape nan z = absurd (true≢false (sym z))
zero_shape (inf s) z = absurd (true≢false (sym z))
zero_shape (fin s zero e) z = (s, e, refl)
zero_shape (fin s (suc m) e) z =
    absurd (lt_irrefl 0 (subst (λ (k : ℕ). 0 < k)
    (sym (mul-one (suc m * up e)) ∙ eqb→eq (suc m * up e * 1) (0 * down e) (and_l (eqb (suc m * up e * 1) (0 * down e)) (beq s false || eqb (suc m * up e * 1) 0) (of_true z)) ∙ zero-mul (down e))
    (mul-pos (zero-lt-suc m) (up_pos e))))

-- it has the same sign as nothing
pub zero-sign : (r a : Float) → Zero r → same_sign r a ≡ false
zero-sign r a z = let w = zero_shape r z in subst (λ (x : Float). same_sign x a ≡ false) (sym w.2) (flat w.0 w.1)
  where
    flat : (s : Bool) (e : ℤ) → same_sign (fin s 0 e) a ≡ false
    flat true e = unfold same_sign lt in rw (zero-mul (up e), zero-mul (down e))
    flat false e = unfold same_sign lt in rw (zero-mul (up e), zero-mul (down e))

-- nothing has a magnitude below its own
pub not-less : (x r : Float) → Zero r → lt (magnitude x) (magnitude r) ≡ true → ⊥
not-less x r z h = let w = zero_shape r z in none x w.1 (subst (λ (y : Float). lt (magnitude x) (magnitude y) ≡ true) w.2 h)
  where
    none : (x : Float) (e : ℤ) → lt (magnitude x) (fin false 0 e) ≡ true → ⊥
    none nan e h = true≢false (sym (unfold lt in h))
    none (inf s) e h = true≢false (sym (unfold lt in h))
    none (fin s m d) e h = never (m * up d * down e) (0 * up e * down d) (ap (λ (k : ℕ). k * down d) (zero-mul (up e)) ∙ zero-mul (down d)) (ltb→lt (m * up d * down e) (0 * up e * down d) (unfold lt in of_true h))
      where
        never : (a b : ℕ) → b ≡ 0 → a < b → ⊥
        never a b e h = omega arith

-- ---- a finite residual
pub three_ways : (r : Float) → finite r ≡ true → Nonzero r ⊎ Zero r
three_ways nan p = absurd (true≢false (sym p))
three_ways (inf s) p = absurd (true≢false (sym p))
three_ways (fin s zero e) p = inr (zero-eq s e)
three_ways (fin true (suc m) e) p = inl (inl (of_true (minus-lt m e)))
three_ways (fin false (suc m) e) p = inl (inr (of_true (zero-below (pos 0) (fin false (suc m) e) (lt→ltb 0 (suc m) (zero-lt-suc m)))))

pub no_zero : (r : Float) → finite r ≡ true → eq r nought ≡ false → Nonzero r
no_zero r p h = elim (three_ways r p) [ inl n ↦ n | inr z ↦ absurd (true≢false (sym z ∙ h)) ]

-- one that is not small is no zero
pub not-small : (r : Float) → finite r ≡ true → lt (magnitude r) small ≡ false → Nonzero r
not-small r p h = elim (three_ways r p) [
  | inl n ↦ n
  | inr z ↦ let w = zero_shape r z in absurd (true≢false (sym (zero-below w.1 small (unfold rounded in tt)) ∙ subst (λ (x : Float). lt (magnitude x) small ≡ false) w.2 h))
]

-- ---- two residuals
above : (r : Float) → T (lt nought r) → lt r nought ≡ false
above r h = go (lt r nought) refl
  where
    go : (b : Bool) → lt r nought ≡ b → lt r nought ≡ false
    go true e = absurd (true≢false (sym (is_true (lt nought r) h) ∙ not_both r e))
    go false e = e

under : (r : Float) → T (lt r nought) → lt nought r ≡ false
under r h = not_both r (is_true (lt r nought) h)

pub same : (a b : Float) → (T (lt a nought) × T (lt b nought)) ⊎ (T (lt nought a) × T (lt nought b)) → same_sign a b ≡ true
unfolding same_sign
same a b (inl h) = rw (is_true (lt a nought) h.0, is_true (lt b nought) h.1)
same a b (inr h) = rw (above a h.0, is_true (lt nought a) h.0, is_true (lt nought b) h.1)

pub unlike : (a b : Float) → Opposite a b → same_sign a b ≡ false
unfolding same_sign
unlike a b (inl h) = rw (under a h.0, above b h.1, is_true (lt a nought) h.0)
unlike a b (inr h) = rw (above a h.0, under b h.1, is_true (lt nought a) h.0)

pub opposite_sym : (a b : Float) → Opposite a b → Opposite b a
opposite_sym a b (inl h) = inr (h.1, h.0)
opposite_sym a b (inr h) = inl (h.1, h.0)

-- the sign rule keeps the residuals opposite
pub sign-rule : (r a b : Float) → Nonzero r → Opposite a b → ((same_sign r a ≡ true) × Opposite r b) ⊎ ((same_sign r a ≡ false) × Opposite a r)
sign-rule r a b (inl n) (inl o) = inl (same r a (inl (n, o.0)), inl (n, o.1))
sign-rule r a b (inl n) (inr o) = inr (unlike r a (inl (n, o.0)), inr (o.0, n))
sign-rule r a b (inr n) (inl o) = inr (unlike r a (inr (n, o.0)), inl (o.0, n))
sign-rule r a b (inr n) (inr o) = inl (same r a (inr (n, o.0)), inr (n, o.1))

-- two that are no zeros and have not the same sign are opposite
pub unlike_signs : (a b : Float) → Nonzero a → Nonzero b → same_sign a b ≡ false → Opposite a b
unlike_signs a b (inl p) (inl q) h = absurd (true≢false (sym (same a b (inl (p, q))) ∙ h))
unlike_signs a b (inl p) (inr q) h = inl (p, q)
unlike_signs a b (inr p) (inl q) h = inr (p, q)
unlike_signs a b (inr p) (inr q) h = absurd (true≢false (sym (same a b (inr (p, q))) ∙ h))
