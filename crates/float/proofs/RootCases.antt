-- The values that `sqrt` sorts out before it looks at the bits, by its tests as the machine has them: `ne x x`, `eq x 0.0`, `lt x 0.0`. Assumes nothing.
use mathlib.Core.Path.{◌≡◌, refl, sym, ap, ◌∙◌, subst}
use mathlib.Core.Logic.{◌⊎◌, inl, inr}
use mathlib.Core.Bool.{Bool, true, false, true≢false}
use Prim.Native.Nat.{ℕ, zero, suc, ◌+◌, ◌*◌, ◌^◌, ◌<◌}
use native.Mathlib.Nat.{lt_irrefl, zero-mul}
use lib.Dec.{T, ltb→lt}
use lib.Ieee.{Float, nan, inf, fin, binary64, up, down, lt, eq, ne, fits, is_nan, to_bits}
use lib.Ieee.Compare.{differs_from_itself}
use Rattle.exact.specs.Value.{in_units, negative, double}
use Rattle.exact.proofs.Value.{units_pos}
use Rattle.exact.proofs.Bits.{bits_below, bits_some}
use Rattle.float.specs.Sign.{nought, with_sign}
use Rattle.float.specs.Root.{square_root}
use Rattle.float.proofs.Signs.{nan_is, zero_is, zero-eq, minus-lt, sign_below}

-- ---- NaN, zero, and below zero
nan_root : nan ≡ square_root nan
unfolding square_root
nan_root = refl

pub nan_case : (x : Float) → ne x x ≡ true → x ≡ square_root x
nan_case x h = subst (λ (v : Float). v ≡ square_root v) (sym (differs_from_itself x (subst T (sym h) tt))) nan_root

zero-root : (s : Bool) → with_sign s nought ≡ square_root (with_sign s nought)
unfolding square_root
zero-root s = refl

pub zero_case : (x : Float) → T (fits binary64 x) → eq x nought ≡ true → x ≡ square_root x
zero_case x f h = subst (λ (v : Float). v ≡ square_root v) (sym (zero_is x f h)) (zero-root (negative x))

pub neg_case : (x : Float) → lt x nought ≡ true → nan ≡ square_root x
unfolding square_root
neg_case nan h = refl
neg_case (inf true) h = refl
neg_case (inf false) h = absurd (true≢false (sym (sign_below (inf false) h)))
neg_case (fin true zero e) h =
    absurd (lt_irrefl 0 (subst (λ (x : ℕ). 0 < x) (ap (λ (x : ℕ). x * 1 + 0 * down e) (zero-mul (up e)) ∙ ap (λ (x : ℕ). 0 + x) (zero-mul (down e))) (unfold lt in ltb→lt 0 (0 * up e * 1 + 0 * down e) (subst T (sym h) tt))))
neg_case (fin true (suc m) e) h = refl
neg_case (fin false m e) h = absurd (true≢false (sym (sign_below (fin false m e) h)))

-- ---- what is left: plus infinity, and what is finite and above zero
pub record Above (x : Float) : Type 0 where
  pub is_double : T (double x)
  pub sign : negative x ≡ false
  pub some : 0 < in_units x

abbrev pub Left : Float → Type 0
Left x = (x ≡ inf false) ⊎ Above x

clash : {b : Bool} → b ≡ true → b ≡ false → ⊥
clash p q = true≢false (sym p ∙ q)

pub left_over : (x : Float) → T (fits binary64 x) → ne x x ≡ false → eq x nought ≡ false → lt x nought ≡ false → Left x
unfolding is_nan
left_over nan f a b c = absurd (clash (nan_is nan) a)
left_over (inf true) f a b c = absurd (true≢false (unfold lt in c))
left_over (inf false) f a b c = inl refl
left_over (fin s zero e) f a b c = absurd (clash (zero-eq s e) b)
left_over (fin true (suc m) e) f a b c = absurd (clash (minus-lt m e) c)
left_over (fin false (suc m) e) f a b c = inr (record { is_double = f; sign = refl; some = units_pos false m e f })

-- ---- the bits of what is left: the infinity's, and any others
to_bits_inf : to_bits binary64 (inf false) ≡ 0x7ff0_0000_0000_0000
unfolding to_bits
to_bits_inf = refl

inf_root : inf false ≡ square_root (inf false)
unfolding square_root
inf_root = refl

pub inf_case : (x : Float) → Left x → to_bits binary64 x ≡ 0x7ff0_0000_0000_0000 → x ≡ square_root x
inf_case x (inl e) h = subst (λ (v : Float). v ≡ square_root v) (sym e) inf_root
inf_case x (inr p) h = absurd (lt_irrefl (2047 * 2 ^ 52) (subst (λ (b : ℕ). b < 2047 * 2 ^ 52) h (bits_below x p.is_double p.sign)))

pub bits_case : (x : Float) → Left x → (to_bits binary64 x ≡ 0x7ff0_0000_0000_0000 → ⊥) → (0 < to_bits binary64 x) × (to_bits binary64 x < 2047 * 2 ^ 52)
bits_case x (inl e) h = absurd (h (ap (to_bits binary64) e ∙ to_bits_inf))
bits_case x (inr p) h = (bits_some x p.is_double p.sign p.some, bits_below x p.is_double p.sign)
