-- A double from 1.0e-8 to 101: its exponent's field is from 996 to 1029. Assumes nothing.
use mathlib.Core.Path.{◌≡◌, refl, sym, ap, ◌∙◌, subst}
use mathlib.Core.Logic.{◌⊎◌, inl, inr}
use mathlib.Core.Bool.{Bool, true, false, not, ◌&&◌, cond}
use Prim.Native.Nat.{ℕ, ◌+◌, ◌*◌, ◌/◌, ◌%◌, ◌^◌, ◌≤◌, ◌<◌}
use native.Mathlib.Nat.{le_trans, le_of_eq, lt_of_le_of_lt, le_of_mul-le-mul_right, div-mul-le_self}
use native.Mathlib.Omega.{arith}
use lib.Dec.{T, lit≤, lit<}
use lib.Ieee.{Float, nan, inf, fin, binary64, fits, le, is_nan, of_bits, to_bits}
use Rattle.exact.specs.Value.{negative, unless, unit, in_units, plus, minus, double}
use Rattle.exact.proofs.Order.{le→exact}
use Rattle.exact.proofs.Value.{one_sided, units_of-plus}
use Rattle.exact.proofs.Bits.{Parts, parts, parts_above, parts_below}
use Rattle.float.specs.Log.{least, most, logarithm, of_parts}

pub double_of_range : (x : Float) → T (fits binary64 x) → T (le least x) → T (le x most) → T (double x)
unfolding le of_bits
double_of_range nan f a b = absurd b
double_of_range (inf true) f a b = absurd a
double_of_range (inf false) f a b = absurd b
double_of_range (fin s m e) f a b = f

pub not_nan : (x : Float) → T (le least x) → T (not (is_nan x))
unfolding le is_nan of_bits
not_nan nan a = absurd a
not_nan (inf s) a = tt
not_nan (fin s m e) a = tt

least-double : T (double least)
unfolding of_bits fits
least-double = tt

most-double : T (double most)
unfolding of_bits fits
most-double = tt

least_ge : 2 ^ 1047 ≤ plus least
unfolding plus in_units unit of_bits
least_ge = lit≤ tt

least-minus : minus least ≡ 0
unfolding minus in_units unit of_bits
least-minus = refl

most-lt : plus most < 2 ^ 1081
unfolding plus in_units unit of_bits
most-lt = lit< tt

pub record Inside (x : Float) : Type 0 where
  pub sign : minus x ≡ 0
  pub of : Parts x
  pub low : 995 ≤ of.k
  pub high : of.k ≤ 1028

pub inside : (x : Float) → T (fits binary64 x) → T (le least x) → T (le x most) → Inside x
inside x f a b =
    let d = double_of_range x f a b in
    let la : plus least + minus x ≤ plus x + minus least = le→exact least x least-double d a in
    let lb : plus x + minus most ≤ plus most + minus x = le→exact x most d most-double b in
    let lo : 2 ^ 1047 ≤ plus x = le_trans least_ge (reduce (plus least) (minus x) (plus x) (minus least) least-minus la) in
    let z : minus x ≡ 0 = zero_of (one_sided x) lo in
    let u : in_units x ≡ plus x = units_of-plus x z in
    let hi : plus x < 2 ^ 1081 = lt_of_le_of_lt (reduce (plus x) (minus most) (plus most) (minus x) z lb) most-lt in
    let p : Parts x = parts x d (sign_of x lo) (le_trans (lit≤ tt) (le_trans lo (le_of_eq (sym u)))) in
    let v : 1047 < 53 + p.k = parts_above x p 1047 (le_trans lo (le_of_eq (sym u))) in
    let w : 52 + p.k < 1081 = parts_below x p 1081 (lt_of_le_of_lt (le_of_eq u) hi) in
    record { sign = z; of = p; low = small p.k v; high = large p.k w }
  where
    reduce : (a b c d : ℕ) → d ≡ 0 → a + b ≤ c + d → a ≤ c
    reduce a b c d z h = omega arith

    none : (a : ℕ) → 0 < a → a ≤ 0 → ⊥
    none a p h = omega arith

    zero_of : (plus x ≡ 0) ⊎ (minus x ≡ 0) → 2 ^ 1047 ≤ plus x → minus x ≡ 0
    zero_of (inl z) h = absurd (none (2 ^ 1047) (lit< tt) (subst (λ (n : ℕ). 2 ^ 1047 ≤ n) z h))
    zero_of (inr z) h = z

    sign_of : (x : Float) → 2 ^ 1047 ≤ plus x → negative x ≡ false
    sign_of x h = unfold plus in go (negative x) h
      where
        go : (s : Bool) → 2 ^ 1047 ≤ unless s (in_units x) → s ≡ false
        go true h = absurd (none (2 ^ 1047) (lit< tt) h)
        go false h = refl

    small : (k : ℕ) → 1047 < 53 + k → 995 ≤ k
    small k h = omega arith

    large : (k : ℕ) → 52 + k < 1081 → k ≤ 1028
    large k h = omega arith

-- ---- the sizes on the way
pub at_most_third : (a d : ℕ) → 0 < d → a * 3 ≤ d → a * 2 ^ 64 / d * 3 ≤ 2 ^ 64
at_most_third a d p h = le_of_mul-le-mul_right (go (a * 2 ^ 64 / d) (div-mul-le_self (a * 2 ^ 64) d)) p
  where
    go : (z : ℕ) → z * d ≤ a * 2 ^ 64 → z * 3 * d ≤ 2 ^ 64 * d
    go z e = omega arith

-- ---- the two sides of the definition's test
pub ln_in : (x : Float) → le least x ≡ true → le x most ≡ true → logarithm x ≡ of_parts (to_bits binary64 x / 2 ^ 52) (to_bits binary64 x % 2 ^ 52)
unfolding logarithm
ln_in x a b = ap (λ (t : Bool). cond (t && le x most) (of_parts (to_bits binary64 x / 2 ^ 52) (to_bits binary64 x % 2 ^ 52)) nan) a ∙ ap (λ (t : Bool). cond t (of_parts (to_bits binary64 x / 2 ^ 52) (to_bits binary64 x % 2 ^ 52)) nan) b

pub ln_low : (x : Float) → le least x ≡ false → logarithm x ≡ nan
unfolding logarithm
ln_low x a = ap (λ (t : Bool). cond (t && le x most) (of_parts (to_bits binary64 x / 2 ^ 52) (to_bits binary64 x % 2 ^ 52)) nan) a

pub ln_high : (x : Float) → le x most ≡ false → logarithm x ≡ nan
unfolding logarithm
ln_high x b = go (le least x) b
  where
    go : (t : Bool) → le x most ≡ false → cond (t && le x most) (of_parts (to_bits binary64 x / 2 ^ 52) (to_bits binary64 x % 2 ^ 52)) nan ≡ nan
    go true b = ap (λ (t : Bool). cond t (of_parts (to_bits binary64 x / 2 ^ 52) (to_bits binary64 x % 2 ^ 52)) nan) b
    go false b = refl
