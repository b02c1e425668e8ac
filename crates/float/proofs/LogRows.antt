-- The rows: what is known of the short reciprocals, by computing it for each, and that a number below 64 which is none of 0 to 62 is 63. Assumes nothing.
use mathlib.Core.Path.{◌≡◌, sym, subst}
use mathlib.Core.Logic.{inl, inr}
use mathlib.Core.Bool.{Bool, true, ◌&&◌}
use Prim.Native.Nat.{ℕ, zero, suc, ◌+◌, ◌-◌, ◌*◌, ◌/◌, ◌^◌, ◌≤◌, ◌<◌, zero-le}
use native.Mathlib.Nat.{eq-or-lt_of_le, le_of_suc-le-suc, not-suc-le-zero, mul-le-mul_right}
use native.Mathlib.Omega.{arith}
use lib.Dec.{T, leb, leb→le}
use lib.Ieee.Fits.{and_l, and_r}
use Rattle.float.specs.Log.{reciprocal, minus_log}

unfoldable pub log_of : ℕ → ℕ
log_of j = minus_log (reciprocal j)

-- j is none of the first n
unfoldable pub None : ℕ → ℕ → Type 0
None j zero = Unit
None j (suc n) = None j n × (j ≡ n → ⊥)

from : (j n : ℕ) → None j n → n ≤ j
unfolding None
from j zero h = zero-le
from j (suc n) h = above j n (from j n h.0) h.1
  where
    above : (j n : ℕ) → n ≤ j → (j ≡ n → ⊥) → suc n ≤ j
    above j n h k = omega arith

pub last : (j : ℕ) → None j 63 → j < 64 → j ≡ 63
last j h k = go j (from j 63 h) k
  where
    go : (j : ℕ) → 63 ≤ j → j < 64 → j ≡ 63
    go j h k = omega arith

-- ---- a test that all numbers below n pass
abbrev all : (ℕ → Bool) → ℕ → Bool
all f zero = true
all f (suc n) = f n && all f n

at : (f : ℕ → Bool) (n j : ℕ) → T (all f n) → j < n → T (f j)
at f zero j t h = absurd (not-suc-le-zero h)
at f (suc n) j t h =
    elim (eq-or-lt_of_le (le_of_suc-le-suc h)) [
      | inl e ↦ subst (λ (i : ℕ). T (f i)) (sym e) (and_l (f n) (all f n) t)
      | inr l ↦ at f n j (and_r (f n) (all f n) t) l
    ]

-- ---- the reciprocal c of row j: at least 2 ^ 7, and times the row's two ends, 64 + j and 65 + j, it comes near 2 ^ 14
record Row (j c : ℕ) : Type 0 where
  half : 2 ^ 7 ≤ c
  most : (65 + j) * c ≤ 2 ^ 14
  near : (2 ^ 14 - (64 + j) * c) * 53 ≤ 2 ^ 14

abbrev fine : ℕ → ℕ → Bool
fine j c = leb (2 ^ 7) c && (leb ((65 + j) * c) (2 ^ 14) && leb ((2 ^ 14 - (64 + j) * c) * 53) (2 ^ 14))

row_of : (j : ℕ) → j < 64 → Row j (reciprocal j)
row_of j h = go (reciprocal j) (at (λ (i : ℕ). fine i (reciprocal i)) 64 j (unfold reciprocal in tt) h)
  where
    go : (c : ℕ) → T (fine j c) → Row j c
    go c t =
        let a = leb (2 ^ 7) c in
        let b = leb ((65 + j) * c) (2 ^ 14) in
        let d = leb ((2 ^ 14 - (64 + j) * c) * 53) (2 ^ 14) in
        let u = and_r a (b && d) t in
        record { half = leb→le (2 ^ 7) c (and_l a (b && d) t); most = leb→le ((65 + j) * c) (2 ^ 14) (and_l b d u); near = leb→le ((2 ^ 14 - (64 + j) * c) * 53) (2 ^ 14) (and_r b d u) }

-- ---- the digits t are in row t / 2 ^ 46; what m = 2 ^ 52 + t times the row's reciprocal c lacks to 2 ^ 60
pub record Lacks (m c : ℕ) : Type 0 where
  pub half : 2 ^ 7 ≤ c
  pub short : c ≤ 2 ^ 8
  pub part : m * c ≤ 2 ^ 60
  pub small : (2 ^ 60 - m * c) * 53 ≤ 2 ^ 60

pub lacks : (t : ℕ) → t < 2 ^ 52 → Lacks (2 ^ 52 + t) (reciprocal (t / 2 ^ 46))
lacks t h = go (t / 2 ^ 46) (2 ^ 52 + t) (reciprocal (t / 2 ^ 46)) (omega arith) (omega arith) (row_of (t / 2 ^ 46) (omega arith))
  where
    go : (j m c : ℕ) → 2 ^ 46 * (64 + j) ≤ m → m ≤ 2 ^ 46 * (65 + j) → Row j c → Lacks m c
    go j m c l u R =
        let w = R.most in
        let n = R.near in
        let x : 2 ^ 46 * (64 + j) * c ≤ m * c = mul-le-mul_right c l in
        let y : m * c ≤ 2 ^ 46 * (65 + j) * c = mul-le-mul_right c u in
        record { half = R.half; short = omega arith; part = omega arith; small = omega arith }
