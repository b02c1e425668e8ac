-- Why `lower` and `upper` are ends of the series in a / d: every longer partial sum lies between them, so their limit does. Assumes nothing.
use mathlib.Core.Path.{◌≡◌, sym, subst}
use mathlib.Core.Logic.{◌≢◌}
use Prim.Native.Nat.{ℕ, zero, suc, ◌+◌, ◌-◌, ◌*◌, ◌^◌, ◌≤◌, ◌<◌, zero-le}
use native.Mathlib.Nat.{le_of_lt, le_refl, lt_of_le_of_lt, mul-le-mul_left, mul-le-mul_right, mul-pos, zero-add, suc-add, one-le-pow, pow-le-pow_left, pow-lt-pow_left}
use native.Mathlib.Omega.{arith}
use lib.Pow.{pow_pos}
use lib.Ieee.Positive.{through}
use Rattle.float.specs.Distance.{numerator, denominator, tail_denominator, over, lower, upper}
use Rattle.float.proofs.LogBound.{next-pow}

-- the partial sum of n terms plus the tail's bound is top n / bottom n
abbrev top : ℕ → ℕ → ℕ → ℕ → ℕ
top i n a d = numerator i n a d * tail_denominator i n a d + a ^ (i * n + 1) * d ^ i * denominator i n d

abbrev bottom : ℕ → ℕ → ℕ → ℕ → ℕ
bottom i n a d = denominator i n d * tail_denominator i n a d

-- the next term and the tail's bound behind it come to no more than the tail's bound before: the term is A / K, the bounds are Q / U and P / T
covers : (i n a d : ℕ) → a ≤ d
    → a ^ (i * n + 1) * (tail_denominator i n a d * tail_denominator i (suc n) a d) + a ^ (i * suc n + 1) * d ^ i * ((i * n + 1) * d ^ (i * n + 1) * tail_denominator i n a d)
    ≤ a ^ (i * n + 1) * d ^ i * ((i * n + 1) * d ^ (i * n + 1) * tail_denominator i (suc n) a d)
unfolding tail_denominator
covers i n a d h =
    rw (next-pow i d n, next-pow i a n) (omega (arith, go (a ^ (i * n + 1)) (i * n + 1) (i * suc n + 1) (d ^ (i * n + 1)) (d ^ i - a ^ i) (d ^ i) (a ^ i) (more i n) (gap (d ^ i) (a ^ i) (pow-le-pow_left h i))))
  where
    more : (i n : ℕ) → i * n + 1 ≤ i * suc n + 1
    more i n = omega arith

    gap : (y z : ℕ) → z ≤ y → y ≡ y - z + z
    gap y z h = omega arith

    go : (A N M D X Y Z : ℕ) → N ≤ M → Y ≡ X + Z → A * (N * D * X * (M * (D * Y) * X)) + A * Z * Y * (N * D * (N * D * X)) ≤ A * Y * (N * D * (M * (D * Y) * X))
    go A N M D X Y Z h e = end (mul-le-mul_left (A * N * D * D * X * Y) (subst (λ (y : ℕ). M * X + Z * N ≤ M * y) (sym e) (sum (mul-le-mul_left Z h))))
      where
        sum : Z * N ≤ Z * M → M * X + Z * N ≤ M * (X + Z)
        sum h = omega arith

        end : A * N * D * D * X * Y * (M * X + Z * N) ≤ A * N * D * D * X * Y * (M * Y) → A * (N * D * X * (M * (D * Y) * X)) + A * Z * Y * (N * D * (N * D * X)) ≤ A * Y * (N * D * (M * (D * Y) * X))
        end h = omega arith

-- one more term, and the end comes down
falls : (i n a d : ℕ) → a ≤ d → top i (suc n) a d * bottom i n a d ≤ top i n a d * bottom i (suc n) a d
unfolding numerator denominator
falls i n a d h =
    go (numerator i n a d) (denominator i n d) ((i * n + 1) * d ^ (i * n + 1)) (a ^ (i * n + 1)) (a ^ (i * n + 1) * d ^ i) (a ^ (i * suc n + 1) * d ^ i) (tail_denominator i n a d) (tail_denominator i (suc n) a d) (covers i n a d h)
  where
    go : (N E K A P Q T U : ℕ) → A * (T * U) + Q * (K * T) ≤ P * (K * U) → ((N * K + A * E) * U + Q * (E * K)) * (E * T) ≤ (N * T + P * E) * (E * K * U)
    go N E K A P Q T U h = let m : (A * (T * U) + Q * (K * T)) * (E * E) ≤ P * (K * U) * (E * E) = mul-le-mul_right (E * E) h in omega arith

module _ (i a d : ℕ) (I : i ≢ 0) (h : a < d) where
  D_pos : 0 < d
  D_pos = lt_of_le_of_lt zero-le h

  denominator_pos : (n : ℕ) → 0 < denominator i n d
  unfolding denominator
  denominator_pos zero = pow_pos 0
  denominator_pos (suc n) = mul-pos (denominator_pos n) (mul-pos (odd i n) (one-le-pow (i * n + 1) d D_pos))
    where
      odd : (i n : ℕ) → 0 < i * n + 1
      odd i n = omega arith

  tail_denominator_pos : (n : ℕ) → 0 < tail_denominator i n a d
  unfolding tail_denominator
  tail_denominator_pos n = omega (arith, mul-pos (mul-pos (odd i n) (one-le-pow (i * n + 1) d D_pos)) (gap (a ^ i) (d ^ i) (pow-lt-pow_left h I)))
    where
      odd : (i n : ℕ) → 0 < i * n + 1
      odd i n = omega arith

      gap : (x y : ℕ) → x < y → 0 < y - x
      gap x y h = omega arith

  bottom_pos : (n : ℕ) → 0 < bottom i n a d
  bottom_pos n = mul-pos (denominator_pos n) (tail_denominator_pos n)

  -- l more terms: the end has come down, and the partial sum has gone up
  down : (n l : ℕ) → top i (l + n) a d * bottom i n a d ≤ top i n a d * bottom i (l + n) a d
  down n zero = subst (λ (m : ℕ). top i m a d * bottom i n a d ≤ top i n a d * bottom i m a d) (sym (zero-add n)) (le_refl (top i n a d * bottom i n a d))
  down n (suc l) =
      subst (λ (m : ℕ). top i m a d * bottom i n a d ≤ top i n a d * bottom i m a d) (sym (suc-add l n))
      (through (top i (suc (l + n)) a d) (top i (l + n) a d) (top i n a d) (bottom i (suc (l + n)) a d) (bottom i (l + n) a d) (bottom i n a d) (bottom_pos (l + n)) (falls i (l + n) a d (le_of_lt h)) (down n l))

  rises : (n : ℕ) → numerator i n a d * denominator i (suc n) d ≤ numerator i (suc n) a d * denominator i n d
  unfolding numerator denominator
  rises n = go (numerator i n a d) (denominator i n d) ((i * n + 1) * d ^ (i * n + 1)) (a ^ (i * n + 1))
    where
      go : (N E K A : ℕ) → N * (E * K) ≤ (N * K + A * E) * E
      go N E K A = omega arith

  up : (n l : ℕ) → numerator i n a d * denominator i (l + n) d ≤ numerator i (l + n) a d * denominator i n d
  up n zero = subst (λ (m : ℕ). numerator i n a d * denominator i m d ≤ numerator i m a d * denominator i n d) (sym (zero-add n)) (le_refl (numerator i n a d * denominator i n d))
  up n (suc l) =
      subst (λ (m : ℕ). numerator i n a d * denominator i m d ≤ numerator i m a d * denominator i n d) (sym (suc-add l n))
      (through (numerator i n a d) (numerator i (l + n) a d) (numerator i (suc (l + n)) a d) (denominator i n d) (denominator i (l + n) d) (denominator i (suc (l + n)) d) (denominator_pos (l + n)) (up n l) (rises (l + n)))

  -- a partial sum is at most itself plus its tail's bound
  under : (n : ℕ) → numerator i n a d * bottom i n a d ≤ top i n a d * denominator i n d
  under n = go (numerator i n a d) (denominator i n d) (tail_denominator i n a d) (a ^ (i * n + 1) * d ^ i)
    where
      go : (N E R A : ℕ) → N * (E * R) ≤ (N * R + A * E) * E
      go N E R A = omega arith

  pub nested : (n l : ℕ) → (lower i n a d * denominator i (l + n) d ≤ numerator i (l + n) a d * over i n a d) × (numerator i (l + n) a d * over i n a d ≤ upper i n a d * denominator i (l + n) d)
  unfolding lower upper over
  nested n l = (
    low (numerator i n a d) (denominator i n d) (tail_denominator i n a d) (numerator i (l + n) a d) (denominator i (l + n) d) (up n l),
    through (numerator i (l + n) a d) (top i (l + n) a d) (top i n a d) (denominator i (l + n) d) (bottom i (l + n) a d) (bottom i n a d) (bottom_pos (l + n)) (under (l + n)) (down n l),
  )
    where
      low : (N E R M F : ℕ) → N * F ≤ M * E → N * R * F ≤ M * (E * R)
      low N E R M F h = let k : N * F * R ≤ M * E * R = mul-le-mul_right R h in omega arith
