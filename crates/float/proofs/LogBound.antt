-- How far the whole numbers of the series are from the fractions: at most 4 units of 2 ^ -64 for each term. Assumes nothing.
use mathlib.Core.Path.{◌≡◌, refl, sym, ap, ◌∙◌}
use Prim.Native.Nat.{ℕ, zero, suc, ◌+◌, ◌*◌, ◌/◌, ◌^◌, ◌≤◌, ◌<◌}
use native.Mathlib.Nat.{le_trans, le_of_eq, lt_of_lt_of_le, one-mul, mul_assoc, mul_right_comm, mul-mul-mul_comm, mul-le-mul, mul-le-mul_right, le_of_mul-le-mul_right, pow-suc, div-mul-le_self, lt-div-mul-add, mul-zero, pow-zero, div-le_self}
use native.Mathlib.Omega.{arith}
use lib.Pow.{pow_pos, pow-add}
use Rattle.float.specs.Log.{term, total}
use Rattle.float.specs.Distance.{numerator, denominator}
use Rattle.float.proofs.LogTerms.{cut}

-- x ^ (i (j + 1) + 1) is x ^ (i j + 1) * x ^ i
pub next-pow : (i x j : ℕ) → x ^ (i * suc j + 1) ≡ x ^ (i * j + 1) * x ^ i
next-pow i x j = ap (λ (n : ℕ). x ^ n) (more i j) ∙ pow-add x (i * j + 1) i
  where
    more : (i j : ℕ) → i * suc j + 1 ≡ i * j + 1 + i
    more i j = omega arith

one-pow : (x : ℕ) → x ^ 1 ≡ x
one-pow x = pow-suc x 0 ∙ ap (λ (n : ℕ). n * x) (pow-zero x) ∙ one-mul x

first-pow : (i x : ℕ) → x ^ (i * 0 + 1) ≡ x
first-pow i x = ap (λ (n : ℕ). x ^ n) (first i) ∙ one-pow x
  where
    first : (i : ℕ) → i * 0 + 1 ≡ 1
    first i = omega arith

two-pow : (x : ℕ) → x ^ 2 ≡ x * x
two-pow x = pow-suc x 1 ∙ ap (λ (n : ℕ). n * x) (one-pow x)

-- (A * F) * (B * F) against (t * D) * (w * E)
regroup : (a b c d : ℕ) → a * b * (c * d) ≡ a * c * (b * d)
regroup a b c d = mul-mul-mul_comm a b c d

module _ (F : ℕ) (FP : 0 < F) (A D a2 d2 : ℕ) where
  -- t / F ≤ A / D and w / F ≤ a2 / d2, and u is at most t * w / F: u / F is at most their product
  prod_lower : (t w u : ℕ) → t * D ≤ A * F → w * d2 ≤ a2 * F → u * F ≤ t * w → u * (D * d2) ≤ A * a2 * F
  prod_lower t w u ht hw hu =
      le_of_mul-le-mul_right
      (le_trans (le_of_eq (mul_right_comm u (D * d2) F))
      (le_trans (mul-le-mul_right (D * d2) hu)
      (le_trans (le_of_eq (regroup t w D d2))
      (le_trans (mul-le-mul ht hw) (le_of_eq (regroup A F a2 F ∙ sym (mul_assoc (A * a2) F F)))))))
      FP

  prod_upper : (t w u : ℕ) → A * F ≤ t * D → a2 * F ≤ w * d2 → t * w ≤ u * F → A * a2 * F ≤ u * (D * d2)
  prod_upper t w u ht hw hu =
      le_of_mul-le-mul_right
      (le_trans (le_of_eq (mul_assoc (A * a2) F F ∙ regroup A a2 F F))
      (le_trans (mul-le-mul ht hw)
      (le_trans (le_of_eq (regroup t D w d2))
      (le_trans (mul-le-mul_right (D * d2) hu) (le_of_eq (mul_right_comm u F (D * d2)))))))
      FP

F64 : 0 < 2 ^ 64
F64 = pow_pos 64

floor_lower : (n : ℕ) → n / 2 ^ 64 * 2 ^ 64 ≤ n
floor_lower n = div-mul-le_self n (2 ^ 64)

floor_upper : (n : ℕ) → n < n / 2 ^ 64 * 2 ^ 64 + 2 ^ 64
floor_upper n = lt-div-mul-add F64

-- (t + 3) * (w + 2) ≤ (t * w / F + 3) * F
grow : (t w u : ℕ) → t * w < u * 2 ^ 64 + 2 ^ 64 → t * 3 ≤ 2 ^ 64 → w * 9 ≤ 2 ^ 64 → (t + 3) * (w + 2) ≤ (u + 3) * 2 ^ 64
grow t w u h a b = omega arith

-- (z + 1) * (z + 1) ≤ (z * z / F + 2) * F
grow_square : (z u : ℕ) → z * z < u * 2 ^ 64 + 2 ^ 64 → z * 3 ≤ 2 ^ 64 → (z + 1) * (z + 1) ≤ (u + 2) * 2 ^ 64
grow_square z u h a = omega arith

abbrev pub sq : ℕ → ℕ
sq z = z * z / 2 ^ 64

-- what is known of z and w for the fraction a / d and its power i
pub record Base (i a d z w : ℕ) : Type 0 where
  pub zlo : z * d ≤ a * 2 ^ 64
  pub zhi : a * 2 ^ 64 ≤ (z + 3) * d
  pub wlo : w * d ^ i ≤ a ^ i * 2 ^ 64
  pub whi : a ^ i * 2 ^ 64 ≤ (w + 2) * d ^ i
  pub z3 : z * 3 ≤ 2 ^ 64
  pub w9 : w * 9 ≤ 2 ^ 64

pub base_of : (a d z : ℕ) → z * d ≤ a * 2 ^ 64 → a * 2 ^ 64 ≤ (z + 1) * d → z * 3 ≤ 2 ^ 64 → Base 2 a d z (sq z)
base_of a d z zl zh h = record {
  zlo = zl;
  zhi = le_trans zh (mul-le-mul_right d (two z));
  wlo = le_trans (le_of_eq (ap (λ (n : ℕ). sq z * n) (two-pow d)))
      (le_trans (prod_lower (2 ^ 64) F64 a d a d z z (sq z) zl zl (floor_lower (z * z))) (le_of_eq (ap (λ (n : ℕ). n * 2 ^ 64) (sym (two-pow a)))));
  whi = le_trans (le_of_eq (ap (λ (n : ℕ). n * 2 ^ 64) (two-pow a)))
      (le_trans (prod_upper (2 ^ 64) F64 a d a d (z + 1) (z + 1) (sq z + 2) zh zh (grow_square z (sq z) (floor_upper (z * z)) h)) (le_of_eq (ap (λ (n : ℕ). (sq z + 2) * n) (sym (two-pow d)))));
  z3 = h;
  w9 = le_of_mul-le-mul_right (go (sq z) (2 ^ 64) (floor_lower (z * z)) (mul-le-mul h h)) F64;
}
  where
    two : (z : ℕ) → z + 1 ≤ z + 3
    two z = omega arith

    go : (w F : ℕ) → w * F ≤ z * z → z * 3 * (z * 3) ≤ F * F → w * 9 * F ≤ F * F
    go w F h k = omega arith

-- a / d itself in units of 2 ^ -64, without a rest
pub base_self : (a d z : ℕ) → z * d ≡ a * 2 ^ 64 → z * 9 ≤ 2 ^ 64 → Base 1 a d z z
base_self a d z e h = record {
  zlo = le_of_eq e;
  zhi = le_trans (le_of_eq (sym e)) (mul-le-mul_right d (more z 3));
  wlo = le_of_eq (ap (λ (n : ℕ). z * n) (one-pow d) ∙ e ∙ ap (λ (n : ℕ). n * 2 ^ 64) (sym (one-pow a)));
  whi = le_trans (le_of_eq (ap (λ (n : ℕ). n * 2 ^ 64) (one-pow a) ∙ sym e)) (le_trans (mul-le-mul_right d (more z 2)) (le_of_eq (ap (λ (n : ℕ). (z + 2) * n) (sym (one-pow d)))));
  z3 = few z h;
  w9 = h;
}
  where
    more : (z n : ℕ) → z ≤ z + n
    more z n = omega arith

    few : (z : ℕ) → z * 9 ≤ 2 ^ 64 → z * 3 ≤ 2 ^ 64
    few z h = omega arith

module _ (i a d z w : ℕ) (B : Base i a d z w) where
  term_3 : (j : ℕ) → term j z w * 3 ≤ 2 ^ 64
  unfolding term
  term_3 zero = B.z3
  term_3 (suc j) = le_trans (mul-le-mul_right 3 (cut (term j z w) w (small w B.w9))) (term_3 j)
    where
      small : (w : ℕ) → w * 9 ≤ 2 ^ 64 → w ≤ 2 ^ 64
      small w h = omega arith

  term-lower : (j : ℕ) → term j z w * d ^ (i * j + 1) ≤ a ^ (i * j + 1) * 2 ^ 64
  unfolding term
  term-lower zero = le_trans (le_of_eq (ap (λ (n : ℕ). z * n) (first-pow i d))) (le_trans B.zlo (le_of_eq (ap (λ (n : ℕ). n * 2 ^ 64) (sym (first-pow i a)))))
  term-lower (suc j) =
      le_trans (le_of_eq (ap (λ (n : ℕ). term j z w * w / 2 ^ 64 * n) (next-pow i d j)))
      (le_trans (prod_lower (2 ^ 64) F64 (a ^ (i * j + 1)) (d ^ (i * j + 1)) (a ^ i) (d ^ i) (term j z w) w (term j z w * w / 2 ^ 64) (term-lower j) B.wlo (floor_lower (term j z w * w)))
      (le_of_eq (ap (λ (n : ℕ). n * 2 ^ 64) (sym (next-pow i a j)))))

  term-upper : (j : ℕ) → a ^ (i * j + 1) * 2 ^ 64 ≤ (term j z w + 3) * d ^ (i * j + 1)
  unfolding term
  term-upper zero = le_trans (le_of_eq (ap (λ (n : ℕ). n * 2 ^ 64) (first-pow i a))) (le_trans B.zhi (le_of_eq (ap (λ (n : ℕ). (z + 3) * n) (sym (first-pow i d)))))
  term-upper (suc j) =
      le_trans (le_of_eq (ap (λ (n : ℕ). n * 2 ^ 64) (next-pow i a j)))
      (le_trans (prod_upper (2 ^ 64) F64 (a ^ (i * j + 1)) (d ^ (i * j + 1)) (a ^ i) (d ^ i) (term j z w + 3) (w + 2) (term j z w * w / 2 ^ 64 + 3) (term-upper j) B.whi
      (grow (term j z w) w (term j z w * w / 2 ^ 64) (floor_upper (term j z w * w)) (term_3 j) B.w9))
      (le_of_eq (ap (λ (n : ℕ). (term j z w * w / 2 ^ 64 + 3) * n) (sym (next-pow i d j)))))

-- ---- one more term of the sum: s / F against N / E, and t / F against A / D, with the term A / (m * D)
add-lower : (s u t N E A D m : ℕ) → s * E ≤ N * 2 ^ 64 → t * D ≤ A * 2 ^ 64 → u * m ≤ t → (s + u) * (E * (m * D)) ≤ (N * (m * D) + A * E) * 2 ^ 64
add-lower s u t N E A D m hs ht hu =
    let x : s * E * (m * D) ≤ N * 2 ^ 64 * (m * D) = mul-le-mul_right (m * D) hs in
    let y : u * m * (D * E) ≤ t * (D * E) = mul-le-mul_right (D * E) hu in
    let v : t * D * E ≤ A * 2 ^ 64 * E = mul-le-mul_right E ht in
    omega arith

add-upper : (s u t N E A D m c : ℕ) → N * 2 ^ 64 ≤ (s + c) * E → A * 2 ^ 64 ≤ (t + 3) * D → t < u * m + m → (N * (m * D) + A * E) * 2 ^ 64 ≤ (s + u + (c + 4)) * (E * (m * D))
add-upper s u t N E A D m c hs ht hu =
    let x : N * 2 ^ 64 * (m * D) ≤ (s + c) * E * (m * D) = mul-le-mul_right (m * D) hs in
    let v : A * 2 ^ 64 * E ≤ (t + 3) * D * E = mul-le-mul_right E ht in
    let k : t + 3 ≤ (u + 4) * m = four t u m hu in
    let y : (t + 3) * (D * E) ≤ (u + 4) * m * (D * E) = mul-le-mul_right (D * E) k in
    omega arith
  where
    four : (t u m : ℕ) → t < u * m + m → t + 3 ≤ (u + 4) * m
    four t u zero h = absurd (none t (u * 0) (lt_of_lt_of_le h (le_of_eq refl)) (mul-zero u))
      where
        none : (t x : ℕ) → t < x + 0 → x ≡ 0 → ⊥
        none t x h e = omega arith
    four t u (suc m) h = omega arith

module _ (i a d z w : ℕ) (B : Base i a d z w) where
  pub total-lower : (n : ℕ) → total i n z w * denominator i n d ≤ numerator i n a d * 2 ^ 64
  unfolding total denominator numerator
  total-lower zero = omega arith
  total-lower (suc n) =
      add-lower (total i n z w) (term n z w / (i * n + 1)) (term n z w) (numerator i n a d) (denominator i n d) (a ^ (i * n + 1)) (d ^ (i * n + 1)) (i * n + 1) (total-lower n) (term-lower i a d z w B n)
      (div-mul-le_self (term n z w) (i * n + 1))

  pub total-upper : (n : ℕ) → numerator i n a d * 2 ^ 64 ≤ (total i n z w + 4 * n) * denominator i n d
  unfolding total denominator numerator
  total-upper zero = omega arith
  total-upper (suc n) =
      le_trans (add-upper (total i n z w) (term n z w / (i * n + 1)) (term n z w) (numerator i n a d) (denominator i n d) (a ^ (i * n + 1)) (d ^ (i * n + 1)) (i * n + 1) (4 * n) (total-upper n) (term-upper i a d z w B n)
      (lt-div-mul-add (odd i n)))
      (le_of_eq (ap (λ (c : ℕ). (total i n z w + term n z w / (i * n + 1) + c) * (denominator i n d * ((i * n + 1) * d ^ (i * n + 1)))) (next n)))
    where
      odd : (i n : ℕ) → 0 < i * n + 1
      odd i n = omega arith

      next : (n : ℕ) → 4 * n + 4 ≡ 4 * suc n
      next n = omega arith

  pub total_3 : (n : ℕ) → total i n z w * 3 ≤ n * 2 ^ 64
  unfolding total
  total_3 zero = omega arith
  total_3 (suc n) = go (total i n z w) (term n z w / (i * n + 1)) (term n z w) (div-le_self (term n z w) (i * n + 1)) (term_3 i a d z w B n) (total_3 n)
    where
      go : (s u t : ℕ) → u ≤ t → t * 3 ≤ 2 ^ 64 → s * 3 ≤ n * 2 ^ 64 → (s + u) * 3 ≤ suc n * 2 ^ 64
      go s u t h k l = omega arith
