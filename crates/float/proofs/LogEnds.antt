-- The sums of `logarithm` against the two ends `lower` and `upper`, in units of 2 ^ -56: of artanh (a / d) for a / d up to 1 / 3, of - ln (1 - z) for z up to 1 / 53, and of ln 2. Assumes nothing.
use mathlib.Core.Path.{◌≡◌, refl, sym, ap, ◌∙◌, subst}
use Prim.Native.Nat.{ℕ, zero, suc, ◌+◌, ◌-◌, ◌*◌, ◌/◌, ◌^◌, ◌≤◌, ◌<◌}
use native.Mathlib.Nat.{le_trans, le_of_eq, mul-mul-mul_comm, mul-le-mul, mul-le-mul_right, le_of_mul-le-mul_right, div-mul-le_self, lt-div-mul-add, pow-suc, pow-zero, pow-le-pow_left}
use native.Mathlib.Omega.{arith}
use lib.Dec.{lit≤, lit<}
use lib.Pow.{pow_pos}
use Rattle.float.specs.Log.{total, artanh, fallen, ln2}
use Rattle.float.specs.Distance.{numerator, denominator, tail_denominator, over, lower, upper, lower_2, upper_2, over_2}
use Rattle.float.proofs.LogBound.{Base, base_of, base_self, sq, total-lower, total-upper}

mul-pow : (a b n : ℕ) → (a * b) ^ n ≡ a ^ n * b ^ n
mul-pow a b zero = pow-zero (a * b) ∙ sym (ap (λ (x : ℕ). x * b ^ 0) (pow-zero a) ∙ ap (λ (x : ℕ). 1 * x) (pow-zero b))
mul-pow a b (suc n) = pow-suc (a * b) n ∙ ap (λ (x : ℕ). x * (a * b)) (mul-pow a b n) ∙ mul-mul-mul_comm (a ^ n) (b ^ n) a b ∙ sym (ap (λ (x : ℕ). x * b ^ suc n) (pow-suc a n) ∙ ap (λ (x : ℕ). a ^ n * a * x) (pow-suc b n))

powers : (a b d n : ℕ) → a * b ≤ d → a ^ n * b ^ n ≤ d ^ n
powers a b d n h = le_trans (le_of_eq (sym (mul-pow a b n))) (pow-le-pow_left h n)

-- the tail's bound, for a / d up to 1 / b, is at most t units of 2 ^ -64 if it is at a / d = 1 / b
tail : (i n a d b t : ℕ) → a * b ≤ d → 0 < b ^ i → 2 ^ 64 * b ^ i ≤ b ^ (i * n + 1) * (b ^ i - 1) * (t * (i * n + 1)) → a ^ (i * n + 1) * d ^ i * 2 ^ 64 ≤ t * tail_denominator i n a d
unfolding tail_denominator
tail i n a d b t h p k =
    let g = go (a ^ (i * n + 1)) (d ^ (i * n + 1)) (d ^ i) (d ^ i - a ^ i) (b ^ (i * n + 1)) (b ^ i) (b ^ i - 1) (i * n + 1) (powers a b d (i * n + 1) h) (gap (a ^ i) (d ^ i) (b ^ i) (b ^ i - 1) (one_less (b ^ i) p) (powers a b d i h)) p k in
    omega (arith, g)
  where
    one_less : (n : ℕ) → 0 < n → n - 1 + 1 ≡ n
    one_less n h = omega arith

    gap : (x y C c : ℕ) → c + 1 ≡ C → x * C ≤ y → y * c ≤ (y - x) * C
    gap x y C c e h = subst (λ (C : ℕ). y * c ≤ (y - x) * C) e (less (subst (λ (C : ℕ). x * C ≤ y) (sym e) h))
      where
        short : (x g c : ℕ) → x * (c + 1) ≤ g + x → (g + x) * c ≤ g * (c + 1)
        short x g c h = omega arith

        less : x * (c + 1) ≤ y → y * c ≤ (y - x) * (c + 1)
        less h = let back : y - x + x ≡ y = omega arith in subst (λ (n : ℕ). n * c ≤ (y - x) * (c + 1)) back (short x (y - x) c (le_trans h (le_of_eq (sym back))))

    go : (A D Y X K C c N : ℕ) → A * K ≤ D → Y * c ≤ X * C → 0 < C → 2 ^ 64 * C ≤ K * c * (t * N) → A * Y * 2 ^ 64 ≤ t * (N * D * X)
    go A D Y X K C c N x y z w =
        let u : A * K * (Y * c) ≤ D * (X * C) = mul-le-mul x y in
        let v : A * K * (Y * c) * (t * N) ≤ D * (X * C) * (t * N) = mul-le-mul_right (t * N) u in
        let m : 2 ^ 64 * C * (A * Y) ≤ K * c * (t * N) * (A * Y) = mul-le-mul_right (A * Y) w in
        le_of_mul-le-mul_right (end m v) z
      where
        end : 2 ^ 64 * C * (A * Y) ≤ K * c * (t * N) * (A * Y) → A * K * (Y * c) * (t * N) ≤ D * (X * C) * (t * N) → A * Y * 2 ^ 64 * C ≤ t * (N * D * X) * C
        end m v = omega arith

-- e whole units of 2 ^ -56 are no more than l / q, and at most r of them lack to h / q
pub record Short (e r l h q : ℕ) : Type 0 where
  pub low : e * q ≤ l * 2 ^ 56
  pub high : h * 2 ^ 56 ≤ (e + r) * q

-- m times a series, where m * v is 2 ^ 8: the sum of n terms in units of 2 ^ -64, cut to a v-th
series : (i n a d z w m v t r : ℕ) → Base i a d z w → a ^ (i * n + 1) * d ^ i * 2 ^ 64 ≤ t * tail_denominator i n a d → m * v ≡ 2 ^ 8 → 0 < v → 4 * n + t + v ≤ r * v + 1
    → Short (total i n z w / v) r (m * lower i n a d) (m * upper i n a d) (over i n a d)
unfolding lower upper over
series i n a d z w m v t r B T e p few =
    let s = total i n z w in
    go s (s / v) (denominator i n d) (numerator i n a d) (tail_denominator i n a d) (a ^ (i * n + 1) * d ^ i) (total-lower i a d z w B n) (total-upper i a d z w B n) T (div-mul-le_self s v) (lt-div-mul-add p)
  where
    go : (s f D N R A : ℕ) → s * D ≤ N * 2 ^ 64 → N * 2 ^ 64 ≤ (s + 4 * n) * D → A * 2 ^ 64 ≤ t * R → f * v ≤ s → s < f * v + v → Short f r (m * (N * R)) (m * (N * R + A * D)) (D * R)
    go s f D N R A sl sh tl fl fh = record {
      low = le_of_mul-le-mul_right
          (low (mul-le-mul_right (D * R) fl) (mul-le-mul_right R sl) (ap (λ (x : ℕ). x * (N * R)) e))
          p;
      high = le_of_mul-le-mul_right
          (high (mul-le-mul_right R sh) (mul-le-mul_right D tl) (mul-le-mul_right (D * R) fh) (mul-le-mul_right (D * R) few) (ap (λ (x : ℕ). x * (N * R + A * D)) e))
          p;
    }
      where
        low : f * v * (D * R) ≤ s * (D * R) → s * D * R ≤ N * 2 ^ 64 * R → m * v * (N * R) ≡ 2 ^ 8 * (N * R) → f * (D * R) * v ≤ m * (N * R) * 2 ^ 56 * v
        low x y k = omega arith

        high : N * 2 ^ 64 * R ≤ (s + 4 * n) * D * R → A * 2 ^ 64 * D ≤ t * R * D → suc s * (D * R) ≤ (f * v + v) * (D * R) → (4 * n + t + v) * (D * R) ≤ (r * v + 1) * (D * R) → m * v * (N * R + A * D) ≡ 2 ^ 8 * (N * R + A * D)
            → m * (N * R + A * D) * 2 ^ 56 * v ≤ (f + r) * (D * R) * v
        high x y k l o = omega arith

-- twice artanh
pub ends : (a d z : ℕ) → a * 3 ≤ d → z * d ≤ a * 2 ^ 64 → a * 2 ^ 64 ≤ (z + 1) * d → z * 3 ≤ 2 ^ 64 → Short (artanh z / 2 ^ 7) 2 (2 * lower 2 17 a d) (2 * upper 2 17 a d) (over 2 17 a d)
unfolding artanh
ends a d z h zl zh z3 = series 2 17 a d z (sq z) 2 (2 ^ 7) 16 2 (base_of a d z zl zh z3) (tail 2 17 a d 3 16 h (lit< tt) (lit≤ tt)) refl (pow_pos 7) (lit≤ tt)

-- the other series, at z = a / d
pub ends-fallen : (a d z : ℕ) → a * 53 ≤ d → z * d ≡ a * 2 ^ 64 → z * 9 ≤ 2 ^ 64 → Short (fallen z / 2 ^ 8) 4 (lower 1 8 a d) (upper 1 8 a d) (over 1 8 a d)
unfolding fallen
ends-fallen a d z h e z9 = once (series 1 8 a d z z 1 (2 ^ 8) 634 4 (base_self a d z e z9) (tail 1 8 a d 53 634 h (lit< tt) (lit≤ tt)) refl (pow_pos 8) (lit≤ tt))
  where
    once : {e r l h q : ℕ} → Short e r (1 * l) (1 * h) q → Short e r l h q
    once k = let x = k.low in let y = k.high in record { low = omega arith; high = omega arith }

-- ln 2, by computing
pub ends_2 : Short ln2 1 lower_2 upper_2 over_2
unfolding over lower upper tail_denominator numerator denominator
ends_2 = record { low = lit≤ tt; high = lit≤ tt }
