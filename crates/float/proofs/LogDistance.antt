-- The distance: for every double x from 1.0e-8 to 101, `logarithm x` is a double, at most 159 and 136 units of 2 ^ -56 beyond the two ends between which the natural logarithm of x lies. Assumes nothing.
use mathlib.Core.Path.{◌≡◌, refl, sym, ap, ◌∙◌, subst}
use mathlib.Core.Bool.{true, false}
use Prim.Native.Nat.{ℕ, ◌+◌, ◌-◌, ◌*◌, ◌/◌, ◌%◌, ◌^◌, ◌≤◌, ◌<◌}
use native.Mathlib.Nat.{le_trans, le_of_eq, le_of_lt, lt_of_lt_of_le, mul_right_comm, mul-le-mul_right, div-mul-le_self, lt-div-mul-add}
use native.Mathlib.Omega.{arith}
use lib.Dec.{T, lit≤, lit<}
use lib.IntN.{pos}
use lib.Ieee.{Float, fin, binary64, fits, le, to_bits, of_bits, of_int, mul}
use Rattle.exact.specs.Value.{unit, plus, minus}
use Rattle.float.specs.Log.{artanh, fallen, total, term, scaled, ratio, reciprocal, minus_log, ln2, difference, of_row, of_parts, least, most, logarithm}
use Rattle.float.specs.Distance.{over, lower, upper, lower_2, upper_2, over_2, lower_c, upper_c, over_c, lower_z, upper_z, over_z, times_and, base, floor_plus, floor_minus, ceiling_plus, ceiling_minus, NearLogarithm, asked, most_above, most_under}
use Rattle.float.proofs.LogRange.{inside, at_most_third, ln_in}
use Rattle.float.proofs.LogBound.{Base, base_of, base_self, sq, total_3}
use Rattle.float.proofs.LogEnds.{Short, ends, ends-fallen, ends_2}
use Rattle.float.proofs.LogRows.{Lacks, lacks}
use Rattle.float.proofs.LogScaling.{step, step-unit, Rounded, difference_val}

-- ---- n + A ln 2 less m + B ln 2, in whole units of 2 ^ -56, against the lower end of the one and the upper end of the other
module _ (n m s L t ln hn qn lm hm qm l h q : ℕ) (N : Short n t ln hn qn) (M : Short m s lm hm qm) (Two : Short L 1 l h q) where
  side : (A B : ℕ) → (n + A * L) * (q * qn * qm) + 2 ^ 56 * (times_and B h q hm qm * qn) ≤ (m + B * L) * (q * qn * qm) + 2 ^ 56 * (times_and A l q ln qn * qm) + (s + B) * (q * qn * qm)
  side A B =
      let W = q * qn * qm in
      le_trans (le_of_eq (left W))
      (le_trans (sum (n * W) (A * L * W) (m * W) (B * L * W) (s * W) (B * W) (ln * q * qm) (hm * q * qn) (A * l * qn * qm) (B * h * qm * qn)
      (x (mul-le-mul_right (q * qm) N.low)) (y (mul-le-mul_right (q * qn) M.high)) (v (mul-le-mul_right (A * qn * qm) Two.low)) (w (mul-le-mul_right (B * qn * qm) Two.high)))
      (le_of_eq (right W)))
    where
      sum : (n' a m' b s' o X Y U T : ℕ) → n' ≤ 2 ^ 56 * X → 2 ^ 56 * Y ≤ m' + s' → a ≤ 2 ^ 56 * U → 2 ^ 56 * T ≤ b + o → n' + a + 2 ^ 56 * (T + Y) ≤ m' + b + 2 ^ 56 * (U + X) + (s' + o)
      sum n' a m' b s' o X Y U T x y u t = omega arith

      left : (W : ℕ) → (n + A * L) * W + 2 ^ 56 * ((B * h * qm + hm * q) * qn) ≡ n * W + A * L * W + 2 ^ 56 * (B * h * qm * qn + hm * q * qn)
      left W = omega arith

      right : (W : ℕ) → m * W + B * L * W + 2 ^ 56 * (A * l * qn * qm + ln * q * qm) + (s * W + B * W) ≡ (m + B * L) * W + 2 ^ 56 * ((A * l * qn + ln * q) * qm) + (s + B) * W
      right W = omega arith

      x : n * qn * (q * qm) ≤ ln * 2 ^ 56 * (q * qm) → n * (q * qn * qm) ≤ 2 ^ 56 * (ln * q * qm)
      x h = omega (h, arith)

      y : hm * 2 ^ 56 * (q * qn) ≤ (m + s) * qm * (q * qn) → 2 ^ 56 * (hm * q * qn) ≤ m * (q * qn * qm) + s * (q * qn * qm)
      y h = omega (h, arith)

      v : L * q * (A * qn * qm) ≤ l * 2 ^ 56 * (A * qn * qm) → A * L * (q * qn * qm) ≤ 2 ^ 56 * (A * l * qn * qm)
      v h = omega (h, arith)

      w : h * 2 ^ 56 * (B * qn * qm) ≤ (L + 1) * q * (B * qn * qm) → 2 ^ 56 * (B * h * qm * qn) ≤ B * L * (q * qn * qm) + B * (q * qn * qm)
      w h = omega (h, arith)

-- ---- from there to the double, in units of 2 ^ -1074: u is 2 ^ 48 * s
join : (r m p q P N b s u w v : ℕ) → s * 2 ^ 48 ≡ u → 256 * r + q * s ≤ 256 * m + p * s + 128 * s → p * b + 2 ^ 56 * N ≤ q * b + 2 ^ 56 * P + w * b → 128 + w ≤ v
    → 2 ^ 56 * (r * b + N * u) ≤ 2 ^ 56 * (m * b + P * u) + v * (u * b)
join r m p q P N b s u w v e h k f =
    subst (λ (u : ℕ). 2 ^ 56 * (r * b + N * u) ≤ 2 ^ 56 * (m * b + P * u) + v * (u * b)) e
    (go (mul-le-mul_right b h) (mul-le-mul_right s k) (mul-le-mul_right (s * b) f))
  where
    go : (256 * r + q * s) * b ≤ (256 * m + p * s + 128 * s) * b → (p * b + 2 ^ 56 * N) * s ≤ (q * b + 2 ^ 56 * P + w * b) * s → (128 + w) * (s * b) ≤ v * (s * b)
        → 2 ^ 56 * (r * b + N * (s * 2 ^ 48)) ≤ 2 ^ 56 * (m * b + P * (s * 2 ^ 48)) + v * (s * 2 ^ 48 * b)
    go x y z = omega arith

artanh_3 : (a d z : ℕ) → Base 2 a d z (sq z) → artanh z * 3 ≤ 17 * 2 ^ 64
unfolding artanh
artanh_3 a d z B = total_3 2 a d z (sq z) B 17

fallen_3 : (a d z : ℕ) → Base 1 a d z z → fallen z * 3 ≤ 8 * 2 ^ 64
unfolding fallen
fallen_3 a d z B = total_3 1 a d z z B 8

-- ---- a row: its reciprocal c, against the ends
record RowEnds (c : ℕ) : Type 0 where
  near : Short (minus_log c) 2 (lower_c c) (upper_c c) (over_c c)
  size : minus_log c ≤ 2 ^ 59 + 2 ^ 58

row_ends : (c : ℕ) → 2 ^ 7 ≤ c → RowEnds c
unfolding minus_log
row_ends c h =
    let a = 2 ^ 8 - c in
    let d = 2 ^ 8 + c in
    let z = ratio a d in
    let p : 0 < d = omega arith in
    let a3 : a * 3 ≤ d = omega arith in
    let zl : z * d ≤ a * 2 ^ 64 = div-mul-le_self (a * 2 ^ 64) d in
    let zh : a * 2 ^ 64 ≤ (z + 1) * d = le_trans (le_of_lt (lt-div-mul-add p)) (le_of_eq (one z d)) in
    let z3 : z * 3 ≤ 2 ^ 64 = at_most_third a d p a3 in
    record { near = ends a d z a3 zl zh z3; size = few (artanh z) (artanh_3 a d z (base_of a d z zl zh z3)) }
  where
    one : (z n : ℕ) → z * n + n ≡ (z + 1) * n
    one z n = omega arith

    few : (s : ℕ) → s * 3 ≤ 17 * 2 ^ 64 → s / 2 ^ 7 ≤ 2 ^ 59 + 2 ^ 58
    few s h = omega arith

-- ---- what is taken off: y / 2 ^ 60 against the ends
record RestEnds (y : ℕ) : Type 0 where
  near : Short (fallen (y * 2 ^ 4) / 2 ^ 8) 4 (lower 1 8 y (2 ^ 60)) (upper 1 8 y (2 ^ 60)) (over 1 8 y (2 ^ 60))
  size : fallen (y * 2 ^ 4) / 2 ^ 8 ≤ 2 ^ 58

rest_ends : (y : ℕ) → y * 53 ≤ 2 ^ 60 → RestEnds y
rest_ends y h =
    let z = y * 2 ^ 4 in
    let e : z * 2 ^ 60 ≡ y * 2 ^ 64 = omega arith in
    let z9 : z * 9 ≤ 2 ^ 64 = omega arith in
    record { near = ends-fallen y (2 ^ 60) z h e z9; size = few (fallen z) (fallen_3 y (2 ^ 60) z (base_self y (2 ^ 60) z e z9)) }
  where
    few : (s : ℕ) → s * 3 ≤ 8 * 2 ^ 64 → s / 2 ^ 8 ≤ 2 ^ 58
    few s h = omega arith

-- ---- the whole
module _ (M c k : ℕ) (half : 2 ^ 7 ≤ c) (small : (2 ^ 60 - M * c) * 53 ≤ 2 ^ 60) (kl : 995 ≤ k) (kh : k ≤ 1028) where
  abbrev e : ℕ
  e = minus_log c

  abbrev f : ℕ
  f = fallen ((2 ^ 60 - M * c) * 2 ^ 4) / 2 ^ 8

  abbrev A : ℕ
  A = k - 1022

  abbrev B : ℕ
  B = 1022 - k

  rounded : Rounded (of_row (k + 1) M c) (e + A * ln2) (f + B * ln2)
  unfolding of_row
  rounded =
      subst (λ (n : ℕ). Rounded (difference (e + n * ln2) (f + (1023 - (k + 1)) * ln2)) (e + A * ln2) (f + B * ln2)) (sym (up k))
      (subst (λ (n : ℕ). Rounded (difference (e + A * ln2) (f + n * ln2)) (e + A * ln2) (f + B * ln2)) (sym (down k))
      (difference_val (e + A * ln2) (f + B * ln2) (bound e A (row_ends c half).size (omega arith)) (bound' f B (rest_ends (2 ^ 60 - M * c) small).size (omega arith))))
    where
      up : (k : ℕ) → k + 1 - 1023 ≡ k - 1022
      up k = omega arith

      down : (k : ℕ) → 1023 - (k + 1) ≡ 1022 - k
      down k = omega arith

      bound : (e A : ℕ) → e ≤ 2 ^ 59 + 2 ^ 58 → A ≤ 6 → e + A * ln2 < 2 ^ 60 + 2 ^ 59
      bound e A h k = omega arith

      bound' : (f B : ℕ) → f ≤ 2 ^ 58 → B ≤ 27 → f + B * ln2 < 2 ^ 60 + 2 ^ 59
      bound' f B h k = omega arith

  above : (r : Float) → Rounded r (e + A * ln2) (f + B * ln2) → 2 ^ 56 * (plus r * base M c + floor_minus M c k * unit) ≤ 2 ^ 56 * (minus r * base M c + floor_plus M c k * unit) + most_above * (unit * base M c)
  unfolding base floor_plus floor_minus
  above r R =
      let E = (row_ends c half).near in
      let F = (rest_ends (2 ^ 60 - M * c) small).near in
      join (plus r) (minus r) (e + A * ln2) (f + B * ln2) (times_and A lower_2 over_2 (lower_c c) (over_c c) * over_z M c) (times_and B upper_2 over_2 (upper_z M c) (over_z M c) * over_c c) (over_2 * over_c c * over_z M c) step unit (4 + B) most_above step-unit R.up
      (side e f 4 ln2 2 (lower_c c) (upper_c c) (over_c c) (lower_z M c) (upper_z M c) (over_z M c) lower_2 upper_2 over_2 E F ends_2 A B)
      (omega arith)

  under : (r : Float) → Rounded r (e + A * ln2) (f + B * ln2) → 2 ^ 56 * (minus r * base M c + ceiling_plus M c k * unit) ≤ 2 ^ 56 * (plus r * base M c + ceiling_minus M c k * unit) + most_under * (unit * base M c)
  unfolding base ceiling_plus ceiling_minus
  under r R =
      let E = (row_ends c half).near in
      let F = (rest_ends (2 ^ 60 - M * c) small).near in
      join (minus r) (plus r) (f + B * ln2) (e + A * ln2) (times_and B lower_2 over_2 (lower_z M c) (over_z M c) * over_c c) (times_and A upper_2 over_2 (upper_c c) (over_c c) * over_z M c) (over_2 * over_c c * over_z M c) step unit (2 + A) most_under step-unit R.dn
      (subst (λ (b : ℕ). (f + B * ln2) * b + 2 ^ 56 * (times_and A upper_2 over_2 (upper_c c) (over_c c) * over_z M c) ≤ (e + A * ln2) * b + 2 ^ 56 * (times_and B lower_2 over_2 (lower_z M c) (over_z M c) * over_c c) + (2 + A) * b) (mul_right_comm over_2 (over_z M c) (over_c c))
      (side f e 2 ln2 4 (lower_z M c) (upper_z M c) (over_z M c) (lower_c c) (upper_c c) (over_c c) lower_2 upper_2 over_2 F E ends_2 B A))
      (omega arith)

-- the sharper distance
pub sharper : (x : Float) → T (fits binary64 x) → le least x ≡ true → le x most ≡ true → NearLogarithm most_above most_under x (logarithm x)
unfolding of_parts
sharper x f a b =
    let i = inside x f (subst T (sym a) tt) (subst T (sym b) tt) in
    let P = i.of in
    let t = P.M - 2 ^ 52 in
    let c = reciprocal (t / 2 ^ 46) in
    let m : 2 ^ 52 + t ≡ P.M = whole P.M P.least in
    let G = subst (λ (n : ℕ). Lacks n c) m (lacks t (under_2 P.M P.most)) in
    let e : logarithm x ≡ of_row (P.k + 1) P.M c =
    ln_in x a b ∙ ap (λ (n : ℕ). of_parts n (to_bits binary64 x % 2 ^ 52)) P.field ∙ ap (λ (n : ℕ). of_parts (P.k + 1) n) P.digits ∙ ap (λ (n : ℕ). of_row (P.k + 1) n c) m in
    let R = subst (λ (r : Float). Rounded r (minus_log c + (P.k - 1022) * ln2) (fallen ((2 ^ 60 - P.M * c) * 2 ^ 4) / 2 ^ 8 + (1022 - P.k) * ln2)) (sym e) (rounded P.M c P.k G.half G.small i.low i.high) in
    record {
      is_double = R.is_double;
      M = P.M;
      k = P.k;
      c = c;
      is = P.is;
      least = P.least;
      most = P.most;
      sign = i.sign;
      some = lt_of_lt_of_le (lit< tt) G.half;
      short = G.short;
      part = G.part;
      above = above P.M c P.k G.half G.small i.low i.high (logarithm x) R;
      under = under P.M c P.k G.half G.small i.low i.high (logarithm x) R;
    }
  where
    under_2 : (M : ℕ) → M < 2 ^ 53 → M - 2 ^ 52 < 2 ^ 52
    under_2 M h = omega arith

    whole : (M : ℕ) → 2 ^ 52 ≤ M → 2 ^ 52 + (M - 2 ^ 52) ≡ M
    whole M h = omega arith

-- a larger distance is kept too
wider : (u v s t : ℕ) (x r : Float) → u ≤ s → v ≤ t → NearLogarithm u v x r → NearLogarithm s t x r
wider u v s t x r h k N = record {
  is_double = N.is_double;
  M = N.M;
  k = N.k;
  c = N.c;
  is = N.is;
  least = N.least;
  most = N.most;
  sign = N.sign;
  some = N.some;
  short = N.short;
  part = N.part;
  above = more (2 ^ 56 * (minus r * base N.M N.c + floor_plus N.M N.c N.k * unit)) N.above (mul-le-mul_right (unit * base N.M N.c) h);
  under = more (2 ^ 56 * (plus r * base N.M N.c + ceiling_minus N.M N.c N.k * unit)) N.under (mul-le-mul_right (unit * base N.M N.c) k);
}
  where
    more : {a y z : ℕ} (b : ℕ) → a ≤ b + y → y ≤ z → a ≤ b + z
    more b h k = omega arith

-- the distance that document 02 asks for
pub distance : (x : Float) → T (fits binary64 x) → le least x ≡ true → le x most ≡ true → NearLogarithm asked asked x (logarithm x)
distance x f a b = wider most_above most_under asked asked x (logarithm x) (lit≤ tt) (lit≤ tt) (sharper x f a b)

-- ---- ln 1 is 0
pub ln_one : logarithm (fin false 1 (pos 0)) ≡ fin false 0 (pos 0)
unfolding logarithm of_parts of_row reciprocal minus_log fallen difference artanh total term scaled le to_bits of_bits of_int mul
ln_one = refl
