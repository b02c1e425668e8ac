-- What `root_bits` works out, in plain numbers: the significand and its place from the bits, the shift by the leading zeros, and the bits of the result. Assumes nothing.
use mathlib.Core.Path.{◌≡◌, sym, ap, ◌∙◌, subst}
use mathlib.Core.Logic.{inl, inr}
use Prim.Native.Nat.{ℕ, suc, ◌+◌, ◌-◌, ◌*◌, ◌/◌, ◌%◌, ◌^◌, ◌≤◌, ◌<◌}
use native.Mathlib.Nat.{le_trans, le_of_eq, lt_irrefl, lt_of_lt_of_le, lt_of_le_of_lt, lt_of_not-le, mod-eq_of_lt, mul_assoc, mul-pos, mul-le-mul_right, pow-succ'}
use native.Mathlib.Omega.{arith}
use mathlib.Core.Bool.{false}
use lib.Count.{count_leading_zeros, leading_top}
use lib.Pow.{pow-add, pow_pos, pow_mono, shl_lt}
use lib.Ieee.{binary64, of_bits}
use lib.Ieee.Bits.{of_bits-fits}
use lib.Ieee.Exact.{HasValue}
use Rattle.float.specs.Root.{isqrt, square_root}
use Rattle.float.proofs.RootSquares.{Floor, sq_back, isqrt_floor, near_of}
use Rattle.exact.specs.Value.{unit, in_units}
use Rattle.exact.proofs.Grid.{either}
use Rattle.exact.proofs.Value.{double_of, units_of}
use Rattle.exact.proofs.Bits.{Significand, bits_mid}
use Rattle.float.proofs.SquareRoot.{Square, at_floor, moved, even_shift, root-is-square_root}

-- ---- the shift

pow_lt_back : (i p : ℕ) → 2 ^ i < 2 ^ p → i < p
pow_lt_back i p h = lt_of_not-le (λ (g : p ≤ i). lt_irrefl (2 ^ i) (lt_of_lt_of_le h (pow_mono g)))

-- m has z zeros before it in 64 bits
pub record Zeros (m z : ℕ) : Type 0 where
  pub least : 11 ≤ z
  pub most : z ≤ 63
  pub lo : (s : ℕ) → z ≤ s + 1 → 2 ^ 62 ≤ m * 2 ^ s
  pub hi : (s : ℕ) → s ≤ z → m * 2 ^ s < 2 ^ 64

pub zeros : (m : ℕ) → 0 < m → m < 2 ^ 53 → Zeros m (count_leading_zeros 64 m)
zeros m P F =
    let z = count_leading_zeros 64 m in
    let t = leading_top 64 m P (omega arith) in
    let p = t.0 in
    let q : p < 53 = pow_lt_back p 53 (lt_of_le_of_lt t.2 F) in
    record {
      least = omega arith;
      most = omega arith;
      lo = λ s l. le_trans (le_trans (pow_mono {i = 62} {j = p + s} (omega arith)) (le_of_eq (pow-add 2 p s))) (mul-le-mul_right (2 ^ s) t.2);
      hi = λ s l. lt_of_lt_of_le (shl_lt (suc p) s t.3) (pow_mono {i = suc p + s} {j = 64} (omega arith));
    }

-- ---- the bits of c * 2 ^ k units, for a c of 53 digits, or the next power of two
pub out_bits : (k c : ℕ) → 2 ^ 52 ≤ c → c ≤ 2 ^ 53 → k < 2000 → HasValue (of_bits binary64 (k * 2 ^ 52 + c)) false (c * 2 ^ k) (2 ^ 1074)
out_bits k c lo hi K = elim (either (2 ^ 53) c) [
  | inl g ↦
      let e : suc (suc k) * 2 ^ 52 + 0 ≡ k * 2 ^ 52 + c = omega arith in
      let p : 2 ^ suc k ≡ 2 * 2 ^ k = pow-succ' 2 k in
      let d : c ≡ 2 ^ 53 = omega arith in
      let f : (2 ^ 52 + 0) * 2 ^ suc k ≡ c * 2 ^ k = rw d (omega arith) in
      subst (λ (n : ℕ). HasValue (of_bits binary64 (k * 2 ^ 52 + c)) false n (2 ^ 1074)) f
      (subst (λ (n : ℕ). HasValue (of_bits binary64 n) false ((2 ^ 52 + 0) * 2 ^ suc k) (2 ^ 1074)) e (bits_mid (suc k) 0 (omega arith) (pow_pos 52)))
  | inr g ↦
      let t = c - 2 ^ 52 in
      let e : suc k * 2 ^ 52 + t ≡ k * 2 ^ 52 + c = omega arith in
      let d : 2 ^ 52 + t ≡ c = omega arith in
      subst (λ (n : ℕ). HasValue (of_bits binary64 (k * 2 ^ 52 + c)) false (n * 2 ^ k) (2 ^ 1074)) d
      (subst (λ (n : ℕ). HasValue (of_bits binary64 n) false ((2 ^ 52 + t) * 2 ^ k) (2 ^ 1074)) e (bits_mid k t (omega arith) (omega arith)))
]

-- ---- the whole
abbrev pub raised : ℕ → ℕ → ℕ → ℕ
raised m z j = m * 2 ^ (z - (z + j) % 2) % 2 ^ 64

abbrev pub result : ℕ → ℕ → ℕ → ℕ
result z j q = (j + 1032 - (z - (z + j) % 2)) / 2 * 2 ^ 52 + (q + 1) / 2

pub record Bits (b r q : ℕ) : Type 0 where
  pub small : q < 2 ^ 54
  pub below : r < 2047 * 2 ^ 52
  pub root : of_bits binary64 r ≡ square_root (of_bits binary64 b)

pub found : (b m j z q : ℕ) → Significand b m j → z ≡ count_leading_zeros 64 m → q ≡ isqrt 54 (raised m z j * 2 ^ 44) → Bits b (result z j q) q
found b m j z q g ez is =
    let s = z - (z + j) % 2 in
    let w : Zeros m z = subst (λ (x : ℕ). Zeros m x) (sym ez) (zeros m g.some g.few) in
    let zl : 11 ≤ z = w.least in
    let zm : z ≤ 63 = w.most in
    let jl : j ≤ 2045 = g.low in
    let lo : 2 ^ 62 ≤ m * 2 ^ s = w.lo s (omega arith) in
    let hi : m * 2 ^ s < 2 ^ 64 = w.hi s (omega arith) in
    let a = m * 2 ^ (s + 44) in
    let ea : m * 2 ^ s * 2 ^ 44 ≡ a = mul_assoc m (2 ^ s) (2 ^ 44) ∙ ap (λ (x : ℕ). m * x) (sym (pow-add 2 s 44)) in
    let ah : a < 2 ^ 108 = subst (λ (y : ℕ). y < 2 ^ 108) ea (omega arith) in
    let fa : Floor a q = subst (Floor a) (sym (is ∙ ap (λ (x : ℕ). isqrt 54 (x * 2 ^ 44)) (mod-eq_of_lt hi) ∙ ap (isqrt 54) ea)) (isqrt_floor 54 a ah) in
    let k = (j + 1032 - s) / 2 in
    let h = k - 1 in
    let kh : suc h ≡ k = omega arith in
    let x = of_bits binary64 b in
    let u = units_of x false (m * 2 ^ j) g.value in
    let n : in_units x ≡ m * 2 ^ j = u.0 in
    let al : 2 ^ 106 ≤ a = subst (λ (y : ℕ). 2 ^ 106 ≤ y) ea (omega arith) in
    let ev : a % 2 ≡ 0 = even_shift m (s + 44) (omega arith) in
    let pt : Square (in_units x) a h = record { whole = ap (λ (y : ℕ). y * unit) n ∙ moved m j (s + 44) h (omega arith); low = al; high = ah; even = ev } in
    let nr = near_of a q al ah ev fa in
    let c = (q + 1) / 2 in
    let v = of_bits binary64 (k * 2 ^ 52 + c) in
    let out : HasValue v false (c * 2 ^ suc h) (2 ^ 1074) = subst (λ (y : ℕ). HasValue v false (c * 2 ^ y) (2 ^ 1074)) (sym kh) (out_bits k c nr.0 nr.1 (omega arith)) in
    record {
      small = sq_back q (2 ^ 54) (lt_of_le_of_lt fa.0 ah);
      below = omega (arith, nr.1);
      root = root-is-square_root x v (double_of x u.2 (of_bits-fits binary64 b)) u.1 (subst (λ (y : ℕ). 0 < y) (sym n) (mul-pos g.some (pow_pos j)))
          (at_floor x v a h q pt fa (of_bits-fits binary64 (k * 2 ^ 52 + c)) out);
    }
