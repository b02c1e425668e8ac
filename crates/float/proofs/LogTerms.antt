-- The terms of the series, as the loop makes them. Assumes nothing.
use mathlib.Core.Path.{◌≡◌, ap}
use Prim.Native.Nat.{ℕ, ◌+◌, ◌*◌, ◌/◌, ◌^◌, ◌≤◌, ◌<◌}
use native.Mathlib.Nat.{le_trans, le_of_eq, mul_comm, mul-le-mul_left, mul-le-mul_right, div-le_self, div-le_of_le-mul}
use native.Mathlib.Numerals.{add-one}
use native.Mathlib.Omega.{arith}
use Rattle.float.specs.Log.{term, total}

pub term-next : (j z w : ℕ) → term (j + 1) z w ≡ term j z w * w / 2 ^ 64
unfolding term
term-next j z w = ap (λ (n : ℕ). term n z w) (add-one j)

pub total-next : (i j z w : ℕ) → total i (j + 1) z w ≡ total i j z w + term j z w / (i * j + 1)
unfolding total
total-next i j z w = ap (λ (n : ℕ). total i n z w) (add-one j)

pub cut : (t w : ℕ) → w ≤ 2 ^ 64 → t * w / 2 ^ 64 ≤ t
cut t w h = div-le_of_le-mul (2 ^ 64) (le_trans (mul-le-mul_left t h) (le_of_eq (mul_comm t (2 ^ 64))))

-- j turns of at most z each, and one more
pub more : (j z s t m : ℕ) → s ≤ j * z → t ≤ z → s + t / m ≤ (j + 1) * z
more j z s t m h k =
    let d : t / m ≤ t = div-le_self t m in
    let e : (j + 1) * z ≡ j * z + z = one j z in
    omega arith
  where
    one : (j z : ℕ) → (j + 1) * z ≡ j * z + z
    one j z = omega arith

pub upto : (j z : ℕ) → j < 8 → (j + 1) * z ≤ 8 * z
upto j z h = mul-le-mul_right z (omega arith)
