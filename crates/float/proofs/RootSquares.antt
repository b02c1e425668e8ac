-- Whole numbers only: the floor root, and the distance of a rounded root to the format's grid. Assumes nothing.
use mathlib.Core.Path.{◌≡◌, refl, sym, ap, ◌∙◌, subst}
use mathlib.Core.Logic.{◌⊎◌, inl, inr}
use Prim.Native.Nat.{ℕ, zero, suc, ◌+◌, ◌-◌, ◌*◌, ◌/◌, ◌%◌, ◌^◌, ◌≤◌, ◌<◌}
use native.Mathlib.Nat.{le_trans, le_of_eq, le_of_lt, lt_of_lt_of_le, lt_of_le_of_lt, mul-add, add-mul, one-mul, mul_assoc, mul-le-mul, mul-le-mul_right, mul-lt-mul_of_pos_right, lt_of_mul-lt-mul_right, mul-mul-mul_comm, mul_left_comm, mul-pos, suc-mul, pow-suc, pow-succ'}
use native.Mathlib.Omega.{arith}
use mathlib.Core.Bool.{Bool, true, false, not, cond}
use lib.Dec.{T, leb, leb→le, nleb→lt}
use lib.Pow.{pow-add, pow_pos, pow_mono}
use lib.Ieee.Digits.{back}
use Rattle.exact.proofs.Grid.{either}
use Rattle.float.specs.Root.{isqrt}

-- ---- squares
pub sq-one : (s : ℕ) → (s + 1) * (s + 1) ≡ s * s + 2 * s + 1
sq-one s = simp (add-mul, mul-add) (omega arith)

pub sq-two : (s : ℕ) → 2 * s * (2 * s) ≡ 4 * (s * s)
sq-two s = mul-mul-mul_comm 2 s 2 s

pub sq-odd : (s : ℕ) → (2 * s + 1) * (2 * s + 1) ≡ 4 * (s * s) + 4 * s + 1
sq-odd s = sq-one (2 * s) ∙ ap (λ (x : ℕ). x + 2 * (2 * s) + 1) (sq-two s) ∙ last (s * s) s
  where
    last : (p s : ℕ) → 4 * p + 2 * (2 * s) + 1 ≡ 4 * p + 4 * s + 1
    last p s = omega arith

-- the square's order is the order
pub sq-le : {a b : ℕ} → a ≤ b → a * a ≤ b * b
sq-le h = mul-le-mul h h

pub sq_back : (a b : ℕ) → a * a < b * b → a < b
sq_back a b h = go (either b a)
  where
    never : (x y : ℕ) → x < y → y ≤ x → ⊥
    never x y p q = omega arith

    go : (b ≤ a) ⊎ (a < b) → a < b
    go (inl g) = absurd (never (a * a) (b * b) h (sq-le g))
    go (inr g) = g

pub sq-lt : {a b : ℕ} → a < b → a * a < b * b
sq-lt {a} {b} h = lt_of_lt_of_le (more a) (sq-le {a = a + 1} {b = b} (next a b h))
  where
    next : (a b : ℕ) → a < b → a + 1 ≤ b
    next a b h = omega arith

    more : (a : ℕ) → a * a < (a + 1) * (a + 1)
    more a = rw sq-one (omega arith)

-- ---- the floor root
-- r is the whole part of the root of n
abbrev pub Floor : ℕ → ℕ → Type 0
Floor n r = (r * r ≤ n) × (n < (r + 1) * (r + 1))

quarter : (d n : ℕ) → n < 4 ^ suc d → n / 4 < 4 ^ d
quarter d n h = go (4 ^ d) (subst (λ (x : ℕ). n < x) (pow-suc 4 d) h)
  where
    go : (p : ℕ) → n < p * 4 → n / 4 < p
    go p h = omega arith

pub floor_step : (s n : ℕ) → Floor (n / 4) s → (b : Bool) → (T b → (2 * s + 1) * (2 * s + 1) ≤ n) → (T (not b) → n < (2 * s + 1) * (2 * s + 1)) → Floor n (cond b (2 * s + 1) (2 * s))
floor_step s n f true t u =
    let h = rw sq-one at f.1 in
    (t tt, rw sq-one (rw sq-odd (omega arith)))
floor_step s n f false t u =
    let h = f.0 in
    (rw sq-two (omega arith), u tt)

pub isqrt_floor : (d n : ℕ) → n < 4 ^ d → Floor n (isqrt d n)
unfolding isqrt
isqrt_floor zero n h = (omega arith, omega arith)
isqrt_floor (suc d) n h =
    let r = 2 * isqrt d (n / 4) in
    floor_step (isqrt d (n / 4)) n (isqrt_floor d (n / 4) (quarter d n h)) (leb ((r + 1) * (r + 1)) n) (leb→le ((r + 1) * (r + 1)) n) (nleb→lt ((r + 1) * (r + 1)) n)

-- there is one floor root
pub floor_only : (n r q : ℕ) → Floor n r → Floor n q → r ≡ q
floor_only n r q f g =
    let a = sq_back r (q + 1) (lt_of_le_of_lt f.0 g.1) in
    let b = sq_back q (r + 1) (lt_of_le_of_lt g.0 f.1) in
    omega arith

-- ---- the format's grid about c * 2 ^ k, for a c of 53 digits: the other numbers of the format, q * 2 ^ j with a q below 2 ^ 53, keep away from it
shifted : (q k j : ℕ) → k ≤ j → q * 2 ^ j ≡ q * 2 ^ (j - k) * 2 ^ k
shifted q k j l = ap (λ (x : ℕ). q * 2 ^ x) (sym (back j k l)) ∙ ap (λ (x : ℕ). q * x) (pow-add 2 (j - k) k) ∙ sym (mul_assoc q (2 ^ (j - k)) (2 ^ k))

coarse : (q j k : ℕ) → q < 2 ^ 53 → j < k → q * 2 ^ j < 2 ^ 52 * 2 ^ k
coarse q j k Q l =
    let a : q * 2 ^ j < 2 ^ 53 * 2 ^ j = mul-lt-mul_of_pos_right Q (pow_pos j) in
    let p : 2 ^ suc j ≡ 2 * 2 ^ j = pow-succ' 2 j in
    let r : 2 ^ suc j ≤ 2 ^ k = pow_mono l in
    omega arith

never : (x y : ℕ) → x < y → y ≤ x → ⊥
never x y p q = omega arith

pub up_next : (c k q j : ℕ) → 2 ^ 52 ≤ c → q < 2 ^ 53 → c * 2 ^ k < q * 2 ^ j → c * 2 ^ k + 2 ^ k ≤ q * 2 ^ j
up_next c k q j C Q h = go (either k j)
  where
    go : (k ≤ j) ⊎ (j < k) → c * 2 ^ k + 2 ^ k ≤ q * 2 ^ j
    go (inl l) =
        let e = shifted q k j l in
        le_trans (le_of_eq (sym (suc-mul c (2 ^ k))))
        (le_trans (mul-le-mul_right (2 ^ k) (lt_of_mul-lt-mul_right (2 ^ k) (subst (λ (x : ℕ). c * 2 ^ k < x) e h))) (le_of_eq (sym e)))
    go (inr l) = absurd (never (c * 2 ^ k) (q * 2 ^ j) h (le_of_lt (lt_of_lt_of_le (coarse q j k Q l) (mul-le-mul_right (2 ^ k) C))))

pub down-next : (c k q j : ℕ) → q < 2 ^ 53 → q * 2 ^ j < c * 2 ^ k → (q * 2 ^ j + 2 ^ k ≤ c * 2 ^ k) ⊎ (q * 2 ^ j < 2 ^ 52 * 2 ^ k)
down-next c k q j Q h = go (either k j)
  where
    go : (k ≤ j) ⊎ (j < k) → (q * 2 ^ j + 2 ^ k ≤ c * 2 ^ k) ⊎ (q * 2 ^ j < 2 ^ 52 * 2 ^ k)
    go (inl l) =
        let e = shifted q k j l in
        let x = q * 2 ^ (j - k) in
        inl (subst (λ (y : ℕ). y + 2 ^ k ≤ c * 2 ^ k) (sym e)
        (le_trans (le_of_eq (sym (suc-mul x (2 ^ k)))) (mul-le-mul_right (2 ^ k) (lt_of_mul-lt-mul_right (2 ^ k) (subst (λ (y : ℕ). y < c * 2 ^ k) e h)))))
    go (inr l) = inr (coarse q j k Q l)

-- ---- c is the whole number nearest to half the root of a, a being of 107 or 108 digits
abbrev pub Near : ℕ → ℕ → Type 0
Near a c = (2 ^ 52 ≤ c) × (c ≤ 2 ^ 53) × ((2 * (c - 1) + 1) * (2 * (c - 1) + 1) < a) × (a < (2 * c + 1) * (2 * c + 1)) × (2 ^ 106 ≤ a)

-- an even number is no odd number's square, so there is no tie
pub near_of : (a q : ℕ) → 2 ^ 106 ≤ a → a < 2 ^ 108 → a % 2 ≡ 0 → Floor a q → Near a ((q + 1) / 2)
near_of a q lo hi even f =
    let c = (q + 1) / 2 in
    let lq : 2 ^ 53 < q + 1 = sq_back (2 ^ 53) (q + 1) (lt_of_le_of_lt lo f.1) in
    let hq : q < 2 ^ 54 = sq_back q (2 ^ 54) (lt_of_le_of_lt f.0 hi) in
    let d = c - 1 in
    let le : (2 * d + 1) * (2 * d + 1) ≤ q * q = sq-le {a = 2 * d + 1} {b = q} (omega arith) in
    let eq : (2 * d + 1) * (2 * d + 1) ≡ 4 * (d * d) + 4 * d + 1 = sq-odd d in
    let ge : (q + 1) * (q + 1) ≤ (2 * c + 1) * (2 * c + 1) = sq-le {a = q + 1} {b = 2 * c + 1} (omega arith) in
    (omega arith, omega arith, strict ((2 * d + 1) * (2 * d + 1)) (d * d) d (q * q) a eq le f.0 even, lt_of_lt_of_le f.1 ge, lo)
  where
    strict : (e p d s a : ℕ) → e ≡ 4 * p + 4 * d + 1 → e ≤ s → s ≤ a → a % 2 ≡ 0 → e < a
    strict e p d s a h i j k = omega arith

-- ---- on which side of a middle the root lies: p is 2 ^ (h + 1), and a * 4 ^ h the square
scale : (a h : ℕ) → 4 * (a * 4 ^ h) ≡ a * (2 ^ suc h * 2 ^ suc h)
scale a h = mul_left_comm 4 a (4 ^ h) ∙ ap (λ (x : ℕ). a * x) (sym (pow-succ' 4 h) ∙ twice (suc h))
  where
    twice : (k : ℕ) → 4 ^ k ≡ 2 ^ k * 2 ^ k
    twice zero = refl
    twice (suc k) = pow-succ' 4 k ∙ ap (λ (x : ℕ). 4 * x) (twice k) ∙ sym (mul-mul-mul_comm 2 (2 ^ k) 2 (2 ^ k)) ∙ ap (λ (x : ℕ). x * x) (sym (pow-succ' 2 k))

wider : (e p s : ℕ) → e * p ≤ s → e * e * (p * p) ≤ s * s
wider e p s h = le_trans (le_of_eq (mul-mul-mul_comm e e p p)) (sq-le h)

narrower : (e p s : ℕ) → s ≤ e * p → s * s ≤ e * e * (p * p)
narrower e p s h = le_trans (sq-le h) (le_of_eq (mul-mul-mul_comm e p e p))

pub above_mid : (a c h y : ℕ) → Near a c → c * 2 ^ suc h + 2 ^ suc h ≤ y → 4 * (a * 4 ^ h) < (c * 2 ^ suc h + y) * (c * 2 ^ suc h + y)
above_mid a c h y n l =
    let p = 2 ^ suc h in
    let e : (2 * c + 1) * p ≡ c * p + (c * p + p) = simp (add-mul, mul_assoc, one-mul) (omega arith) in
    lt_of_le_of_lt (le_of_eq (scale a h))
    (lt_of_lt_of_le (mul-lt-mul_of_pos_right n.3 (mul-pos (pow_pos (suc h)) (pow_pos (suc h)))) (wider (2 * c + 1) p (c * p + y) (omega arith)))

pub below_mid : (a c h y : ℕ) → Near a c → y + 2 ^ suc h ≤ c * 2 ^ suc h → (c * 2 ^ suc h + y) * (c * 2 ^ suc h + y) < 4 * (a * 4 ^ h)
below_mid a c h y n l =
    let p = 2 ^ suc h in
    let d = c - 1 in
    let s : c ≡ suc d = omega arith in
    let f : c * p ≡ d * p + p = ap (λ (x : ℕ). x * p) s ∙ suc-mul d p in
    let e : (2 * d + 1) * p ≡ 2 * (d * p) + p = simp (add-mul, mul_assoc, one-mul) in
    lt_of_lt_of_le
    (lt_of_le_of_lt (narrower (2 * d + 1) p (c * p + y) (omega arith)) (mul-lt-mul_of_pos_right n.2 (mul-pos (pow_pos (suc h)) (pow_pos (suc h)))))
    (le_of_eq (sym (scale a h)))

-- where c is the least of 53 digits, the format is finer below it
pub below_edge : (a c h y : ℕ) → Near a c → c ≤ 2 ^ 52 → y < 2 ^ 52 * 2 ^ suc h → (c * 2 ^ suc h + y) * (c * 2 ^ suc h + y) < 4 * (a * 4 ^ h)
below_edge a c h y n g l =
    let p = 2 ^ suc h in
    let w : c * p ≤ 2 ^ 52 * p = mul-le-mul_right p g in
    lt_of_lt_of_le (sq-lt {a = c * p + y} {b = 2 ^ 53 * p} (omega arith))
    (le_trans (le_of_eq (mul-mul-mul_comm (2 ^ 53) p (2 ^ 53) p)) (le_trans (mul-le-mul_right (p * p) n.4) (le_of_eq (sym (scale a h)))))

pub below_any : (a c h q j : ℕ) → Near a c → q < 2 ^ 53 → q * 2 ^ j < c * 2 ^ suc h → (c * 2 ^ suc h + q * 2 ^ j) * (c * 2 ^ suc h + q * 2 ^ j) < 4 * (a * 4 ^ h)
below_any a c h q j n Q l = go (down-next c (suc h) q j Q l)
  where
    go : (q * 2 ^ j + 2 ^ suc h ≤ c * 2 ^ suc h) ⊎ (q * 2 ^ j < 2 ^ 52 * 2 ^ suc h) → (c * 2 ^ suc h + q * 2 ^ j) * (c * 2 ^ suc h + q * 2 ^ j) < 4 * (a * 4 ^ h)
    go (inl m) = below_mid a c h (q * 2 ^ j) n m
    go (inr m) = elim (either c (2 ^ 52)) [
      | inl g ↦ below_edge a c h (q * 2 ^ j) n g m
      | inr g ↦
          let p = 2 ^ suc h in
          let w : (2 ^ 52 + 1) * p ≤ c * p = mul-le-mul_right p (omega arith) in
          below_mid a c h (q * 2 ^ j) n (omega arith)
    ]
