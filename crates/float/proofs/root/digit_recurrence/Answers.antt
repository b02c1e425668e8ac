use mathlib.Core.Path.{◌≡◌, ap, ◌∙◌, subst}
use Prim.Native.Nat.{ℕ, ◌+◌, ◌-◌, ◌*◌, ◌/◌, ◌%◌, ◌^◌, ◌≤◌, ◌<◌}
use native.Mathlib.Nat.{pow-succ', mul_left_comm}
use native.Mathlib.Numerals.{add-one}
use native.Mathlib.Omega.{arith}
use lib.Pow.{pow_mono}
use Rattle.float.specs.Root.{isqrt}
use Rattle.float.proofs.RootSquares.{sq-one, sq-two, sq-odd, floor_only, isqrt_floor}
use Rattle.float.proofs.root.digit_recurrence.Invariants.{Down}
use Rattle.float.proofs.root.digit_recurrence.Goals as goal
use Rattle.float.proofs.root.digit_recurrence.Goals.{In-loop-i, then-trial-rem, else-trial-rem}

-- ---- a turn, in plain numbers
next_power : (m i : ℕ) → m * 4 ^ (i + 1) ≡ 4 * (m * 4 ^ i)
next_power m i = ap (λ (x : ℕ). m * 4 ^ x) (add-one i) ∙ ap (λ (x : ℕ). m * x) (pow-succ' 4 i) ∙ mul_left_comm m 4 (4 ^ i)

next-two : (i : ℕ) → 2 ^ (i + 1) ≡ 2 * 2 ^ i
next-two i = ap (λ (x : ℕ). 2 ^ x) (add-one i) ∙ pow-succ' 2 i

-- p is root * root, and a is m * 4 ^ i
digit_one : (p a reg rem root : ℕ) → (p + rem) * 2 ^ 64 + reg ≡ a → reg < 2 ^ 64 → 4 * root + 1 ≤ rem * 4 + reg / 2 ^ 62
    → (4 * p + 4 * root + 1 + (rem * 4 + reg / 2 ^ 62 - (4 * root + 1))) * 2 ^ 64 + reg * 4 % 2 ^ 64 ≡ 4 * a
digit_one p a reg rem root e r t = omega arith

digit_zero : (p a reg rem : ℕ) → (p + rem) * 2 ^ 64 + reg ≡ a → reg < 2 ^ 64 → (4 * p + (rem * 4 + reg / 2 ^ 62)) * 2 ^ 64 + reg * 4 % 2 ^ 64 ≡ 4 * a
digit_zero p a reg rem e r = omega arith

turn_one : (m reg rem root i : ℕ) → Down m reg rem root i → i < 54 → 4 * root + 1 ≤ rem * 4 + reg / 2 ^ 62
    → Down m (reg * 4 % 2 ^ 64) (rem * 4 + reg / 2 ^ 62 - (4 * root + 1)) (2 * root + 1) (i + 1)
turn_one m reg rem root i d l t = (
  rw (next_power, sq-odd) (digit_one (root * root) (m * 4 ^ i) reg rem root d.0 d.3 t),
  omega arith,
  rw next-two (omega arith),
  omega arith,
  omega arith,
)

turn-zero : (m reg rem root i : ℕ) → Down m reg rem root i → i < 54 → rem * 4 + reg / 2 ^ 62 < 4 * root + 1
    → Down m (reg * 4 % 2 ^ 64) (rem * 4 + reg / 2 ^ 62) (2 * root) (i + 1)
turn-zero m reg rem root i d l t = (
  rw (next_power, sq-two) (digit_zero (root * root) (m * 4 ^ i) reg rem d.0 d.3),
  omega arith,
  rw next-two (omega arith),
  omega arith,
  omega arith,
)

pub loop-i-init : goal.loop-i-init
loop-i-init c = omega arith

-- the root is below 2 ^ 54
small : (c : In-loop-i) → c.loop-i.root < 2 ^ 54
small c = omega (arith, pow_mono {i = c.loop-i.i} {j = 54} (omega arith))

pub overflow_mul-rem : goal.overflow_mul-rem
overflow_mul-rem c = omega (arith, small (goal.at.overflow_mul-rem c).In-loop-i)

pub overflow_add-rem : goal.overflow_add-rem
overflow_add-rem c = omega (arith, small (goal.at.overflow_add-rem c).In-loop-i)

pub overflow_mul-trial : goal.overflow_mul-trial
overflow_mul-trial c = omega (arith, small (goal.at.overflow_mul-trial c).In-loop-i)

pub overflow_add-trial : goal.overflow_add-trial
overflow_add-trial c = omega (arith, small (goal.at.overflow_add-trial c).In-loop-i)

pub overflow_mul-root : goal.overflow_mul-root
overflow_mul-root c = omega (arith, small (goal.at.overflow_mul-root c).In-loop-i)

pub overflow_add-root : goal.overflow_add-root
overflow_add-root c = omega (arith, small (goal.at.overflow_add-root c).In-loop-i)

pub overflow_step-i : goal.overflow_step-i
overflow_step-i c = omega arith

pub loop-i-smaller : goal.loop-i-smaller
loop-i-smaller c = omega arith

pub loop-i-preserved : goal.loop-i-preserved
loop-i-preserved c =
    let a = c.loop-i in
    let m = c.args.m in
    let l : a.i < 54 = omega (arith, c.loop-i-test.true) in
    elim c.if-trial-rem.branch [
      | then-trial-rem w ↦ rw (w.rem-is, w.root-is) (turn_one m a.reg a.rem a.root a.i a.invariant l w.if-trial-rem.true)
      | else-trial-rem w ↦ rw (w.rem-is, w.root-is) (turn-zero m a.reg a.rem a.root a.i a.invariant l w.if-trial-rem.false)
    ]

-- m * 4 ^ 54 is m * 2 ^ 44 above the register
emptied : (p m reg rem root : ℕ) → (p + rem) * 2 ^ 64 + reg ≡ m * 4 ^ 54 → reg < 2 ^ 64 → rem ≤ 2 * root → (p ≤ m * 2 ^ 44) × (m * 2 ^ 44 < p + 2 * root + 1)
emptied p m reg rem root e r t = omega arith

whole : (m reg rem root i : ℕ) → Down m reg rem root i → 54 ≤ i → (root * root ≤ m * 2 ^ 44) × (m * 2 ^ 44 < (root + 1) * (root + 1))
whole m reg rem root i d l =
    let e : i ≡ 54 = omega arith in
    rw sq-one (emptied (root * root) m reg rem root (subst (λ (x : ℕ). (root * root + rem) * 2 ^ 64 + reg ≡ m * 4 ^ x) e d.0) d.3 d.1)

pub returns : goal.returns
returns c =
    let m = c.args.m in
    let l = c.loop-i in
    floor_only (m * 2 ^ 44) l.root (isqrt 54 (m * 2 ^ 44)) (whole m l.reg l.rem l.root l.i l.invariant (omega (arith, c.loop-i-test.false))) (isqrt_floor 54 (m * 2 ^ 44) (omega arith))
