-- `square_root x` is the root of x as `IsSquareRoot` has it (`square_root_right`), and no other double is (`square_root_only`). So whatever finds a double that `IsRoot x` holds of has found it (`root-is-square_root`).
-- `at_floor` is how to show it: from the whole part q of the root of an even number a of 107 or 108 digits, with a * 4 ^ h the square in units. Assumes nothing.
use mathlib.Core.Path.{◌≡◌, refl, sym, ap, ◌∙◌, subst}
use mathlib.Core.Logic.{◌⊎◌, inl, inr}
use Prim.Native.Nat.{ℕ, zero, suc, ◌+◌, ◌-◌, ◌*◌, ◌/◌, ◌%◌, ◌^◌, ◌≤◌, ◌<◌}
use native.Mathlib.Nat.{add_comm, le_antisymm, le_trans, le_of_eq, lt_irrefl, lt_of_lt_of_le, lt_of_le_of_lt, mul_assoc, mul-div_cancel, mul-mod_left, mul-le-mul_right, mul-lt-mul_of_pos_right, le_of_mul-le-mul_right, lt_of_mul-lt-mul_right, pow-suc, pow-succ'}
use native.Mathlib.Omega.{arith}
use mathlib.Core.Bool.{Bool, true, false, cond, true≢false}
use lib.Dec.{T, ltb, ltb→lt}
use lib.Pow.{pow-add, pow_pos, pow_mono, shl_lt}
use lib.Ieee.{Float, nan, inf, fin, binary64, size, odd, units, fits}
use lib.Ieee.Digits.{size-lt, size-le, size_reaches}
use lib.Ieee.Fits.{odd-fits}
use lib.Ieee.Exact.{HasValue, units_val}
use Rattle.float.specs.Root.{IsRoot, IsSquareRoot, isqrt, root_of, square_root}
use Rattle.float.proofs.RootSquares.{Floor, isqrt_floor, Near, near_of, up_next, above_mid, below_any}
use Rattle.exact.specs.Value.{unit, in_units, negative, double}
use Rattle.exact.proofs.Grid.{either}
use Rattle.exact.proofs.Value.{double_of, Rep, units_rep, units_lt, units_pos, units_of, plus_rep, plus_of_sign, zero_units, same_value}

-- ---- one root at most
never : (x y : ℕ) → x < y → y < x → ⊥
never x y p q = omega arith

unique_units : (x r s : Float) → IsRoot x r → IsRoot x s → in_units s ≤ in_units r
unique_units x r s p q = go (either (in_units s) (in_units r))
  where
    go : (in_units s ≤ in_units r) ⊎ (in_units r < in_units s) → in_units s ≤ in_units r
    go (inl h) = h
    go (inr h) =
        let er = plus_of_sign r p.sign in
        let es = plus_of_sign s q.sign in
        absurd (never _ _ (rw es at (p.above s q.is_double (rw es h))) (rw (er, add_comm (in_units s) (in_units r)) at (q.below r p.is_double (rw er h))))

pub root_unique : (x r s : Float) → IsRoot x r → IsRoot x s → r ≡ s
root_unique x r s p q = same_value r s p.is_double q.is_double (p.sign ∙ sym q.sign) (le_antisymm (unique_units x s r q p) (unique_units x r s p q))

-- ---- a double of c * 2 ^ (h + 1) units is the root
near-root : (x v : Float) (a c h : ℕ) → in_units x * unit ≡ a * 4 ^ h → Near a c → T (double v) → negative v ≡ false → in_units v ≡ c * 2 ^ suc h → IsRoot x v
near-root x v a c h e n d s u = record {
  is_double = d;
  sign = s;
  above = λ y g l.
      let w = plus_rep y g in
      rw (e, u, w.is) (above_mid a c h (w.q * 2 ^ w.j) n (up_next c (suc h) w.q w.j n.0 w.small (rw (u, w.is) at l)));
  below = λ y g l.
      let w = plus_rep y g in
      rw (e, u, w.is) (below_any a c h w.q w.j n w.small (rw (u, w.is) at l));
}

-- ---- a * 4 ^ h is the square in units, for an even a of 107 or 108 digits
pub record Square (n a h : ℕ) : Type 0 where
  pub whole : n * unit ≡ a * 4 ^ h
  pub low : 2 ^ 106 ≤ a
  pub high : a < 2 ^ 108
  pub even : a % 2 ≡ 0

pub at_floor : (x v : Float) (a h q : ℕ) → Square (in_units x) a h → Floor a q → T (fits binary64 v) → HasValue v false ((q + 1) / 2 * 2 ^ suc h) (2 ^ 1074) → IsRoot x v
at_floor x v a h q p f g u =
    let w = units_of v false ((q + 1) / 2 * 2 ^ suc h) u in
    near-root x v a ((q + 1) / 2) h p.whole (near_of a q p.low p.high p.even f) (double_of v w.2 g) w.1 w.0

pub four : (h : ℕ) → 4 ^ h ≡ 2 ^ (2 * h)
four zero = refl
four (suc h) = pow-succ' 4 h ∙ ap (λ (x : ℕ). 4 * x) (four h) ∙ last (2 ^ (2 * h)) ∙ ap (λ (x : ℕ). 2 * x) (sym (pow-succ' 2 (2 * h))) ∙ sym (pow-succ' 2 (suc (2 * h))) ∙ ap (λ (x : ℕ). 2 ^ x) (twice h)
  where
    last : (x : ℕ) → 4 * x ≡ 2 * (2 * x)
    last x = omega arith

    twice : (h : ℕ) → suc (suc (2 * h)) ≡ 2 * suc h
    twice h = omega arith

-- m * 2 ^ s, with s above 0, is even
pub even_shift : (m s : ℕ) → 0 < s → m * 2 ^ s % 2 ≡ 0
even_shift m zero p = absurd (lt_irrefl 0 p)
even_shift m (suc s) p = ap (λ (x : ℕ). m * x % 2) (pow-suc 2 s) ∙ ap (λ (x : ℕ). x % 2) (sym (mul_assoc m (2 ^ s) 2)) ∙ mul-mod_left (m * 2 ^ s) 2

-- by m * 2 ^ j, the double, and its place in a
pub moved : (m j s h : ℕ) → s + 2 * h ≡ j + 1074 → m * 2 ^ j * unit ≡ m * 2 ^ s * 4 ^ h
unfolding unit
moved m j s h e =
    mul_assoc m (2 ^ j) (2 ^ 1074)
    ∙ ap (λ (x : ℕ). m * x) (sym (pow-add 2 j 1074) ∙ ap (λ (x : ℕ). 2 ^ x) (sym e) ∙ pow-add 2 s (2 * h) ∙ ap (λ (x : ℕ). 2 ^ s * x) (sym (four h)))
    ∙ sym (mul_assoc m (2 ^ s) (4 ^ h))

abbrev dropped : ℕ → ℕ
dropped n = (size n + 967) / 2

size_pos : (n : ℕ) → 0 < n → 0 < size n
size_pos n h = go (size n) (size-lt n)
  where
    go : (z : ℕ) → n < 2 ^ z → 0 < z
    go zero l = absurd (none n h l)
      where
        none : (n : ℕ) → 0 < n → n < 1 → ⊥
        none n p q = omega arith
    go (suc z) l = omega arith

squared : (n : ℕ) → 0 < n → Rep n → n < 2 ^ 2098 → Square n (n * unit / 4 ^ dropped n) (dropped n) × (dropped n < 1600)
unfolding unit
squared n P g top =
    let z = size n in
    let h = dropped n in
    let m = g.q in
    let j = g.j in
    let zp : 0 < z = size_pos n P in
    let zj : z ≤ 53 + j = size-le n (53 + j) (subst (λ (x : ℕ). x < 2 ^ (53 + j)) (sym g.is) (shl_lt 53 j g.small)) in
    let zt : z ≤ 2098 = size-le n 2098 top in
    let s = j + 1074 - 2 * h in
    let b = m * 2 ^ s in
    let w : n * 2 ^ 1074 ≡ b * 4 ^ h = ap (λ (x : ℕ). x * 2 ^ 1074) g.is ∙ moved m j s h (omega arith) in
    let a : n * 2 ^ 1074 / 4 ^ h ≡ b = ap (λ (x : ℕ). x / 4 ^ h) w ∙ mul-div_cancel b (subst (λ (x : ℕ). 0 < x) (sym (four h)) (pow_pos (2 * h))) in
    let hi : b * 4 ^ h < 2 ^ 108 * 4 ^ h =
    subst (λ (x : ℕ). x < 2 ^ 108 * 4 ^ h) w
    (lt_of_lt_of_le (mul-lt-mul_of_pos_right (size-lt n) (pow_pos 1074))
    (le_trans (le_of_eq (sym (pow-add 2 z 1074))) (le_trans (pow_mono {i = z + 1074} {j = 108 + 2 * h} (omega arith)) (le_of_eq (pow-add 2 108 (2 * h) ∙ ap (λ (x : ℕ). 2 ^ 108 * x) (sym (four h))))))) in
    let lo : 2 ^ 106 * 4 ^ h ≤ b * 4 ^ h =
    subst (λ (x : ℕ). 2 ^ 106 * 4 ^ h ≤ x) w
    (le_trans (le_of_eq (ap (λ (x : ℕ). 2 ^ 106 * x) (four h) ∙ sym (pow-add 2 106 (2 * h))))
    (le_trans (pow_mono {i = 106 + 2 * h} {j = z - 1 + 1074} (omega arith)) (le_trans (le_of_eq (pow-add 2 (z - 1) 1074)) (mul-le-mul_right (2 ^ 1074) (size_reaches n (z - 1) (omega arith)))))) in
    (subst (λ (x : ℕ). Square n x h) (sym a) (record { whole = w; low = le_of_mul-le-mul_right lo (subst (λ (x : ℕ). 0 < x) (sym (four h)) (pow_pos (2 * h))); high = lt_of_mul-lt-mul_right (4 ^ h) hi; even = even_shift m s (omega arith) }), omega arith)

-- ---- the definition's value
units_fits : (c k : ℕ) → c ≤ 2 ^ 53 → T (fits binary64 (units binary64 false c k))
unfolding units
units_fits c k a = go (ltb (c * 2 ^ k) (2 ^ (1074 + 1024))) (ltb→lt (c * 2 ^ k) (2 ^ (1074 + 1024)))
  where
    go : (b : Bool) → (T b → c * 2 ^ k < 2 ^ (1074 + 1024)) → T (fits binary64 (cond b (odd 54 false c k 1074) (inf false)))
    go true h = odd-fits binary64 54 false c k (omega arith) a (h tt)
    go false h = unfold fits in tt

fits-above : (c h : ℕ) → c ≤ 2 ^ 53 → h < 1600 → c * 2 ^ suc h < 2 ^ (1074 + 1024)
fits-above c h a b =
    lt_of_le_of_lt (mul-le-mul_right (2 ^ suc h) a)
    (lt_of_le_of_lt (le_of_eq (sym (pow-add 2 53 (suc h)))) (lt_of_le_of_lt (pow_mono {i = 53 + suc h} {j = 1700} (omega arith)) (lib.Pow.pow-lt {i = 1700} {j = 1074 + 1024} (omega arith))))

root_of-is : (n : ℕ) → root_of n ≡ units binary64 false ((isqrt 54 (n * unit / 4 ^ dropped n) + 1) / 2) (suc (dropped n))
unfolding root_of
root_of-is n = refl

root_of-root : (x : Float) → T (double x) → 0 < in_units x → IsRoot x (root_of (in_units x))
root_of-root x d P =
    let n = in_units x in
    let h = dropped n in
    let a = n * unit / 4 ^ h in
    let q = isqrt 54 a in
    let w = squared n P (units_rep x d) (units_lt x d) in
    let fl : Floor a q = isqrt_floor 54 a w.0.high in
    let nr = near_of a q w.0.low w.0.high w.0.even fl in
    subst (λ (v : Float). IsRoot x v) (sym (root_of-is n))
    (at_floor x (units binary64 false ((q + 1) / 2) (suc h)) a h q w.0 fl (units_fits ((q + 1) / 2) (suc h) nr.1)
    (units_val binary64 false ((q + 1) / 2) (suc h) (fits-above ((q + 1) / 2) h nr.1 w.1)))

-- what is a root is the definition's value
pub root-is-square_root : (x r : Float) → T (double x) → negative x ≡ false → 0 < in_units x → IsRoot x r → r ≡ square_root x
unfolding square_root
root-is-square_root nan r d s P h = absurd d
root-is-square_root (inf t) r d s P h = absurd d
root-is-square_root (fin true m e) r d s P h = absurd (true≢false s)
root-is-square_root (fin false zero e) r d s P h = absurd (lt_irrefl 0 (subst (λ (n : ℕ). 0 < n) (zero_units false e) P))
root-is-square_root (fin false (suc m) e) r d s P h = root_unique (fin false (suc m) e) r (root_of (in_units (fin false (suc m) e))) h (root_of-root (fin false (suc m) e) d P)

-- ---- of every double: the definition's value is IEEE 754's square root, and nothing else is
pub square_root_right : (x : Float) → T (fits binary64 x) → IsSquareRoot x (square_root x)
unfolding square_root
square_root_right nan f = refl
square_root_right (inf true) f = refl
square_root_right (inf false) f = refl
square_root_right (fin true zero e) f = refl
square_root_right (fin false zero e) f = refl
square_root_right (fin true (suc m) e) f = refl
square_root_right (fin false (suc m) e) f = root_of-root (fin false (suc m) e) f (units_pos false m e f)

pub square_root_only : (x r s : Float) → IsSquareRoot x r → IsSquareRoot x s → r ≡ s
square_root_only nan r s p q = p ∙ sym q
square_root_only (inf true) r s p q = p ∙ sym q
square_root_only (inf false) r s p q = p ∙ sym q
square_root_only (fin true zero e) r s p q = p ∙ sym q
square_root_only (fin false zero e) r s p q = p ∙ sym q
square_root_only (fin true (suc m) e) r s p q = p ∙ sym q
square_root_only (fin false (suc m) e) r s p q = root_unique (fin false (suc m) e) r s p q
