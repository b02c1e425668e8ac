-- Rounding of a fraction of units to the grid of doubles, on natural numbers alone: how far it moves, that it keeps the order, and where it changes nothing. Assumes nothing.
use mathlib.Core.Path.{◌≡◌, refl, sym, ap, ◌∙◌, subst}
use mathlib.Core.Logic.{◌⊎◌, inl, inr}
use mathlib.Core.Bool.{Bool, true, false, not}
use Prim.Native.Nat.{ℕ, ◌+◌, ◌-◌, ◌*◌, ◌/◌, ◌%◌, ◌^◌, ◌≤◌, ◌<◌, zero-le, compare, Ordering}
use native.Mathlib.Nat.{le_trans, le_of_eq, le_antisymm, lt_of_le_of_lt, eq-or-lt_of_le, eq-zero-or-pos, mul-one, zero-mul, mul_comm, mul_assoc, mul-le-mul_right, le_of_mul-le-mul_right, mul-pos, mod-lt, div-add-mod', le-div_iff_mul-le, div-div-eq-div-mul, mul-div_cancel}
use native.Mathlib.Omega.{arith}
use lib.Dec.{T, is_le, compare_is_eq, eqb, leb, leb→le, nleb→lt, eqb→eq, eqb_refl}
use lib.Arith.{lt_of_le-ne}
use lib.Pow.{pow-add, pow_pos, pow_mono, shl_lt}
use lib.Ieee.{nearest, size}
use lib.Ieee.Digits.{size-lt, size-le, size_reaches, back}
use lib.Ieee.Fits.{nearest-le, kept-lt}
use lib.Ieee.Nearest.{closest, closest_mono, nearest-ge, div_mono}
use lib.Ieee.Order.{drop, kept}
use Rattle.exact.specs.Rounding.{grid}

-- ---- the nearest whole number is at most a half away
abbrev Cmp : Ordering → ℕ → ℕ → Type 0
Cmp Ordering.lt a b = a < b
Cmp Ordering.eq a b = a ≡ b
Cmp Ordering.gt a b = b < a

cmp : (a b : ℕ) → Cmp (compare a b) a b
cmp a b = go (compare a b) (leb→le a b) (nleb→lt a b) (eqb→eq a b) (λ (e : a ≡ b). subst (λ (x : ℕ). T (eqb a x)) e (eqb_refl a))
  where
    go : (o : Ordering) → (T (is_le o) → a ≤ b) → (T (not (is_le o)) → b < a) → (T (compare_is_eq o) → a ≡ b) → (a ≡ b → T (compare_is_eq o)) → Cmp o a b
    go Ordering.lt h k e n = lt_of_le-ne (h tt) n
    go Ordering.eq h k e n = e tt
    go Ordering.gt h k e n = k tt

-- C * u is within half of u of a
abbrev pub Half : ℕ → ℕ → ℕ → Type 0
Half C u a = (C * u * 2 ≤ a * 2 + u) × (a * 2 ≤ C * u * 2 + u)

half_of : (q r u a : ℕ) (o : Ordering) → q * u + r ≡ a → r < u → Cmp o (r * 2) u → Half (nearest q o) u a
half_of q r u a Ordering.lt e l h = omega arith
half_of q r u a Ordering.eq e l h =
    let s : q % 2 * u ≤ 1 * u = mul-le-mul_right u (le-one q) in
    omega arith
  where
    le-one : (q : ℕ) → q % 2 ≤ 1
    le-one q = omega arith
half_of q r u a Ordering.gt e l h = omega arith

pub closest_half : (a u : ℕ) → 0 < u → Half (closest a u) u a
closest_half a u U = half_of (a / u) (a % u) u a (compare (a % u * 2) u) (div-add-mod' a u) (mod-lt a U) (cmp (a % u * 2) u)

closest_at : (r u : ℕ) → 0 < u → closest (r * u) u ≡ r
closest_at r u U =
    let C = closest (r * u) u in
    let h = closest_half (r * u) u U in
    let x : (C * 2) * u ≤ (r * 2 + 1) * u = omega (arith, h.0) in
    let y : (r * 2) * u ≤ (C * 2 + 1) * u = omega (arith, h.1) in
    fin C (le_of_mul-le-mul_right x U) (le_of_mul-le-mul_right y U)
  where
    fin : (C : ℕ) → C * 2 ≤ r * 2 + 1 → r * 2 ≤ C * 2 + 1 → C ≡ r
    fin C a b = omega arith

-- ---- the unit in the last place: with 2 ^ 52 units or more (the normal range) it is at most 2 ^ -52 of the fraction
ulp_normal : (a c : ℕ) → 0 < c → 2 ^ 52 * c ≤ a → 2 ^ 52 * (c * 2 ^ drop 53 a c) ≤ a
ulp_normal a c C N = go (drop 53 a c) refl (eq-zero-or-pos (drop 53 a c))
  where
    many : (z k : ℕ) → z - 53 ≡ k → 0 < k → 52 + k < z
    many z k e h = omega arith

    go : (k : ℕ) → drop 53 a c ≡ k → (k ≡ 0) ⊎ (0 < k) → 2 ^ 52 * (c * 2 ^ k) ≤ a
    go k e (inl z) =
        let x : c * 2 ^ k ≡ c = ap (λ (n : ℕ). c * 2 ^ n) z ∙ mul-one c in
        omega arith
    go k e (inr p) =
        let x : 2 ^ (52 + k) * c ≤ a = (le-div_iff_mul-le C).0 (size_reaches (a / c) (52 + k) (many (size (a / c)) k e p)) in
        let y : 2 ^ (52 + k) ≡ 2 ^ 52 * 2 ^ k = pow-add 2 52 k in
        let w : 2 ^ 52 * 2 ^ k * c ≤ a = rw y at x in
        omega arith

-- ---- how far rounding moves: half a unit in the last place
pub grid_ulp : (a c : ℕ) → 0 < c → (grid a c * c * 2 ≤ a * 2 + c * 2 ^ drop 53 a c) × (a * 2 ≤ grid a c * c * 2 + c * 2 ^ drop 53 a c)
grid_ulp a c C =
    let k = drop 53 a c in
    let h = closest_half a (c * 2 ^ k) (mul-pos C (pow_pos k)) in
    go (kept 53 a c) (2 ^ k) h.0 h.1
  where
    go : (K w : ℕ) → K * (c * w) * 2 ≤ a * 2 + c * w → a * 2 ≤ K * (c * w) * 2 + c * w → (K * w * c * 2 ≤ a * 2 + c * w) × (a * 2 ≤ K * w * c * 2 + c * w)
    go K w x y = (omega arith, omega arith)

-- |G - a / c| in two halves, times 2 ^ 53 * c: at most e
abbrev pub Within : ℕ → ℕ → ℕ → ℕ → Type 0
Within G a c e = (2 ^ 53 * (G * c) ≤ 2 ^ 53 * a + e) × (2 ^ 53 * a ≤ 2 ^ 53 * (G * c) + e)

within : (G a c u e : ℕ) → (G * c * 2 ≤ a * 2 + u) × (a * 2 ≤ G * c * 2 + u) → 2 ^ 52 * u ≤ e → Within G a c e
within G a c u e h l = (omega (arith, h.0), omega (arith, h.1))

-- in the normal range: 2 ^ -53 of the fraction
pub grid_err_normal : (a c : ℕ) → 0 < c → 2 ^ 52 * c ≤ a → Within (grid a c) a c a
grid_err_normal a c C N = within (grid a c) a c (c * 2 ^ drop 53 a c) a (grid_ulp a c C) (ulp_normal a c C N)

-- ---- where nothing moves: q * 2 ^ j units with q of at most 53 digits
spare : (z p l : ℕ) → z ≤ p + l → z - p ≤ l
spare z p l h = omega arith

pub grid_exact : (a c q j : ℕ) → 0 < c → q < 2 ^ 53 → a ≡ q * 2 ^ j * c → grid a c ≡ q * 2 ^ j
grid_exact a c q j C small h =
    let e1 : a / c ≡ q * 2 ^ j = ap (λ (x : ℕ). x / c) h ∙ mul-div_cancel (q * 2 ^ j) C in
    let k = drop 53 a c in
    let k-le : k ≤ j = spare (size (a / c)) 53 j (size-le (a / c) (53 + j) (subst (λ (x : ℕ). x < 2 ^ (53 + j)) (sym e1) (shl_lt 53 j small))) in
    let r = q * 2 ^ (j - k) in
    let e3 : r * 2 ^ k ≡ q * 2 ^ j = mul_assoc q (2 ^ (j - k)) (2 ^ k) ∙ ap (λ (x : ℕ). q * x) (sym (pow-add 2 (j - k) k) ∙ ap (λ (x : ℕ). 2 ^ x) (back j k k-le)) in
    let e2 : a ≡ r * (c * 2 ^ k) = h ∙ ap (λ (x : ℕ). x * c) (sym e3) ∙ mul_assoc r (2 ^ k) c ∙ ap (λ (x : ℕ). r * x) (mul_comm (2 ^ k) c) in
    ap (λ (x : ℕ). closest x (c * 2 ^ k) * 2 ^ k) e2
    ∙ ap (λ (x : ℕ). x * 2 ^ k) (closest_at r (c * 2 ^ k) (mul-pos C (pow_pos k)))
    ∙ e3

-- ---- the order is kept
kept_le : (a c : ℕ) → kept 53 a c ≤ 2 ^ 53
kept_le a c =
    let k = drop 53 a c in
    let u = c * 2 ^ k in
    le_trans (nearest-le (a / u) (compare (a % u * 2) u)) (subst (λ (x : ℕ). x < 2 ^ 53) (div-div-eq-div-mul a c (2 ^ k)) (kept-lt 53 (a / c)))

kept_ge : (a c : ℕ) → 0 < drop 53 a c → 2 ^ 52 ≤ kept 53 a c
kept_ge a c K =
    let k = drop 53 a c in
    let u = c * 2 ^ k in
    let x : 2 ^ 52 * 2 ^ k ≤ a / c = le_trans (le_of_eq (sym (pow-add 2 52 k))) (size_reaches (a / c) (52 + k) (many (size (a / c)) K)) in
    le_trans (subst (λ (x : ℕ). 2 ^ 52 ≤ x) (div-div-eq-div-mul a c (2 ^ k)) ((le-div_iff_mul-le (pow_pos k)).1 x)) (nearest-ge (a / u) (compare (a % u * 2) u))
  where
    many : (z : ℕ) → 0 < z - 53 → 52 + (z - 53) < z
    many z h = omega arith

same_drop : (k a b c d : ℕ) → 0 < b → 0 < d → a * d ≤ c * b → closest a (b * 2 ^ k) * 2 ^ k ≤ closest c (d * 2 ^ k) * 2 ^ k
same_drop k a b c d B D h =
    mul-le-mul_right (2 ^ k)
    (closest_mono a (b * 2 ^ k) c (d * 2 ^ k) (mul-pos B (pow_pos k)) (mul-pos D (pow_pos k))
    (le_trans (le_of_eq (sym (mul_assoc a d (2 ^ k)))) (le_trans (mul-le-mul_right (2 ^ k) h) (le_of_eq (mul_assoc c b (2 ^ k))))))

fewer : (x y : ℕ) → x ≤ y → x - 53 ≤ y - 53
fewer x y h = omega arith

size_mono : (a b : ℕ) → a ≤ b → size a ≤ size b
size_mono a b h = size-le a (size b) (lt_of_le_of_lt h (size-lt b))

-- a / b ≤ c / d
pub grid_mono : (a b c d : ℕ) → 0 < b → 0 < d → a * d ≤ c * b → grid a b ≤ grid c d
grid_mono a b c d B D h =
    let j = drop 53 a b in
    let k = drop 53 c d in
    elim (eq-or-lt_of_le (fewer (size (a / b)) (size (c / d)) (size_mono (a / b) (c / d) (div_mono a b c d B D h)))) [
      | inl e ↦ subst (λ (x : ℕ). closest a (b * 2 ^ x) * 2 ^ x ≤ grid c d) (sym e) (same_drop k a b c d B D h)
      | inr l ↦
          le_trans (mul-le-mul_right (2 ^ j) (kept_le a b))
          (le_trans (le_of_eq (sym (pow-add 2 53 j)))
          (le_trans (pow_mono (room j k l))
          (le_trans (le_of_eq (pow-add 2 52 k)) (mul-le-mul_right (2 ^ k) (kept_ge c d (lt_of_le_of_lt zero-le l))))))
    ]
  where
    room : (j k : ℕ) → j < k → 53 + j ≤ 52 + k
    room j k l = omega arith

pub grid-same : (a b c d : ℕ) → 0 < b → 0 < d → a * d ≡ c * b → grid a b ≡ grid c d
grid-same a b c d B D e = le_antisymm (grid_mono a b c d B D (le_of_eq e)) (grid_mono c d a b D B (le_of_eq (sym e)))

-- ---- a whole number of units below 2 ^ 53 is on the grid, so a sum of doubles has no error below the normal range
pub grid-small : (a : ℕ) → a < 2 ^ 53 → grid a 1 ≡ a
grid-small a h = grid_exact a 1 a 0 (pow_pos 0) h (sym (mul-one (a * 2 ^ 0) ∙ mul-one a)) ∙ mul-one a

pub grid-zero : (c : ℕ) → 0 < c → grid 0 c ≡ 0
grid-zero c C = grid_exact 0 c 0 0 C (pow_pos 53) (sym (zero-mul c))

pub either : (a b : ℕ) → (a ≤ b) ⊎ (b < a)
either a b = go (leb a b) (leb→le a b) (nleb→lt a b)
  where
    go : (t : Bool) → (T t → a ≤ b) → (T (not t) → b < a) → (a ≤ b) ⊎ (b < a)
    go true x y = inl (x tt)
    go false x y = inr (y tt)

-- a choice, the other way round
pub other_way : {A B : Type 0} → A ⊎ B → B ⊎ A
other_way (inl a) = inr a
other_way (inr b) = inl b

pub grid_err_whole : (a : ℕ) → Within (grid a 1) a 1 a
grid_err_whole a = go (either (2 ^ 53) a)
  where
    flat : (G : ℕ) → G ≡ a → Within G a 1 a
    flat G e = (omega arith, omega arith)

    big : 2 ^ 53 ≤ a → 2 ^ 52 * 1 ≤ a
    big h = omega arith

    go : (2 ^ 53 ≤ a) ⊎ (a < 2 ^ 53) → Within (grid a 1) a 1 a
    go (inl n) = grid_err_normal a 1 (pow_pos 0) (big n)
    go (inr s) = flat (grid a 1) (grid-small a s)
