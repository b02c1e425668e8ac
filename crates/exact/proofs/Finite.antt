-- Where an operation does not overflow: the exact result is at most some double in size; and that a sum which may is no NaN. Assumes nothing.
use mathlib.Core.Path.{◌≡◌, refl, sym, ap, ◌∙◌, subst}
use mathlib.Core.Bool.{Bool, true, false, cond, ◌&&◌, beq}
use Prim.Native.Nat.{ℕ, zero, suc, ◌+◌, ◌-◌, ◌*◌, ◌^◌, ◌≤◌, ◌<◌}
use native.Mathlib.Nat.{le_trans, le_of_eq, lt_of_le_of_lt, mul-one, mul_comm, mul_assoc, mul_right_comm, mul-pos, mul-le-mul_right, le_of_mul-le-mul_right}
use native.Mathlib.Omega.{arith}
use lib.Dec.{T, ltb, lt→ltb}
use lib.Pow.{pow_pos}
use lib.Ieee.{Float, nan, inf, fin, binary64, up, down, odd, units, round, unlike, sum, add, mul, div, neg, sub, is_nan}
use lib.Ieee.Fits.{down_pos, round_is, up_pos}
use lib.Ieee.Order.{drop, kept}
use Rattle.exact.specs.Value.{unit, in_units, when, unless, plus, minus, double}
use lib.Ieee.Scale.{finite}
use Rattle.exact.specs.Rounding.{apart}
use Rattle.exact.proofs.Grid.{grid_mono}
use Rattle.exact.proofs.Value.{unit_pos, units_rep, units_exact, grid_rep, units_lt}
use Rattle.exact.proofs.Operations.{neg-double, neg-plus, neg-minus, nz, div_is, gap, all}

units_finite : (s : Bool) (q k : ℕ) → q * 2 ^ k < 2 ^ 2098 → T (finite (units binary64 s q k))
unfolding units odd
units_finite s q k h = go (ltb (q * 2 ^ k) (2 ^ 2098)) (lt→ltb (q * 2 ^ k) (2 ^ 2098) h)
  where
    inner : (q : ℕ) → T (finite (odd 54 s q k 1074))
    inner zero = tt
    inner (suc q) = tt

    go : (b : Bool) → T b → T (finite (cond b (odd 54 s q k 1074) (inf s)))
    go true t = inner q
    go false t = absurd t

pub round_finite : (s : Bool) (a c : ℕ) (b : Float) → 0 < c → T (double b) → a * unit ≤ in_units b * c → T (finite (round binary64 s a c))
unfolding unit
round_finite s a c b C B h =
    let n = a * 2 ^ 1074 in
    subst (λ (x : Float). T (finite x)) (sym (round_is binary64 s a c))
    (units_finite s (kept 53 n c) (drop 53 n c)
    (lt_of_le_of_lt (le_trans (grid_mono n c (in_units b) 1 C (pow_pos 0) (le_trans (le_of_eq (mul-one n)) h)) (le_of_eq (grid_rep (in_units b) (units_rep b B)))) (units_lt b B)))

pub mul_finite : (x y b : Float) → T (double x) → T (double y) → T (double b) → in_units x * in_units y ≤ in_units b * unit → T (finite (mul binary64 x y))
unfolding mul
mul_finite nan y b p q B h = absurd p
mul_finite (inf s) y b p q B h = absurd p
mul_finite (fin s m e) nan b p q B h = absurd q
mul_finite (fin s m e) (inf t) b p q B h = absurd q
mul_finite (fin s m e) (fin t n d) b p q B h =
    round_finite (unlike s t) (m * up e * (n * up d)) (down e * down d) b (mul-pos (down_pos e) (down_pos d)) B
    (go (in_units (fin s m e)) (in_units (fin t n d)) (m * up e) (n * up d) (down e) (down d) (units_exact s m e p) (units_exact t n d q) h)
  where
    go : (X Y M N D E : ℕ) → X * D ≡ M * unit → Y * E ≡ N * unit → X * Y ≤ in_units b * unit → M * N * unit ≤ in_units b * (D * E)
    go X Y M N D E ex ey h =
        le_of_mul-le-mul_right
        (le_trans (le_of_eq (mul_assoc (M * N) unit unit ∙ regroup M N unit unit ∙ ap (λ (z : ℕ). z * (N * unit)) (sym ex) ∙ ap (λ (z : ℕ). X * D * z) (sym ey) ∙ regroup X D Y E))
        (le_trans (mul-le-mul_right (D * E) h) (le_of_eq (mul_right_comm (in_units b) unit (D * E)))))
        unit_pos
      where
        regroup : (a b c d : ℕ) → a * b * (c * d) ≡ a * c * (b * d)
        regroup a b c d = omega arith

-- a part of x: c is at most 1 in size
pub part_finite : (c x : Float) → T (double c) → T (double x) → in_units c ≤ unit → T (finite (mul binary64 c x))
part_finite c x p d h = mul_finite c x x p d d (le_trans (mul-le-mul_right (in_units x) h) (le_of_eq (mul_comm unit (in_units x))))

-- ---- a sum or a difference whose exact value is at most a double c in size
sum_finite : (s : Bool) (a : ℕ) (t : Bool) (b W X Y : ℕ) (c : Float) → T (double c) → 0 < W → a * unit ≡ X * W → b * unit ≡ Y * W
    → apart (unless s X + unless t Y) (when s X + when t Y) ≤ in_units c → T (finite (sum binary64 s a t b W))
unfolding sum
sum_finite false a false b W X Y c C P ea eb h = round_finite false (a + b) W c P C (le_trans (le_of_eq (all a b W X Y P ea eb)) (mul-le-mul_right W (omega arith)))
sum_finite true a true b W X Y c C P ea eb h = round_finite true (a + b) W c P C (le_trans (le_of_eq (all a b W X Y P ea eb)) (mul-le-mul_right W (omega arith)))
sum_finite false a true b W X Y c C P ea eb h = go (ltb a b)
  where
    go : (t : Bool) → T (finite (cond t (round binary64 true (b - a) W) (round binary64 false (a - b) W)))
    go true = round_finite true (b - a) W c P C (le_trans (le_of_eq (gap b a W Y X P eb ea)) (mul-le-mul_right W (omega arith)))
    go false = round_finite false (a - b) W c P C (le_trans (le_of_eq (gap a b W X Y P ea eb)) (mul-le-mul_right W (omega arith)))
sum_finite true a false b W X Y c C P ea eb h = go (ltb a b) (ltb b a)
  where
    go : (t u : Bool) → T (finite (cond t (round binary64 false (b - a) W) (round binary64 u (a - b) W)))
    go true u = round_finite false (b - a) W c P C (le_trans (le_of_eq (gap b a W Y X P eb ea)) (mul-le-mul_right W (omega arith)))
    go false u = round_finite u (a - b) W c P C (le_trans (le_of_eq (gap a b W X Y P ea eb)) (mul-le-mul_right W (omega arith)))

pub add_finite : (x y c : Float) → T (double x) → T (double y) → T (double c) → apart (plus x + plus y) (minus x + minus y) ≤ in_units c → T (finite (add binary64 x y))
unfolding add plus minus
add_finite nan y c p q C h = absurd p
add_finite (inf s) y c p q C h = absurd p
add_finite (fin s m e) nan c p q C h = absurd q
add_finite (fin s m e) (inf t) c p q C h = absurd q
add_finite (fin s m e) (fin t n d) c p q C h =
    sum_finite s (m * up e * down d) t (n * up d * down e) (down e * down d) (in_units (fin s m e)) (in_units (fin t n d)) c C (mul-pos (down_pos e) (down_pos d))
    (mul_right_comm (m * up e) (down d) unit ∙ ap (λ (z : ℕ). z * down d) (sym (units_exact s m e p)) ∙ mul_assoc (in_units (fin s m e)) (down e) (down d))
    (mul_right_comm (n * up d) (down e) unit ∙ ap (λ (z : ℕ). z * down e) (sym (units_exact t n d q)) ∙ mul_assoc (in_units (fin t n d)) (down d) (down e) ∙ ap (λ (z : ℕ). in_units (fin t n d) * z) (mul_comm (down d) (down e)))
    h

pub sub_finite : (x y c : Float) → T (double x) → T (double y) → T (double c) → apart (plus x + minus y) (minus x + plus y) ≤ in_units c → T (finite (sub binary64 x y))
unfolding sub
sub_finite x y c p q C h =
    add_finite x (neg y) c p (neg-double y q) C
    (subst (λ (n : ℕ). apart (plus x + plus (neg y)) (minus x + n) ≤ in_units c) (sym (neg-minus y)) (subst (λ (n : ℕ). apart (plus x + n) (minus x + plus y) ≤ in_units c) (sym (neg-plus y)) h))

-- ---- a quotient: the exact size is at most a double's
pub div_finite : (x y b : Float) → T (double x) → T (double y) → T (double b) → 0 < in_units y → in_units x * unit ≤ in_units b * in_units y → T (finite (div binary64 x y))
div_finite nan y b p q B c h = absurd p
div_finite (inf s) y b p q B c h = absurd p
div_finite (fin s m e) nan b p q B c h = absurd q
div_finite (fin s m e) (inf t) b p q B c h = absurd q
div_finite (fin s m e) (fin t n d) b p q B c h =
    let N : 0 < n = nz t n d q c in
    subst (λ (r : Float). T (finite r)) (sym (div_is s m e t n d N))
    (round_finite (unlike s t) (m * up e * down d) (n * up d * down e) b (mul-pos (mul-pos N (up_pos d)) (down_pos e)) B
    (go (in_units (fin s m e)) (in_units (fin t n d)) (m * up e) (n * up d) (down e) (down d) (in_units b) unit unit_pos (units_exact s m e p) (units_exact t n d q) h))
  where
    go : (X Y M N D E b u : ℕ) → 0 < u → X * D ≡ M * u → Y * E ≡ N * u → X * u ≤ b * Y → M * E * u ≤ b * (N * D)
    go X Y M N D E b u U ex ey h = le_of_mul-le-mul_right (le_trans (le_of_eq (left M E u X D ex)) (le_trans (mul-le-mul_right (D * E) h) (le_of_eq (right b Y D E N u ey)))) U
      where
        left : (M E u X D : ℕ) → X * D ≡ M * u → M * E * u * u ≡ X * u * (D * E)
        left M E u X D e = mid M E u ∙ ap (λ (z : ℕ). z * (E * u)) (sym e) ∙ end X D E u
          where
            mid : (M E u : ℕ) → M * E * u * u ≡ M * u * (E * u)
            mid M E u = omega arith

            end : (X D E u : ℕ) → X * D * (E * u) ≡ X * u * (D * E)
            end X D E u = omega arith

        right : (b Y D E N u : ℕ) → Y * E ≡ N * u → b * Y * (D * E) ≡ b * (N * D) * u
        right b Y D E N u e = mid b Y D E ∙ ap (λ (z : ℕ). b * D * z) e ∙ end b D N u
          where
            mid : (b Y D E : ℕ) → b * Y * (D * E) ≡ b * D * (Y * E)
            mid b Y D E = omega arith

            end : (b D N u : ℕ) → b * D * (N * u) ≡ b * (N * D) * u
            end b D N u = omega arith

-- ---- a sum of two doubles may overflow, but is no NaN
round_number : (s : Bool) (a c : ℕ) → is_nan (round binary64 s a c) ≡ false
unfolding units odd is_nan
round_number s a c = ap is_nan (round_is binary64 s a c) ∙ go (ltb (q * 2 ^ k) (2 ^ 2098)) q
  where
    q : ℕ
    q = kept 53 (a * 2 ^ 1074) c

    k : ℕ
    k = drop 53 (a * 2 ^ 1074) c

    go : (b : Bool) (q : ℕ) → is_nan (cond b (odd 54 s q k 1074) (inf s)) ≡ false
    go true zero = refl
    go true (suc q) = refl
    go false q = refl

pub add-number : (x y : Float) → T (double x) → T (double y) → is_nan (add binary64 x y) ≡ false
unfolding add sum
add-number nan y p q = absurd p
add-number (inf s) y p q = absurd p
add-number (fin s m e) nan p q = absurd q
add-number (fin s m e) (inf t) p q = absurd q
add-number (fin s m e) (fin t n d) p q = pick (beq s t) (ltb a b)
  where
    a : ℕ
    a = m * up e * down d

    b : ℕ
    b = n * up d * down e

    c : ℕ
    c = down e * down d

    pick : (u v : Bool) → is_nan (cond u (round binary64 s (a + b) c) (cond v (round binary64 t (b - a) c) (round binary64 (s && ltb b a) (a - b) c))) ≡ false
    pick true v = round_number s (a + b) c
    pick false true = round_number t (b - a) c
    pick false false = round_number (s && ltb b a) (a - b) c
