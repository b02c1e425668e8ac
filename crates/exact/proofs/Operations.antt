-- One fact per operation: a finite result of +, -, * or / of doubles is the exact result, rounded once (`Rounds`). Assumes nothing.
use mathlib.Core.Path.{◌≡◌, refl, sym, ap, ◌∙◌, subst}
use mathlib.Core.Bool.{Bool, true, false, not, cond}
use Prim.Native.Nat.{ℕ, zero, suc, ◌+◌, ◌-◌, ◌*◌, ◌/◌, ◌^◌, ◌≤◌, ◌<◌}
use native.Mathlib.Nat.{le_of_eq, lt_of_lt_of_le, mul-one, zero-mul, mul_comm, mul_assoc, mul_right_comm, add-mul, mul-mul-mul_comm, mul-sub, mul-pos, zero-div, eq_of_mul-eq-mul_right, zero-sub, sub-zero, lt_irrefl, zero-lt-suc}
use native.Mathlib.Omega.{arith}
use lib.IntN.{ℤ}
use lib.Dec.{T, ltb, eqb, ltb→lt, nltb→le, eqb→eq}
use lib.Pow.{pow_pos}
use lib.Ieee.{Float, nan, inf, fin, unlike, binary64, up, down, fits, odd, units, round, neg, sum, add, sub, mul, div}
use lib.Ieee.Fits.{up_pos, down_pos, round_is, round-fits, neg-fits}
use lib.Ieee.Exact.{units_val}
use lib.Ieee.Order.{drop, kept}
use Rattle.exact.specs.Value.{unit, in_units, negative, when, unless, plus, minus, double}
use lib.Ieee.Scale.{finite}
use Rattle.exact.specs.Rounding.{grid, Rounds}
use Rattle.exact.proofs.Grid.{grid-same, grid-zero}
use Rattle.exact.proofs.Value.{unit_pos, units_exact, double_of, units_of}

-- ---- `round`, where its result is finite: its size is the fraction's in units, rounded
under : (s : Bool) (q k : ℕ) → T (finite (units binary64 s q k)) → q * 2 ^ k < 2 ^ 2098
unfolding units
under s q k = go (ltb (q * 2 ^ k) (2 ^ 2098)) (ltb→lt (q * 2 ^ k) (2 ^ 2098))
  where
    go : (b : Bool) → (T b → q * 2 ^ k < 2 ^ 2098) → T (finite (cond b (odd 54 s q k 1074) (inf s))) → q * 2 ^ k < 2 ^ 2098
    go true h t = h tt
    go false h t = absurd t

round_units : (s : Bool) (a c : ℕ) → T (finite (round binary64 s a c)) → (in_units (round binary64 s a c) ≡ grid (a * unit) c) × (negative (round binary64 s a c) ≡ s)
unfolding unit
round_units s a c t =
    let n = a * 2 ^ 1074 in
    let e : round binary64 s a c ≡ units binary64 s (kept 53 n c) (drop 53 n c) = round_is binary64 s a c in
    let f : T (finite (units binary64 s (kept 53 n c) (drop 53 n c))) = subst (λ (x : Float). T (finite x)) e t in
    subst (λ (x : Float). (in_units x ≡ grid n c) × (negative x ≡ s)) (sym e)
    (both (units_of (units binary64 s (kept 53 n c) (drop 53 n c)) s (grid n c) (units_val binary64 s (kept 53 n c) (drop 53 n c) (under s (kept 53 n c) (drop 53 n c) f))))
  where
    both : {A B C : Type 0} → A × B × C → A × B
    both w = (w.0, w.1)

-- a round of a / d, where the sign and a / d, in units, are those of (p - n) / c
rounds : (s : Bool) (a d p n c : ℕ) → 0 < d → 0 < c → unless s (a * unit) * c ≡ (p - n) * d → when s (a * unit) * c ≡ (n - p) * d
    → T (finite (round binary64 s a d)) → Rounds (round binary64 s a d) p n c
unfolding plus minus
rounds s a d p n c D C ep en t =
    let r = round binary64 s a d in
    let h = round_units s a d t in
    record {
      is_double = double_of r t (round-fits binary64 s a d);
      plus_is = ap (λ (b : Bool). unless b (in_units r)) h.1 ∙ ap (λ (x : ℕ). unless s x) h.0 ∙ go_p s ep;
      minus_is = ap (λ (b : Bool). when b (in_units r)) h.1 ∙ ap (λ (x : ℕ). when s x) h.0 ∙ go_n s en;
    }
  where
    nothing : (y : ℕ) → 0 * c ≡ y * d → 0 ≡ grid y c
    nothing y e = sym (ap (λ (w : ℕ). grid w c) (eq_of_mul-eq-mul_right d D y 0 (sym e ∙ zero-mul c ∙ sym (zero-mul d))) ∙ grid-zero c C)

    go_p : (s : Bool) → unless s (a * unit) * c ≡ (p - n) * d → unless s (grid (a * unit) d) ≡ grid (p - n) c
    go_p false e = grid-same (a * unit) d (p - n) c D C e
    go_p true e = nothing (p - n) e

    go_n : (s : Bool) → when s (a * unit) * c ≡ (n - p) * d → when s (grid (a * unit) d) ≡ grid (n - p) c
    go_n false e = nothing (n - p) e
    go_n true e = grid-same (a * unit) d (n - p) c D C e

-- ---- the sum
module _ (a b W X Y : ℕ) (P : 0 < W) (ea : a * unit ≡ X * W) (eb : b * unit ≡ Y * W) where
  pub gap : (a - b) * unit ≡ (X - Y) * W
  gap =
      mul_comm (a - b) unit ∙ mul-sub unit a b ∙ ap (λ (z : ℕ). z - unit * b) (mul_comm unit a ∙ ea) ∙ ap (λ (z : ℕ). X * W - z) (mul_comm unit b ∙ eb)
      ∙ sym (mul_comm (X - Y) W ∙ mul-sub W X Y ∙ ap (λ (z : ℕ). z - W * Y) (mul_comm W X) ∙ ap (λ (z : ℕ). X * W - z) (mul_comm W Y))

  pub all : (a + b) * unit ≡ (X + Y) * W
  all = add-mul a b unit ∙ ap (λ (z : ℕ). z + b * unit) ea ∙ ap (λ (z : ℕ). X * W + z) eb ∙ sym (add-mul X Y W)

  -- the same over p and n
  alike : (u v w z : ℕ) → u * unit ≡ v * W → v ≡ w → z ≡ u → z * unit * 1 ≡ w * W
  alike u v w z e f h = mul-one (z * unit) ∙ ap (λ (k : ℕ). k * unit) h ∙ e ∙ ap (λ (k : ℕ). k * W) f

  none : (u v w : ℕ) → u * unit ≡ v * W → v ≡ w → u ≡ 0 → 0 * 1 ≡ w * W
  none u v w e f h = sym (ap (λ (k : ℕ). k * W) (sym f) ∙ sym e ∙ ap (λ (k : ℕ). k * unit) h ∙ zero-mul unit)

sum_rounds : (s : Bool) (a : ℕ) (t : Bool) (b W X Y : ℕ) → 0 < W → a * unit ≡ X * W → b * unit ≡ Y * W → T (finite (sum binary64 s a t b W))
    → Rounds (sum binary64 s a t b W) (unless s X + unless t Y) (when s X + when t Y) 1
unfolding sum
sum_rounds false a false b W X Y P ea eb h =
    rounds false (a + b) W (X + Y) (0 + 0) 1 P (pow_pos 0) (alike a b W X Y P ea eb (a + b) (X + Y) (X + Y - (0 + 0)) (a + b) (all a b W X Y P ea eb) (sym (sub-zero (X + Y))) refl)
    (sym (ap (λ (k : ℕ). k * W) (zero-sub (X + Y)) ∙ zero-mul W)) h
sum_rounds true a true b W X Y P ea eb h =
    rounds true (a + b) W (0 + 0) (X + Y) 1 P (pow_pos 0) (sym (ap (λ (k : ℕ). k * W) (zero-sub (X + Y)) ∙ zero-mul W))
    (alike a b W X Y P ea eb (a + b) (X + Y) (X + Y - (0 + 0)) (a + b) (all a b W X Y P ea eb) (sym (sub-zero (X + Y))) refl) h
sum_rounds false a true b W X Y P ea eb h = go (ltb a b) (ltb→lt a b) (nltb→le a b) h
  where
    go : (c : Bool) → (T c → a < b) → (T (not c) → b ≤ a) → T (finite (cond c (round binary64 true (b - a) W) (round binary64 false (a - b) W)))
        → Rounds (cond c (round binary64 true (b - a) W) (round binary64 false (a - b) W)) (X + 0) (0 + Y) 1
    go true l grid h =
        let k : a < b = l tt in
        rounds true (b - a) W (X + 0) (0 + Y) 1 P (pow_pos 0) (none a b W X Y P ea eb (a - b) (X - Y) (X + 0 - (0 + Y)) (gap a b W X Y P ea eb) (omega arith) (omega arith))
        (alike a b W X Y P ea eb (b - a) (Y - X) (0 + Y - (X + 0)) (b - a) (gap b a W Y X P eb ea) (omega arith) refl) h
    go false l grid h =
        let k : b ≤ a = grid tt in
        rounds false (a - b) W (X + 0) (0 + Y) 1 P (pow_pos 0) (alike a b W X Y P ea eb (a - b) (X - Y) (X + 0 - (0 + Y)) (a - b) (gap a b W X Y P ea eb) (omega arith) refl)
        (none a b W X Y P ea eb (b - a) (Y - X) (0 + Y - (X + 0)) (gap b a W Y X P eb ea) (omega arith) (omega arith)) h
sum_rounds true a false b W X Y P ea eb h = go (ltb a b) (ltb b a) (ltb→lt a b) (nltb→le a b) (ltb→lt b a) (nltb→le b a) h
  where
    go : (c d : Bool) → (T c → a < b) → (T (not c) → b ≤ a) → (T d → b < a) → (T (not d) → a ≤ b) → T (finite (cond c (round binary64 false (b - a) W) (round binary64 d (a - b) W)))
        → Rounds (cond c (round binary64 false (b - a) W) (round binary64 d (a - b) W)) (0 + Y) (X + 0) 1
    go true d l grid m o h =
        let k : a < b = l tt in
        rounds false (b - a) W (0 + Y) (X + 0) 1 P (pow_pos 0) (alike a b W X Y P ea eb (b - a) (Y - X) (0 + Y - (X + 0)) (b - a) (gap b a W Y X P eb ea) (omega arith) refl)
        (none a b W X Y P ea eb (a - b) (X - Y) (X + 0 - (0 + Y)) (gap a b W X Y P ea eb) (omega arith) (omega arith)) h
    go false true l grid m o h =
        let k : b < a = m tt in
        rounds true (a - b) W (0 + Y) (X + 0) 1 P (pow_pos 0) (none a b W X Y P ea eb (b - a) (Y - X) (0 + Y - (X + 0)) (gap b a W Y X P eb ea) (omega arith) (omega arith))
        (alike a b W X Y P ea eb (a - b) (X - Y) (X + 0 - (0 + Y)) (a - b) (gap a b W X Y P ea eb) (omega arith) refl) h
    go false false l grid m o h =
        let k : b ≤ a = grid tt in
        let j : a ≤ b = o tt in
        rounds false (a - b) W (0 + Y) (X + 0) 1 P (pow_pos 0) (alike a b W X Y P ea eb (b - a) (Y - X) (0 + Y - (X + 0)) (a - b) (gap b a W Y X P eb ea) (omega arith) (omega arith))
        (none a b W X Y P ea eb (a - b) (X - Y) (X + 0 - (0 + Y)) (gap a b W X Y P ea eb) (omega arith) (omega arith)) h

pub add_rounds : (x y : Float) → T (double x) → T (double y) → T (finite (add binary64 x y)) → Rounds (add binary64 x y) (plus x + plus y) (minus x + minus y) 1
unfolding add plus minus
add_rounds nan y p q h = absurd p
add_rounds (inf s) y p q h = absurd p
add_rounds (fin s m e) nan p q h = absurd q
add_rounds (fin s m e) (inf t) p q h = absurd q
add_rounds (fin s m e) (fin t n d) p q h =
    sum_rounds s (m * up e * down d) t (n * up d * down e) (down e * down d) (in_units (fin s m e)) (in_units (fin t n d)) (mul-pos (down_pos e) (down_pos d))
    (mul_right_comm (m * up e) (down d) unit ∙ ap (λ (z : ℕ). z * down d) (sym (units_exact s m e p)) ∙ mul_assoc (in_units (fin s m e)) (down e) (down d))
    (mul_right_comm (n * up d) (down e) unit ∙ ap (λ (z : ℕ). z * down e) (sym (units_exact t n d q)) ∙ mul_assoc (in_units (fin t n d)) (down d) (down e) ∙ ap (λ (z : ℕ). in_units (fin t n d) * z) (mul_comm (down d) (down e)))
    h

-- ---- negation, and the difference
pub neg-double : (x : Float) → T (double x) → T (double (neg x))
unfolding neg
neg-double nan h = absurd h
neg-double (inf s) h = absurd h
neg-double (fin s m e) h = neg-fits binary64 (fin s m e) h

pub neg-plus : (x : Float) → plus (neg x) ≡ minus x
unfolding neg plus minus in_units
neg-plus nan = refl
neg-plus (inf true) = refl
neg-plus (inf false) = refl
neg-plus (fin true m e) = refl
neg-plus (fin false m e) = refl

pub neg-minus : (x : Float) → minus (neg x) ≡ plus x
unfolding neg plus minus in_units
neg-minus nan = refl
neg-minus (inf true) = refl
neg-minus (inf false) = refl
neg-minus (fin true m e) = refl
neg-minus (fin false m e) = refl

pub sub_rounds : (x y : Float) → T (double x) → T (double y) → T (finite (sub binary64 x y)) → Rounds (sub binary64 x y) (plus x + minus y) (minus x + plus y) 1
unfolding sub
sub_rounds x y p q h =
    subst (λ (n : ℕ). Rounds (add binary64 x (neg y)) (plus x + minus y) (minus x + n) 1) (neg-minus y)
    (subst (λ (n : ℕ). Rounds (add binary64 x (neg y)) (plus x + n) (minus x + minus (neg y)) 1) (neg-plus y) (add_rounds x (neg y) p (neg-double y q) h))

-- ---- the product
module _ (m : ℕ) (e : ℤ) (n : ℕ) (d : ℤ) (X Y : ℕ) (ex : X * down e ≡ m * up e * unit) (ey : Y * down d ≡ n * up d * unit) where
  prod : (w : ℕ) → X * Y ≡ w → m * up e * (n * up d) * unit * unit ≡ w * (down e * down d)
  prod w h =
      mul_assoc (m * up e * (n * up d)) unit unit ∙ mul-mul-mul_comm (m * up e) (n * up d) unit unit ∙ ap (λ (z : ℕ). z * (n * up d * unit)) (sym ex) ∙ ap (λ (z : ℕ). X * down e * z) (sym ey)
      ∙ mul-mul-mul_comm X (down e) Y (down d) ∙ ap (λ (z : ℕ). z * (down e * down d)) h

  quot : (w : ℕ) → X * unit ≡ w → m * up e * down d * unit * Y ≡ w * (n * up d * down e)
  quot w h =
      ap (λ (z : ℕ). z * Y) (mul_right_comm (m * up e) (down d) unit ∙ ap (λ (z : ℕ). z * down d) (sym ex))
      ∙ go X Y (down e) (down d) (n * up d) ey ∙ ap (λ (z : ℕ). z * (n * up d * down e)) h
    where
      go : (X Y D E N : ℕ) → Y * E ≡ N * unit → X * D * E * Y ≡ X * unit * (N * D)
      go X Y D E N f =
          mul_assoc (X * D) E Y ∙ ap (λ (z : ℕ). X * D * z) (mul_comm E Y ∙ f ∙ mul_comm N unit) ∙ mul-mul-mul_comm X D unit N ∙ ap (λ (z : ℕ). X * unit * z) (mul_comm D N)

off : (w D c : ℕ) → w ≡ 0 → 0 * c ≡ w * D
off w D c h = zero-mul c ∙ sym (ap (λ (z : ℕ). z * D) h ∙ zero-mul D)

pub mul_rounds : (x y : Float) → T (double x) → T (double y) → T (finite (mul binary64 x y)) → Rounds (mul binary64 x y) (plus x * plus y + minus x * minus y) (plus x * minus y + minus x * plus y) unit
unfolding mul plus minus
mul_rounds nan y p q h = absurd p
mul_rounds (inf s) y p q h = absurd p
mul_rounds (fin s m e) nan p q h = absurd q
mul_rounds (fin s m e) (inf t) p q h = absurd q
mul_rounds (fin s m e) (fin t n d) p q h =
    go s t (in_units (fin s m e)) (in_units (fin t n d)) (prod m e n d (in_units (fin s m e)) (in_units (fin t n d)) (units_exact s m e p) (units_exact t n d q)) h
  where
    D : ℕ
    D = down e * down d

    A : ℕ
    A = m * up e * (n * up d)

    P : 0 < down e * down d
    P = mul-pos (down_pos e) (down_pos d)

    go : (s t : Bool) (X Y : ℕ) → ((w : ℕ) → X * Y ≡ w → m * up e * (n * up d) * unit * unit ≡ w * (down e * down d))
        → T (finite (round binary64 (unlike s t) (m * up e * (n * up d)) (down e * down d)))
        → Rounds (round binary64 (unlike s t) (m * up e * (n * up d)) (down e * down d)) (unless s X * unless t Y + when s X * when t Y) (unless s X * when t Y + when s X * unless t Y) unit
    go false false X Y f h = rounds false A D (X * Y + 0 * 0) (X * 0 + 0 * Y) unit P unit_pos (f (X * Y + 0 * 0 - (X * 0 + 0 * Y)) (omega arith)) (off (X * 0 + 0 * Y - (X * Y + 0 * 0)) D unit (omega arith)) h
    go false true X Y f h = rounds true A D (X * 0 + 0 * Y) (X * Y + 0 * 0) unit P unit_pos (off (X * 0 + 0 * Y - (X * Y + 0 * 0)) D unit (omega arith)) (f (X * Y + 0 * 0 - (X * 0 + 0 * Y)) (omega arith)) h
    go true false X Y f h = rounds true A D (0 * Y + X * 0) (0 * 0 + X * Y) unit P unit_pos (off (0 * Y + X * 0 - (0 * 0 + X * Y)) D unit (omega arith)) (f (0 * 0 + X * Y - (0 * Y + X * 0)) (omega arith)) h
    go true true X Y f h = rounds false A D (0 * 0 + X * Y) (0 * Y + X * 0) unit P unit_pos (f (0 * 0 + X * Y - (0 * Y + X * 0)) (omega arith)) (off (0 * Y + X * 0 - (0 * 0 + X * Y)) D unit (omega arith)) h

-- ---- the quotient by a divisor above zero, and by one below
pub nz : (t : Bool) (n : ℕ) (d : ℤ) → T (fits binary64 (fin t n d)) → 0 < in_units (fin t n d) → 0 < n
unfolding in_units
nz t zero d q h = absurd (lt_irrefl 0 (lt_of_lt_of_le h (le_of_eq (zip d))))
  where
    zip : (d : ℤ) → in_units (fin t zero d) ≡ 0
    zip d = ap (λ (z : ℕ). z * unit / down d) (zero-mul (up d)) ∙ ap (λ (z : ℕ). z / down d) (zero-mul unit) ∙ zero-div (down d)
nz t (suc n) d q h = zero-lt-suc n

pick : (n : ℕ) (x y : Float) → 0 < n → cond (eqb n 0) x y ≡ y
pick n x y h = go (eqb n 0) (eqb→eq n 0)
  where
    go : (b : Bool) → (T b → n ≡ 0) → cond b x y ≡ y
    go true k = absurd (lt_irrefl 0 (subst (λ (z : ℕ). 0 < z) (k tt) h))
    go false k = refl

pub div_is : (s : Bool) (m : ℕ) (e : ℤ) (t : Bool) (n : ℕ) (d : ℤ) → 0 < n → div binary64 (fin s m e) (fin t n d) ≡ round binary64 (unlike s t) (m * up e * down d) (n * up d * down e)
unfolding div
div_is s m e t n d h = pick n (cond (eqb m 0) nan (inf (unlike s t))) (round binary64 (unlike s t) (m * up e * down d) (n * up d * down e)) h

module _ (m : ℕ) (e : ℤ) (n : ℕ) (d : ℤ) (X Y : ℕ) (N : 0 < n) (C : 0 < Y) (f : (w : ℕ) → X * unit ≡ w → m * up e * down d * unit * Y ≡ w * (n * up d * down e)) where
  quotient : (s t : Bool) → T (finite (round binary64 (unlike s t) (m * up e * down d) (n * up d * down e)))
      → Rounds (round binary64 (unlike s t) (m * up e * down d) (n * up d * down e)) (unless (unlike s t) X * unit) (when (unlike s t) X * unit) Y
  quotient s t h = go (unlike s t) h
    where
      D : ℕ
      D = n * up d * down e

      P : 0 < n * up d * down e
      P = mul-pos (mul-pos N (up_pos d)) (down_pos e)

      go : (b : Bool) → T (finite (round binary64 b (m * up e * down d) (n * up d * down e))) → Rounds (round binary64 b (m * up e * down d) (n * up d * down e)) (unless b X * unit) (when b X * unit) Y
      go false h = rounds false (m * up e * down d) D (X * unit) (0 * unit) Y P C (f (X * unit - 0 * unit) (omega arith)) (off (0 * unit - X * unit) D Y (omega arith)) h
      go true h = rounds true (m * up e * down d) D (0 * unit) (X * unit) Y P C (off (0 * unit - X * unit) D Y (omega arith)) (f (X * unit - 0 * unit) (omega arith)) h

pub div_rounds : (x y : Float) → T (double x) → T (double y) → 0 < in_units y → T (finite (div binary64 x y))
    → Rounds (div binary64 x y) (unless (unlike (negative x) (negative y)) (in_units x) * unit) (when (unlike (negative x) (negative y)) (in_units x) * unit) (in_units y)
div_rounds nan y p q c h = absurd p
div_rounds (inf s) y p q c h = absurd p
div_rounds (fin s m e) nan p q c h = absurd q
div_rounds (fin s m e) (inf t) p q c h = absurd q
div_rounds (fin s m e) (fin t n d) p q c h =
    let N : 0 < n = nz t n d q c in
    let E = div_is s m e t n d N in
    let X = in_units (fin s m e) in
    let Y = in_units (fin t n d) in
    subst (λ (r : Float). Rounds r (unless (unlike s t) X * unit) (when (unlike s t) X * unit) Y) (sym E)
    (quotient m e n d X Y N c (quot m e n d X Y (units_exact s m e p) (units_exact t n d q)) s t (subst (λ (r : Float). T (finite r)) E h))
