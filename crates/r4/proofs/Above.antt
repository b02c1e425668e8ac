-- A root that is too small makes the saturation pressure too high, so what is no lower than that is no lower than the line. Rounding keeps the order of exact results, so each operation
-- keeps the order that its operands have, from the root to the fourth power; and the tests keep each from overflowing. Assumes nothing.
use mathlib.Core.Path.{◌≡◌, refl, sym, ap, ◌∙◌, subst, subst₂}
use mathlib.Core.Logic.{inl, inr}
use mathlib.Core.Bool.{Bool, true, false}
use Prim.Native.Nat.{ℕ, zero, suc, ◌+◌, ◌-◌, ◌*◌, ◌≤◌, ◌<◌}
use native.Mathlib.Nat.{le_trans, le_of_eq, lt_irrefl, lt_of_not-le, not-le_of_lt, lt_of_lt_of_le, lt_of_mul-lt-mul_right, zero-mul, mul-le-mul, mul-le-mul_left}
use native.Mathlib.Omega.{arith}
use lib.Dec.{T, lit≤}
use lib.Pow.{pow_pos}
use lib.Ieee.{Float, nan, inf, fin, binary64, fits, neg, add, lt, le, eq}
use lib.Ieee.Bits.{is_true}
use lib.Ieee.Fits.{and_l, neg-fits, add-fits, sub-fits, mul-fits}
use lib.Ieee.Scale.{finite}
use Rattle.std.specs.Prelude.{Ok}
use Rattle.exact.specs.Operations.{◌⊕◌, ◌⊖◌, ◌⊗◌, ◌⊘◌}
use Rattle.exact.specs.Value.{unit, in_units, negative, when, unless, plus, minus, double, AtMost}
use Rattle.exact.specs.Rounding.{grid, Rounds}
use Rattle.exact.proofs.Grid.{grid-zero, either}
use Rattle.exact.proofs.Value.{unit_pos, double_of, one_sided, units_of-plus, units_of-minus, plus_of_sign, zero_units}
use Rattle.exact.proofs.Order.{lt→exact, le→exact, or_l}
use Rattle.exact.proofs.Operations.{add_rounds, mul_rounds, div_rounds}
use Rattle.exact.proofs.Rounding.{rounds_mono, rounds_le, rounds_ge}
use Rattle.exact.proofs.Finite.{add_finite, mul_finite, div_finite}
use Rattle.float.specs.Decimal.{+◌, number, rounded}
use Rattle.float.specs.Power.{one, squaring, raised, whole_power}
use Rattle.float.specs.Root.{IsRoot, square_root}
use Rattle.float.specs.Sign.{nought}
use Rattle.float.proofs.SquareRoot.{square_root_right}
use Rattle.common.specs.Boundaries.{inside, found, checked}
use Rattle.common.specs.declared.boundaries.Range.TheVariants.{T4}
use Rattle.r4.specs.Saturation.{two, four, A, B, C, saturation_pressure, saturation_pressure_at}

-- ---- the numbers of the tests, and of the bounds
abbrev ten : ℕ → Float
ten n = rounded (number 1 (+ n))

nought_parts : T (double nought) × (plus nought ≡ 0) × (minus nought ≡ 0)
unfolding plus minus in_units unit fits
nought_parts = (tt, refl, refl)

one_parts : T (double one) × (plus one ≡ unit) × (minus one ≡ 0)
unfolding plus minus in_units unit fits
one_parts = (tt, refl, refl)

thousand_parts : T (double (ten 3)) × (minus (ten 3) ≡ 0)
unfolding rounded minus fits
thousand_parts = (tt, refl)

limit_parts : T (double (ten 30)) × (minus (ten 30) ≡ 0) × (unit ≤ plus (ten 30)) × T (double (ten 31)) × (3 * plus (ten 30) ≤ in_units (ten 31))
unfolding rounded plus minus in_units unit fits
limit_parts = (tt, refl, lit≤ tt, tt, lit≤ tt)

at_most : {m n : ℕ} → (n < m → ⊥) → m ≤ n
at_most {m} {n} h = elim (either m n) [ inl l ↦ l | inr l ↦ absurd (h l) ]

pub of_true : {b : Bool} → b ≡ true → T b
of_true h = subst T (sym h) tt

-- ---- what is finite: what lies between two numbers, and the parts of a sum that is
between : (a x b : Float) → T (finite a) → T (le a x) → T (lt x b) → T (finite x)
unfolding le lt eq
between a nan b p h k = absurd k
between nan (inf true) b p h k = absurd p
between (inf s) (inf true) b p h k = absurd p
between (fin s m e) (inf true) b p h k = absurd h
between a (inf false) nan p h k = absurd k
between a (inf false) (inf t) p h k = absurd k
between a (inf false) (fin t n d) p h k = absurd k
between a (fin s m e) b p h k = tt

strictly : (a x b : Float) → T (finite a) → T (lt a x) → T (lt x b) → T (finite x)
unfolding le
strictly a x b p h k = between a x b p (or_l (lt a x) (eq a x) h) k

summands : (x y : Float) → T (finite (x ⊕ y)) → T (finite x) × T (finite y)
unfolding add
summands nan y h = absurd h
summands (inf s) nan h = absurd h
summands (inf true) (inf true) h = absurd h
summands (inf true) (inf false) h = absurd h
summands (inf false) (inf true) h = absurd h
summands (inf false) (inf false) h = absurd h
summands (inf s) (fin t n d) h = absurd h
summands (fin s m e) nan h = absurd h
summands (fin s m e) (inf t) h = absurd h
summands (fin s m e) (fin t n d) h = (tt, tt)

-- ---- the sign, and the size
above_zero : (x : Float) → 0 < plus x → (negative x ≡ false) × (minus x ≡ 0)
unfolding plus minus
above_zero x h = go (negative x) h
  where
    go : (s : Bool) → 0 < unless s (in_units x) → (s ≡ false) × (when s (in_units x) ≡ 0)
    go true h = absurd (lt_irrefl 0 h)
    go false h = (refl, refl)

size : (x : Float) → plus x + minus x ≡ in_units x
unfolding plus minus
size x = go (negative x)
  where
    go : (s : Bool) → unless s (in_units x) + when s (in_units x) ≡ in_units x
    go true = omega arith
    go false = omega arith

no_minus : (r : Float) (p c : ℕ) → 0 < c → Rounds r p 0 c → minus r ≡ 0
no_minus r p c C R = R.minus_is ∙ ap (λ (n : ℕ). grid n c) (none p) ∙ grid-zero c C
  where
    none : (p : ℕ) → 0 - p ≡ 0
    none p = omega arith

-- ---- doubles in order: 0 ≤ x ≤ y ≤ b
record Ordered (x y b : Float) : Type 0 where
  low : T (double x)
  high : T (double y)
  low_sign : minus x ≡ 0
  high_sign : minus y ≡ 0
  order : plus x ≤ plus y
  bound : plus y ≤ plus b

-- what is no lower than y is no lower than x, be it infinite
not-below : (x y b p : Float) → Ordered x y b → T (fits binary64 p) → T (le y p) → lt p x ≡ false
not-below x y b p o f h = by (lt p x) refl
  where
    by : (t : Bool) → lt p x ≡ t → t ≡ false
    by false e = refl
    by true e =
        let k = of_true e in
        let d = double_of p (between y p x (and_l (finite y) (fits binary64 y) o.high) h k) f in
        let i : AtMost y p = le→exact y p o.high d h in
        absurd (not-le_of_lt (lt→exact p x d o.low k) (omega (arith, i, o.order, o.low_sign, o.high_sign)))

product : (x y b : Float) → T (double x) → T (double y) → T (double b) → minus x ≡ 0 → minus y ≡ 0 → plus x * plus y ≤ in_units b * unit → Rounds (x ⊗ y) (plus x * plus y) 0 unit
product x y b p q B s t h =
    subst₂ (λ (m n : ℕ). Rounds (x ⊗ y) m n unit) (rw (s, t) (omega arith)) (rw (s, t) (omega arith))
    (mul_rounds x y p q (mul_finite x y b p q B (rw (units_of-plus x s, units_of-plus y t) h)))

-- products keep it
times : (x y b x' y' b' c : Float) → Ordered x y b → Ordered x' y' b' → T (double c) → minus c ≡ 0 → plus b * plus b' ≤ plus c * unit → Ordered (x ⊗ x') (y ⊗ y') c
times x y b x' y' b' c m n C s h =
    let i : plus x * plus x' ≤ plus y * plus y' = mul-le-mul m.order n.order in
    let j : plus y * plus y' ≤ plus c * unit = le_trans (mul-le-mul m.bound n.bound) h in
    let u = units_of-plus c s in
    let R = product x x' c m.low n.low C m.low_sign n.low_sign (rw u (le_trans i j)) in
    let Q = product y y' c m.high n.high C m.high_sign n.high_sign (rw u j) in
    let z : minus (x ⊗ x') ≡ 0 = no_minus (x ⊗ x') (plus x * plus x') unit unit_pos R in
    let w : minus (y ⊗ y') ≡ 0 = no_minus (y ⊗ y') (plus y * plus y') unit unit_pos Q in
    let k : AtMost (x ⊗ x') (y ⊗ y') = rounds_mono (x ⊗ x') (y ⊗ y') (plus x * plus x') 0 unit (plus y * plus y') 0 unit R Q unit_pos unit_pos (omega (arith, mul-le-mul_left unit i)) in
    let l : AtMost (y ⊗ y') c = rounds_le (y ⊗ y') c (plus y * plus y') 0 unit Q unit_pos C (rw s (omega arith)) in
    record { low = R.is_double; high = Q.is_double; low_sign = z; high_sign = w; order = omega arith; bound = omega arith }

fourth : (x y : Float) → Ordered x y (ten 3) → Ordered (whole_power x (+ 4)) (whole_power y (+ 4)) (ten 12)
unfolding whole_power raised squaring rounded plus minus in_units unit fits
fourth x y h =
    let two = times x y (ten 3) x y (ten 3) (ten 6) h h tt refl (lit≤ tt) in
    let four = times (x ⊗ x) (y ⊗ y) (ten 6) (x ⊗ x) (y ⊗ y) (ten 6) (ten 12) two two tt refl (lit≤ tt) in
    times one one one _ _ (ten 12) (ten 12) (record { low = tt; high = tt; low_sign = refl; high_sign = refl; order = lit≤ tt; bound = lit≤ tt }) four tt refl (lit≤ tt)

-- ---- a quotient of doubles above zero, by 1 or more
quotient : (x y : Float) → T (double x) → T (double y) → 0 < plus x → unit ≤ plus y → Rounds (x ⊘ y) (plus x * unit) 0 (plus y)
quotient x y p q P Q =
    let i = above_zero x P in
    let j = above_zero y (lt_of_lt_of_le unit_pos Q) in
    let u = units_of-plus x i.1 in
    let v = units_of-plus y j.1 in
    let some : 0 < in_units y = rw v (lt_of_lt_of_le unit_pos Q) in
    rw (i.0, j.0, u, v, zero-mul unit) at (div_rounds x y p q some (div_finite x y x p q p some (rw (u, v) (mul-le-mul_left (plus x) Q))))

root_of : (x : Float) → T (double x) → 0 < plus x → IsRoot x (square_root x)
unfolding plus
root_of nan d h = absurd d
root_of (inf s) d h = absurd d
root_of (fin true m e) d h = absurd (lt_irrefl 0 h)
root_of (fin false zero e) d h = absurd (lt_irrefl 0 (subst (λ (n : ℕ). 0 < n) (zero_units false e) h))
root_of (fin false (suc m) e) d h = square_root_right (fin false (suc m) e) d

-- ---- the formula, with the root r for that of the square x: m is -B, and t is 2C. The tests, and what follows
pub record Tested (m x r t : Float) : Type 0 where
  pub square_above : T (lt nought (r ⊗ r))
  pub square_below : T (lt (r ⊗ r) x)
  pub x_below : T (lt x (ten 30))
  pub sum-above : T (lt one (m ⊕ r))
  pub sum_below : T (lt (m ⊕ r) (ten 30))
  pub t_above : T (lt nought t)
  pub t_below : T (lt t (ten 30))
  pub quotient_below : T (lt (t ⊘ (m ⊕ r)) (ten 3))

module _ (m x r t : Float) (fit-m : T (fits binary64 m)) (fit-x : T (fits binary64 x)) (fit-r : T (fits binary64 r)) (fit-t : T (fits binary64 t)) (tested : Tested m x r t) where
  abbrev root : Float
  root = square_root x

  -- all is finite
  square_finite : T (finite (r ⊗ r))
  square_finite = strictly nought (r ⊗ r) x tt tested.square_above tested.square_below

  sum_finite : T (finite (m ⊕ r))
  sum_finite = strictly one (m ⊕ r) (ten 30) tt tested.sum-above tested.sum_below

  m_double : T (double m)
  m_double = double_of m (summands m r sum_finite).0 fit-m

  r_double : T (double r)
  r_double = double_of r (summands m r sum_finite).1 fit-r

  x_double : T (double x)
  x_double = double_of x (strictly (r ⊗ r) x (ten 30) square_finite tested.square_below tested.x_below) fit-x

  t_double : T (double t)
  t_double = double_of t (strictly nought t (ten 30) tt tested.t_above tested.t_below) fit-t

  -- the square of r is below x, exactly
  square_rounds : Rounds (r ⊗ r) (in_units r * in_units r) 0 unit
  square_rounds = elim (one_sided r) [
    | inl z ↦ subst₂ (λ (p n : ℕ). Rounds (r ⊗ r) p n unit) (rw (z, units_of-minus r z) (omega arith)) (rw z (omega arith)) (mul_rounds r r r_double r_double square_finite)
    | inr z ↦ subst₂ (λ (p n : ℕ). Rounds (r ⊗ r) p n unit) (rw (z, units_of-plus r z) (omega arith)) (rw z (omega arith)) (mul_rounds r r r_double r_double square_finite)
  ]

  exact_square : in_units r * in_units r + minus x * unit < plus x * unit
  exact_square = lt_of_not-le (λ (l : plus x * unit ≤ in_units r * in_units r + minus x * unit).
      not-le_of_lt (lt→exact (r ⊗ r) x square_rounds.is_double x_double tested.square_below) (rounds_ge (r ⊗ r) x (in_units r * in_units r) 0 unit square_rounds unit_pos x_double (omega arith)))

  x_above : 0 < plus x
  x_above = go (in_units r * in_units r) (plus x) (minus x) exact_square
    where
      go : (n p o : ℕ) → n + o * unit < p * unit → 0 < p
      go n p o h = lt_of_mul-lt-mul_right unit (omega arith)

  x_size : in_units x ≡ plus x
  x_size = units_of-plus x (above_zero x x_above).1

  x_most : plus x * unit ≤ plus (ten 30) * plus (ten 30)
  x_most = let l = lt→exact x (ten 30) x_double limit_parts.0 tested.x_below in mul-le-mul (omega (arith, l, limit_parts.1, (above_zero x x_above).1)) limit_parts.2

  -- so r is at most the root, and neither is above 1.0e30 in size
  is-root : IsRoot x root
  is-root = root_of x x_double x_above

  root-size : in_units root ≡ plus root
  root-size = sym (plus_of_sign root is-root.sign)

  root-least : plus r ≤ in_units root
  root-least = at_most (λ l. go (in_units root) (plus r) (in_units r) (plus x) (minus x) unit l (omega (arith, size r)) exact_square (rw x_size at (is-root.above r r_double l)))
    where
      go : (q p n x o u : ℕ) → q < p → p ≤ n → n * n + o * u < x * u → 4 * (x * u) < (q + p) * (q + p) → ⊥
      go q p n x o u a b s l =
          let i : (q + p) * (q + p) ≤ (n + n) * (n + n) = mul-le-mul (omega arith) (omega arith) in
          omega arith

  root-most : in_units root ≤ plus (ten 30)
  root-most = at_most (λ l. go (in_units root) (plus (ten 30)) (plus x * unit) l x_most (rw x_size at (is-root.below (ten 30) limit_parts.0 l)))
    where
      go : (q n x : ℕ) → n < q → x ≤ n * n → (q + n) * (q + n) < 4 * x → ⊥
      go q n x a b l =
          let i : (n + n) * (n + n) ≤ (q + n) * (q + n) = mul-le-mul (omega arith) (omega arith) in
          omega arith

  r_most : in_units r ≤ plus (ten 30)
  r_most = at_most (λ l. go (in_units r) (plus (ten 30)) (plus x * unit) (minus x * unit) l x_most exact_square)
    where
      go : (q n x o : ℕ) → n < q → x ≤ n * n → q * q + o < x → ⊥
      go q n x o a b l =
          let i : n * n ≤ q * q = mul-le-mul (omega arith) (omega arith) in
          omega arith

  -- the sum with r is at most that with the root
  sum_rounds : Rounds (m ⊕ r) (plus m + plus r) (minus m + minus r) 1
  sum_rounds = add_rounds m r m_double r_double sum_finite

  sum-least : unit ≤ plus (m ⊕ r)
  sum-least = let l = lt→exact one (m ⊕ r) one_parts.0 sum_rounds.is_double tested.sum-above in omega (arith, l, one_parts.1, one_parts.2)

  exact_sum-above : minus m + minus r ≤ plus m + plus r
  exact_sum-above = at_most (λ (l : plus m + plus r < minus m + minus r).
      let none : plus m + plus r - (minus m + minus r) ≡ 0 = omega arith in
      lt_irrefl 0 (lt_of_lt_of_le unit_pos (le_trans sum-least (le_of_eq (sum_rounds.plus_is ∙ ap (λ (n : ℕ). grid n 1) none ∙ grid-zero 1 (pow_pos 0))))))

  exact_sum-below : plus m + plus r < plus (ten 30) + (minus m + minus r)
  exact_sum-below = lt_of_not-le (λ (l : plus (ten 30) + (minus m + minus r) ≤ plus m + plus r).
      not-le_of_lt (lt→exact (m ⊕ r) (ten 30) sum_rounds.is_double limit_parts.0 tested.sum_below)
      (rounds_ge (m ⊕ r) (ten 30) (plus m + plus r) (minus m + minus r) 1 sum_rounds (pow_pos 0) limit_parts.0 (omega (arith, limit_parts.1))))

  root-sum_rounds : Rounds (m ⊕ root) (plus m + plus root) (minus m + minus root) 1
  root-sum_rounds =
      add_rounds m root m_double is-root.is_double
      (add_finite m root (ten 31) m_double is-root.is_double limit_parts.3 (omega (arith, exact_sum-above, exact_sum-below, size r, r_most, root-least, root-most, size root, root-size, limit_parts.4)))

  sums : plus (m ⊕ r) ≤ plus (m ⊕ root)
  sums =
      let l : AtMost (m ⊕ r) (m ⊕ root) =
      rounds_mono (m ⊕ r) (m ⊕ root) (plus m + plus r) (minus m + minus r) 1 (plus m + plus root) (minus m + minus root) 1 sum_rounds root-sum_rounds (pow_pos 0) (pow_pos 0) (omega (arith, root-least, size root, root-size)) in
      omega (arith, l, (above_zero (m ⊕ r) (lt_of_lt_of_le unit_pos sum-least)).1)

  -- the quotients are in order, and so their powers
  t_least : 0 < plus t
  t_least = let l = lt→exact nought t nought_parts.0 t_double tested.t_above in omega (arith, l, nought_parts.1, nought_parts.2)

  quotients : Ordered (t ⊘ (m ⊕ root)) (t ⊘ (m ⊕ r)) (ten 3)
  quotients =
      let P = lt_of_lt_of_le unit_pos sum-least in
      let Q = lt_of_lt_of_le P sums in
      let R = quotient t (m ⊕ root) t_double root-sum_rounds.is_double t_least (le_trans sum-least sums) in
      let S = quotient t (m ⊕ r) t_double sum_rounds.is_double t_least sum-least in
      let z : minus (t ⊘ (m ⊕ root)) ≡ 0 = no_minus (t ⊘ (m ⊕ root)) (plus t * unit) (plus (m ⊕ root)) Q R in
      let w : minus (t ⊘ (m ⊕ r)) ≡ 0 = no_minus (t ⊘ (m ⊕ r)) (plus t * unit) (plus (m ⊕ r)) P S in
      let k : AtMost (t ⊘ (m ⊕ root)) (t ⊘ (m ⊕ r)) = rounds_mono (t ⊘ (m ⊕ root)) (t ⊘ (m ⊕ r)) (plus t * unit) 0 (plus (m ⊕ root)) (plus t * unit) 0 (plus (m ⊕ r)) R S Q P (omega (arith, mul-le-mul_left (plus t * unit) sums)) in
      let l = lt→exact (t ⊘ (m ⊕ r)) (ten 3) S.is_double thousand_parts.0 tested.quotient_below in
      record { low = R.is_double; high = S.is_double; low_sign = z; high_sign = w; order = omega arith; bound = omega (arith, l, thousand_parts.1) }

  powers : Ordered (whole_power (t ⊘ (m ⊕ root)) (+ 4)) (whole_power (t ⊘ (m ⊕ r)) (+ 4)) (ten 12)
  powers = fourth (t ⊘ (m ⊕ root)) (t ⊘ (m ⊕ r)) quotients

-- ---- a temperature in the line's range is finite, so the line answers any pressure that is
is_in_range : (t : Float) → T (inside T4 t) → T (finite t)
unfolding inside rounded le lt eq
is_in_range nan h = absurd h
is_in_range (inf true) h = absurd h
is_in_range (inf false) h = absurd h
is_in_range (fin s m e) h = tt

answered : (t s : Float) → T (inside T4 t) → T (double s) → checked T4 t s ≡ Ok s
unfolding checked found
answered t s h d = rw (is_true (finite t) (is_in_range t h), is_true (inside T4 t) h, is_true (finite s) (and_l (finite s) (fits binary64 s) d))

-- ---- the saturation line
pub above_the_line : (t p r : Float) → T (inside T4 t) → T (fits binary64 p) → T (fits binary64 r) → Tested (neg (B t)) (B t ⊗ B t ⊖ four ⊗ A t ⊗ C t) r (two ⊗ C t)
    → T (le (whole_power (two ⊗ C t ⊘ (neg (B t) ⊕ r)) (+ 4)) p) → (saturation_pressure_at t ≡ Ok (saturation_pressure t)) × (lt p (saturation_pressure t) ≡ false)
unfolding saturation_pressure
above_the_line t p r i f g h k =
    let fm = neg-fits binary64 (B t) (add-fits binary64 _ _) in
    let fx = sub-fits binary64 (B t ⊗ B t) (four ⊗ A t ⊗ C t) in
    let ft = mul-fits binary64 two (C t) in
    let o = powers _ _ r _ fm fx g ft h in
    (answered t _ i o.low, not-below _ _ _ p o f k)
