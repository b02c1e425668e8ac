-- Brent's tolerance at a double: it does not overflow, and it is at least its absolute part, so a double of two units or more. The relative part is at most 2 ^ -23 of a double, so below
-- 2 ^ 1001, and rounding keeps the order. Assumes nothing.
use mathlib.Core.Path.{◌≡◌, refl, sym, ◌∙◌, subst, subst₂}
use Prim.Native.Nat.{ℕ, ◌+◌, ◌*◌, ◌^◌, ◌≤◌}
use native.Mathlib.Nat.{le_trans, le_of_eq, le_of_lt, mul-le-mul_left, mul-le-mul_right, mul_assoc, mul_comm}
use native.Mathlib.Omega.{arith}
use mathlib.Core.Bool.{false}
use lib.IntN.{pos}
use lib.Dec.{T, lit≤}
use lib.Pow.{pow_pos}
use lib.Ieee.{Float, fin, mul, fits}
use Rattle.exact.specs.Operations.{◌⊗◌}
use Rattle.exact.specs.Value.{unit, in_units, plus, minus, double, AtMost}
use Rattle.exact.specs.Rounding.{Rounds}
use Rattle.exact.specs.Middle.{half}
use Rattle.exact.proofs.Value.{unit_pos, units_lt, units_of-plus, units_apart}
use Rattle.exact.proofs.Operations.{add_rounds, mul_rounds}
use Rattle.exact.proofs.Rounding.{rounds_le, rounds_ge}
use Rattle.exact.proofs.Finite.{add_finite, mul_finite}
use Rattle.float.specs.Decimal.{rounded}
use Rattle.float.specs.Sign.{nought, magnitude}
use Rattle.search.specs.Brent.{plain, esp, precision, tolerance}
use Rattle.search.proofs.Magnitude.{magnitude-double, magnitude-plus, magnitude-minus}

-- ---- its two parts, and two bounds: all numerals
abbrev relative : Float
relative = plain 2 ⊗ esp

abbrev absolute : Float
absolute = half ⊗ precision

abbrev high : ℕ → Float
high k = fin false 1 (pos k)

relative_double : T (double relative)
unfolding rounded mul fits
relative_double = tt

relative_small : in_units relative * 2 ^ 23 ≤ unit
unfolding rounded mul in_units unit
relative_small = lit≤ tt

relative_minus : minus relative ≡ 0
unfolding rounded mul minus
relative_minus = refl

absolute_double : T (double absolute)
unfolding rounded mul fits
absolute_double = tt

absolute_two : 2 ≤ plus absolute
unfolding rounded mul plus in_units unit
absolute_two = lit≤ tt

absolute_small : plus absolute ≤ in_units (high 1001)
unfolding rounded mul plus in_units unit
absolute_small = lit≤ tt

absolute_minus : minus absolute ≡ 0
unfolding rounded mul minus
absolute_minus = refl

high_double : T (double (high 1001)) × T (double (high 1002))
unfolding fits
high_double = (tt, tt)

high_twice : in_units (high 1002) ≡ in_units (high 1001) + in_units (high 1001)
unfolding in_units unit
high_twice = refl

high_most : 2 ^ 2098 ≡ 2 ^ 23 * in_units (high 1001)
unfolding in_units unit
high_most = refl

high_plus : (plus (high 1001) ≡ in_units (high 1001)) × (minus (high 1001) ≡ 0)
unfolding plus minus
high_plus = (refl, refl)

nought_parts : T (double nought) × (plus nought ≡ 0) × (minus nought ≡ 0)
unfolding plus minus in_units unit fits
nought_parts = (tt, refl, refl)

module _ (x : Float) (d : T (double x)) where
  abbrev part : Float
  part = relative ⊗ magnitude x

  low : in_units relative * in_units x ≤ in_units (high 1001) * unit
  low = go (in_units relative) (in_units x) (in_units (high 1001)) unit (2 ^ 23) (2 ^ 2098) relative_small (le_of_lt (units_lt x d)) high_most
    where
      go : (r b H u k M : ℕ) → r * k ≤ u → b ≤ M → M ≡ k * H → r * b ≤ H * u
      go r b H u k M h l e =
          le_trans (mul-le-mul_left r (le_trans l (le_of_eq e)))
          (le_trans (le_of_eq (sym (mul_assoc r k H))) (le_trans (mul-le-mul_right H h) (le_of_eq (mul_comm u H))))

  rounds : Rounds part (in_units relative * in_units x) 0 unit
  rounds =
      let u : in_units (magnitude x) ≡ in_units x = units_of-plus (magnitude x) (magnitude-minus x) ∙ magnitude-plus x in
      let m = magnitude-double x d in
      shape (plus relative) (minus relative) (plus (magnitude x)) (minus (magnitude x)) (sym (units_of-plus relative relative_minus)) relative_minus (magnitude-plus x) (magnitude-minus x)
      (mul_rounds relative (magnitude x) relative_double m (mul_finite relative (magnitude x) (high 1001) relative_double m high_double.0 (subst (λ (n : ℕ). in_units relative * n ≤ in_units (high 1001) * unit) (sym u) low)))
    where
      shape : (p n q o : ℕ) → p ≡ in_units relative → n ≡ 0 → q ≡ in_units x → o ≡ 0 → Rounds part (p * q + n * o) (p * o + n * q) unit → Rounds part (in_units relative * in_units x) 0 unit
      shape p n q o ep en eq eo R = subst₂ (λ (a b : ℕ). Rounds part a b unit) (rw (ep, en, eq, eo) (omega arith)) (rw (en, eo) (omega arith)) R

  below : plus part ≤ in_units (high 1001) + minus part
  below =
      let l : AtMost part (high 1001) = rounds_le part (high 1001) (in_units relative * in_units x) 0 unit rounds unit_pos high_double.0 (rw (high_plus.0, high_plus.1) (omega (arith, low))) in
      omega (arith, l, high_plus.0, high_plus.1)

  above : minus part ≤ plus part
  above =
      let l : AtMost nought part = rounds_ge part nought (in_units relative * in_units x) 0 unit rounds unit_pos nought_parts.0 (rw (nought_parts.1, nought_parts.2) (omega arith)) in
      omega (arith, l, nought_parts.1, nought_parts.2)

  sum : Rounds (tolerance x) (plus part + plus absolute) (minus part + minus absolute) 1
  unfolding tolerance
  sum =
      add_rounds part absolute rounds.is_double absolute_double
      (add_finite part absolute (high 1002) rounds.is_double absolute_double high_double.1 (omega (arith, below, above, absolute_small, absolute_minus, high_twice)))

  pub tolerance-double : T (double (tolerance x))
  tolerance-double = sum.is_double

  pub tolerance-two : 2 ≤ in_units (tolerance x)
  tolerance-two =
      let l : AtMost absolute (tolerance x) = rounds_ge (tolerance x) absolute (plus part + plus absolute) (minus part + minus absolute) 1 sum (pow_pos 0) absolute_double (omega (arith, above)) in
      omega (arith, l, absolute_two, absolute_minus, units_apart (tolerance x))
