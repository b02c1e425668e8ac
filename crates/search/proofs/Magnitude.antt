-- The magnitude of a double in exact units: the same size, and not negative; what a comparison of it with a double says of sizes, and that what is at most a double is finite. By cases on the double. Assumes nothing.
use mathlib.Core.Path.{◌≡◌, refl}
use Prim.Native.Nat.{◌+◌, ◌-◌, ◌≤◌, ◌<◌}
use native.Mathlib.Omega.{arith}
use lib.Dec.{T}
use lib.Ieee.{Float, nan, inf, fin, lt, le, eq, fits}
use lib.Ieee.Scale.{finite}
use Rattle.exact.specs.Value.{in_units, plus, minus, double}
use Rattle.exact.proofs.Value.{units_apart}
use Rattle.exact.proofs.Order.{lt→exact, le→exact}
use Rattle.float.specs.Sign.{magnitude}

pub magnitude-double : (x : Float) → T (double x) → T (double (magnitude x))
unfolding fits
magnitude-double nan d = absurd d
magnitude-double (inf s) d = absurd d
magnitude-double (fin s m e) d = d

pub magnitude-plus : (x : Float) → plus (magnitude x) ≡ in_units x
unfolding plus
magnitude-plus nan = refl
magnitude-plus (inf s) = refl
magnitude-plus (fin s m e) = refl

pub magnitude-minus : (x : Float) → minus (magnitude x) ≡ 0
unfolding minus
magnitude-minus nan = refl
magnitude-minus (inf s) = refl
magnitude-minus (fin s m e) = refl

module _ (x w : Float) (p : T (double x)) (q : T (double w)) where
  pub magnitude-lt : T (lt (magnitude x) w) → in_units x < in_units w
  magnitude-lt h =
      let l = lt→exact (magnitude x) w (magnitude-double x p) q h in
      let a : plus (magnitude x) ≡ in_units x = magnitude-plus x in
      let z : minus (magnitude x) ≡ 0 = magnitude-minus x in
      let b : in_units w ≡ (plus w - minus w) + (minus w - plus w) = units_apart w in
      omega (arith, l)

  pub magnitude-le : T (le (magnitude x) w) → in_units x ≤ in_units w
  magnitude-le h =
      let l = le→exact (magnitude x) w (magnitude-double x p) q h in
      let a : plus (magnitude x) ≡ in_units x = magnitude-plus x in
      let z : minus (magnitude x) ≡ 0 = magnitude-minus x in
      let b : in_units w ≡ (plus w - minus w) + (minus w - plus w) = units_apart w in
      omega (arith, l)

-- a magnitude that is at most a double is finite
pub bounded_finite : (x w : Float) → T (double w) → T (le (magnitude x) w) → T (finite x)
unfolding le lt eq
bounded_finite nan w q h = absurd h
bounded_finite (inf s) nan q h = absurd q
bounded_finite (inf s) (inf t) q h = absurd q
bounded_finite (inf s) (fin t m e) q h = absurd h
bounded_finite (fin s m e) w q h = tt
