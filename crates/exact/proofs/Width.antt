-- From a rounded width to the exact one. The rounded distance of two doubles is their exact distance, rounded once; where it is below a double w, so is the exact one, and
-- where half of it is at most t, the exact one is below 3 t. Assumes nothing.
use mathlib.Core.Path.{◌≡◌, sym, ap, ◌∙◌, subst}
use Prim.Native.Nat.{ℕ, ◌+◌, ◌*◌, ◌^◌, ◌≤◌, ◌<◌}
use native.Mathlib.Nat.{le_trans, le_of_eq, lt_of_not-le, not-le_of_lt}
use native.Mathlib.Omega.{arith}
use lib.Dec.{T}
use lib.Pow.{pow_pos}
use lib.Ieee.{Float}
use lib.Ieee.Scale.{finite}
use Rattle.exact.specs.Operations.{◌⊖◌, ◌⊗◌}
use Rattle.exact.specs.Value.{in_units, plus, minus, double}
use Rattle.exact.specs.Rounding.{grid, distance}
use Rattle.exact.specs.Middle.{half}
use Rattle.exact.proofs.Grid.{grid_mono}
use Rattle.exact.proofs.Value.{Rep, units_rep, grid_rep}
use Rattle.exact.proofs.Operations.{sub_rounds}
use Rattle.exact.proofs.Rounding.{rounds_units}
use Rattle.exact.proofs.Halfway.{half-grid, half-near}

module _ (x y : Float) (p : T (double x)) (q : T (double y)) where
  module _ (f : T (finite (x ⊖ y))) where
    pub width_rounds : in_units (x ⊖ y) ≡ grid (distance x y) 1
    width_rounds = rounds_units (x ⊖ y) (plus x + minus y) (minus x + plus y) 1 (sub_rounds x y p q f) (pow_pos 0)

    pub narrow : (w : Float) → T (double w) → in_units (x ⊖ y) < in_units w → distance x y < in_units w
    narrow w r h = lt_of_not-le (λ (k : in_units w ≤ distance x y).
        not-le_of_lt h (le_trans (le_of_eq (sym (grid_rep (in_units w) (units_rep w r)))) (le_trans (grid_mono (in_units w) 1 (distance x y) 1 (pow_pos 0) (pow_pos 0) (omega arith)) (le_of_eq (sym width_rounds)))))

    pub half-narrow : (t : ℕ) → 2 ≤ t → in_units (half ⊗ (x ⊖ y)) ≤ t → distance x y < 3 * t
    half-narrow t two h =
        let d = (sub_rounds x y p q f).is_double in
        let near = half-near (distance x y) (subst Rep width_rounds (units_rep (x ⊖ y) d)) in
        end (distance x y) (grid (grid (distance x y) 1) 2) near.1 (le_trans (le_of_eq (sym (half-grid (x ⊖ y) d ∙ ap (λ (a : ℕ). grid a 2) width_rounds))) h)
      where
        end : (W H : ℕ) → 2 ^ 53 * W ≤ 2 ^ 53 * (H * 2) + (W + 2 ^ 53) → H ≤ t → W < 3 * t
        end W H near h = omega arith
