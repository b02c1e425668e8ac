-- Region 1: the derivatives of the dimensionless Gibbs free energy, Eq. (7) and Table 4 of the release, and the properties, Table 3, in document 01's order, each operation rounded once.
use Rattle.std.specs.Prelude.{List, Float}
use Rattle.std.specs.Float.Ieee.{neg}
use Rattle.exact.specs.Operations.{◌⊕◌, ◌⊖◌, ◌⊗◌, ◌⊘◌}
use Rattle.float.specs.Decimal.{+◌, −◌, number, rounded}
use Rattle.float.specs.Root.{square_root}
use Rattle.common.specs.Constant.{R}
use Rattle.polynomial.specs.Terms.{Row, poly_i, poly_j, poly_jj, shared_0, shared_i, shared_j, shared_ii, shared_ij, shared_jj}
use Rattle.polynomial.specs.Tables.{doubles}
use Rattle.polynomial.specs.declared.Sums.{Sums}
use Rattle.r1.specs.Table2.{table}

-- ---- Eq. (7): π = p / p*, τ = T* / T, with p* = 16.53 MPa and T* = 1386 K; its terms are n (7.1 − π)^I (τ − 1.222)^J
abbrev pub p_star : Float
p_star = rounded (number 1653 (− 2))

abbrev pub T_star : Float
T_star = rounded (number 1386 (+ 0))

abbrev pub vi : Float → Float
vi π = rounded (number 71 (− 1)) ⊖ π

abbrev pub vj : Float → Float
vj τ = τ ⊖ rounded (number 1222 (− 3))

abbrev pub terms : List Row
terms = doubles table

-- ---- Table 4: a π-derivative of odd order changes sign
unfoldable pub gamma_pi : Float → Float → Float
gamma_pi π τ = neg (poly_i (vi π) (vj τ) terms)

unfoldable pub gamma_tau : Float → Float → Float
gamma_tau π τ = poly_j (vi π) (vj τ) terms

unfoldable pub gamma_tautau : Float → Float → Float
gamma_tautau π τ = poly_jj (vi π) (vj τ) terms

-- γ, γ_π, γ_τ, γ_ππ, γ_πτ and γ_ττ as the sums that share their powers give them
unfoldable pub derivatives : Float → Float → Sums
derivatives π τ =
    record {
      zero = shared_0 (vi π) (vj τ) terms;
      i = neg (shared_i (vi π) (vj τ) terms);
      j = shared_j (vi π) (vj τ) terms;
      ii = shared_ii (vi π) (vj τ) terms;
      ij = neg (shared_ij (vi π) (vj τ) terms);
      jj = shared_jj (vi π) (vj τ) terms;
    }

-- the shared sums' derivatives in 7.1 − π as derivatives in π
abbrev pub turned : Sums → Sums
turned s = record { zero = s.zero; i = neg s.i; j = s.j; ii = s.ii; ij = neg s.ij; jj = s.jj }

-- ---- Table 3. The check values are Table 5's at 3 MPa and 300 K.
-- v = π γ_π R T / p: 0.100215168e-2 m³/kg
unfoldable pub pT2v : Float → Float → Float
pT2v p T =
    let π = p ⊘ p_star in
    let τ = T_star ⊘ T in
    rounded (number 1 (− 3)) ⊗ R ⊗ T ⊗ π ⊗ gamma_pi π τ ⊘ p

-- u = (τ γ_τ − π γ_π) R T: 0.112324818e3 kJ/kg
unfoldable pub pT2u : Float → Float → Float
pT2u p T =
    let π = p ⊘ p_star in
    let τ = T_star ⊘ T in
    let d = derivatives π τ in
    R ⊗ T ⊗ (τ ⊗ d.j ⊖ π ⊗ d.i)

-- s = (τ γ_τ − γ) R: 0.392294792 kJ/(kg K)
unfoldable pub pT2s : Float → Float → Float
pT2s p T =
    let π = p ⊘ p_star in
    let τ = T_star ⊘ T in
    let d = derivatives π τ in
    R ⊗ (τ ⊗ d.j ⊖ d.zero)

-- h = τ γ_τ R T: 0.115331273e3 kJ/kg
unfoldable pub pT2h : Float → Float → Float
pT2h p T =
    let π = p ⊘ p_star in
    let τ = T_star ⊘ T in
    R ⊗ T ⊗ τ ⊗ gamma_tau π τ

-- cp = −τ² γ_ττ R: 0.417301218e1 kJ/(kg K)
unfoldable pub pT2cp : Float → Float → Float
pT2cp p T =
    let π = p ⊘ p_star in
    let τ = T_star ⊘ T in
    neg R ⊗ τ ⊗ τ ⊗ gamma_tautau π τ

-- cv = (−τ² γ_ττ + (γ_π − τ γ_πτ)² / γ_ππ) R
unfoldable pub pT2cv : Float → Float → Float
pT2cv p T =
    let π = p ⊘ p_star in
    let τ = T_star ⊘ T in
    let d = derivatives π τ in
    let b = d.i ⊖ τ ⊗ d.ij in
    R ⊗ (neg τ ⊗ τ ⊗ d.jj ⊕ b ⊗ b ⊘ d.ii)

-- w = γ_π √(1000 R T / ((γ_π − τ γ_πτ)² / (τ² γ_ττ) − γ_ππ)): 0.150773921e4 m/s
unfoldable pub pT2w : Float → Float → Float
pT2w p T =
    let π = p ⊘ p_star in
    let τ = T_star ⊘ T in
    let d = derivatives π τ in
    let a = d.i ⊖ τ ⊗ d.ij in
    let b = a ⊗ a ⊘ (τ ⊗ τ ⊗ d.jj) ⊖ d.ii in
    d.i ⊗ square_root (rounded (number 1000 (+ 0)) ⊗ R ⊗ T ⊘ b)
