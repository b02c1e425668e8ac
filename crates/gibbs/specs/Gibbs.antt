-- The release's equations for the Gibbs free energy in an ideal-gas part and a residual part, those of regions 2 and 5, in document 01's order, each operation rounded once. The release prints the
-- derivatives twice (Tables 13 and 14, Tables 40 and 41) and the properties twice (Tables 12 and 39), the same but for what an `Equation` holds. π is p in MPa, since p* is 1 MPa in both.
use Rattle.std.specs.Prelude.{List, Float}
use Rattle.std.specs.Float.Ieee.{neg}
use Rattle.exact.specs.Operations.{◌⊕◌, ◌⊖◌, ◌⊗◌, ◌⊘◌}
use Rattle.float.specs.Decimal.{+◌, −◌, number, rounded}
use Rattle.float.specs.Log.{logarithm}
use Rattle.float.specs.Root.{square_root}
use Rattle.common.specs.Constant.{R}
use Rattle.polynomial.specs.Terms.{Row, total, total_from, alone, alone_j, poly_i, poly_j, poly_jj}
use Rattle.polynomial.specs.Sums.{shared}
use Rattle.polynomial.specs.declared.Order.TheVariants.{Not, Once, Twice}
use Rattle.polynomial.specs.declared.Sums.{Sums}

-- ---- Eqs. (15) to (17) and (32) to (34): τ = T* / T; the ideal-gas terms are n τ^J, the residual ones n π^I (vj τ)^J
pub record Equation : Type 0 where
  pub T_star : Float
  pub vj : Float → Float
  pub ideal_terms : List Row
  pub residual_terms : List Row

abbrev pub tau : Equation → Float → Float
tau e T = e.T_star ⊘ T

abbrev pub one : Float
one = rounded (number 1 (+ 0))

-- ---- Tables 13 and 40: the ideal-gas part
abbrev pub gamma0_pi : Float → Float
gamma0_pi π = one ⊘ π

abbrev pub gamma0_tau : Equation → Float → Float
gamma0_tau e τ = total (alone Once τ) e.ideal_terms

abbrev pub gamma0_tautau : Equation → Float → Float
gamma0_tautau e τ = total (alone Twice τ) e.ideal_terms

-- γ° and γ°_τ as the entropy shares them: the sum goes on from ln π, and the derivative is divided once
abbrev pub gamma0 : Equation → Float → Float → Float
gamma0 e π τ = total_from (logarithm π) (alone Not τ) e.ideal_terms

abbrev pub gamma0_tau_shared : Equation → Float → Float
gamma0_tau_shared e τ = total (alone_j τ) e.ideal_terms ⊘ τ

-- ---- Tables 14 and 41: the residual part
abbrev pub gammar_pi : Equation → Float → Float → Float
gammar_pi e π τ = poly_i π (e.vj τ) e.residual_terms

abbrev pub gammar_tau : Equation → Float → Float → Float
gammar_tau e π τ = poly_j π (e.vj τ) e.residual_terms

abbrev pub gammar_tautau : Equation → Float → Float → Float
gammar_tautau e π τ = poly_jj π (e.vj τ) e.residual_terms

-- γʳ, γʳ_π, γʳ_τ, γʳ_ππ, γʳ_πτ and γʳ_ττ as the sums that share their powers give them
abbrev pub residual : Equation → Float → Float → Sums
residual e π τ = shared π (e.vj τ) e.residual_terms

-- ---- Tables 12 and 39: the properties from the derivatives. The check values are Table 15's at 0.0035 MPa and 300 K, and Table 42's at 0.5 MPa and 1500 K.
-- v = π (γ°_π + γʳ_π) R T / p, with π / p = 1: 0.394913866e2 and 0.138455090e1 m³/kg
abbrev pub v : Float → Float → Float → Float
v p T γʳ-π = rounded (number 1 (− 3)) ⊗ R ⊗ T ⊗ (gamma0_pi p ⊕ γʳ-π)

-- u = (τ (γ°_τ + γʳ_τ) − π (γ°_π + γʳ_π)) R T: 0.241169160e4 and 0.452749310e4 kJ/kg
abbrev pub u : Float → Float → Float → Float → Sums → Float
u p T τ γ°-τ r = R ⊗ T ⊗ (τ ⊗ (γ°-τ ⊕ r.j) ⊖ p ⊗ (gamma0_pi p ⊕ r.i))

-- s = (τ (γ°_τ + γʳ_τ) − (γ° + γʳ)) R: 0.852238967e1 and 0.965408875e1 kJ/(kg K)
abbrev pub s : Float → Float → Float → Sums → Float
s τ γ° γ°-τ r = R ⊗ (τ ⊗ (γ°-τ ⊕ r.j) ⊖ (γ° ⊕ r.zero))

-- h = τ (γ°_τ + γʳ_τ) R T, with τ T = T*: 0.254991145e4 and 0.521976855e4 kJ/kg
abbrev pub h : Float → Float → Float → Float
h T* γ°-τ γʳ-τ = R ⊗ T* ⊗ (γ°-τ ⊕ γʳ-τ)

-- cp = −τ² (γ°_ττ + γʳ_ττ) R: 0.191300162e1 and 0.261609445e1 kJ/(kg K)
abbrev pub cp : Float → Float → Float → Float
cp τ γ°-ττ γʳ-ττ = neg R ⊗ τ ⊗ τ ⊗ (γ°-ττ ⊕ γʳ-ττ)

-- cv = (−τ² (γ°_ττ + γʳ_ττ) − (1 + π γʳ_π − τ π γʳ_πτ)² / (1 − π² γʳ_ππ)) R
abbrev pub cv : Float → Float → Float → Sums → Float
cv p τ γ°-ττ r =
    let a = one ⊕ p ⊗ (r.i ⊖ τ ⊗ r.ij) in
    let b = a ⊗ a ⊘ (one ⊖ p ⊗ p ⊗ r.ii) in
    let c = neg τ ⊗ τ ⊗ (γ°-ττ ⊕ r.jj) in
    R ⊗ (c ⊖ b)

-- w² = 1000 R T (1 + 2 π γʳ_π + π² γʳ_π²) / ((1 − π² γʳ_ππ) + (1 + π γʳ_π − τ π γʳ_πτ)² / (τ² (γ°_ττ + γʳ_ττ))): w is 0.427920172e3 and 0.917068690e3 m/s
abbrev pub w : Float → Float → Float → Float → Sums → Float
w p T τ γ°-ττ r =
    let a = p ⊗ r.i in
    let r1 = rounded (number 1000 (+ 0)) ⊗ R ⊗ T ⊗ (one ⊕ rounded (number 2 (+ 0)) ⊗ p ⊗ r.i ⊕ a ⊗ a) in
    let b = one ⊕ p ⊗ r.i ⊖ τ ⊗ p ⊗ r.ij in
    let r2 = one ⊖ p ⊗ p ⊗ r.ii ⊕ b ⊗ b ⊘ (τ ⊗ τ ⊗ (γ°-ττ ⊕ r.jj)) in
    square_root (r1 ⊘ r2)

-- ---- at p and T
unfoldable pub pT2v : Equation → Float → Float → Float
pT2v e p T = v p T (gammar_pi e p (tau e T))

unfoldable pub pT2u : Equation → Float → Float → Float
pT2u e p T = u p T (tau e T) (gamma0_tau e (tau e T)) (residual e p (tau e T))

unfoldable pub pT2s : Equation → Float → Float → Float
pT2s e p T = s (tau e T) (gamma0 e p (tau e T)) (gamma0_tau_shared e (tau e T)) (residual e p (tau e T))

unfoldable pub pT2h : Equation → Float → Float → Float
pT2h e p T = h e.T_star (gamma0_tau e (tau e T)) (gammar_tau e p (tau e T))

unfoldable pub pT2cp : Equation → Float → Float → Float
pT2cp e p T = cp (tau e T) (gamma0_tautau e (tau e T)) (gammar_tautau e p (tau e T))

unfoldable pub pT2cv : Equation → Float → Float → Float
pT2cv e p T = cv p (tau e T) (gamma0_tautau e (tau e T)) (residual e p (tau e T))

unfoldable pub pT2w : Equation → Float → Float → Float
pT2w e p T = w p T (tau e T) (gamma0_tautau e (tau e T)) (residual e p (tau e T))
