-- The properties of the sums that the code takes over both tables are the definition's: the sums of each step are the derivatives that the property reads. Assumes nothing.
use mathlib.Core.Path.{◌≡◌, ap}
use lib.Ieee.{Float}
use Rattle.exact.specs.Operations.{◌⊘◌}
use Rattle.float.specs.Log.{logarithm}
use Rattle.float.specs.Sign.{nought}
use Rattle.polynomial.specs.Kinds.{divided, of_shared, only_0_j, only_i_j, only_i_ii_ij_jj}
use Rattle.polynomial.specs.Sums.{step, none, from}
use Rattle.polynomial.specs.declared.Order.TheVariants.{Not, Once, Twice}
use Rattle.polynomial.specs.declared.Kind.TheVariants.{Direct, Alone, AloneShared}
use Rattle.polynomial.proofs.Components.{direct_sum, alone-sum, alone-shared-sum, sums_0_j, sums_i_j, sums_i_ii_ij_jj}
use Rattle.gibbs.specs.Gibbs as gibbs
use Rattle.gibbs.specs.Gibbs.{tau, v, u, s, h, cp, cv, w, gamma0, gamma0_tau, gamma0_tautau, gamma0_tau_shared}
use Rattle.r5.specs.Region5.{equation, pT2v, pT2u, pT2s, pT2h, pT2cp, pT2cv, pT2w}
use Rattle.r5.specs.Parts.{ideal_sums, residual_sums}

module _ (p T : Float) where
  abbrev τ : Float
  τ = tau equation T

  -- ---- of the ideal-gas part
  once : (ideal_sums (step (Alone Once)) nought τ).zero ≡ gamma0_tau equation τ
  unfolding ideal_sums
  once = alone-sum τ τ none equation.ideal_terms Once

  twice : (ideal_sums (step (Alone Twice)) nought τ).zero ≡ gamma0_tautau equation τ
  unfolding ideal_sums
  twice = alone-sum τ τ none equation.ideal_terms Twice

  -- ---- the properties
  pub v_of_parts : v p T (residual_sums (step (Direct Once Not)) p τ).zero ≡ pT2v p T
  unfolding residual_sums pT2v gibbs.pT2v
  v_of_parts = rw (direct_sum p τ none equation.residual_terms Once Not)

  pub u_of_parts : u p T τ (ideal_sums (step (Alone Once)) nought τ).zero (divided p τ (residual_sums (of_shared only_i_j) p τ)) ≡ pT2u p T
  unfolding residual_sums pT2u gibbs.pT2u
  u_of_parts = rw (once) (ap (u p T τ (gamma0_tau equation τ)) (sums_i_j p τ equation.residual_terms))

  pub s_of_parts : s τ (ideal_sums (step AloneShared) (logarithm p) τ).zero ((ideal_sums (step AloneShared) (logarithm p) τ).j ⊘ τ) (divided p τ (residual_sums (of_shared only_0_j) p τ)) ≡ pT2s p T
  unfolding ideal_sums residual_sums pT2s gibbs.pT2s
  s_of_parts =
      let own = alone-shared-sum τ τ (from (logarithm p)) equation.ideal_terms in
      rw (own.0, own.1) (ap (s τ (gamma0 equation p τ) (gamma0_tau_shared equation τ)) (sums_0_j p τ equation.residual_terms))

  pub h_of_parts : h equation.T_star (ideal_sums (step (Alone Once)) nought τ).zero (residual_sums (step (Direct Not Once)) p τ).zero ≡ pT2h p T
  unfolding residual_sums pT2h gibbs.pT2h
  h_of_parts = rw (once, direct_sum p τ none equation.residual_terms Not Once)

  pub cp-of_parts : cp τ (ideal_sums (step (Alone Twice)) nought τ).zero (residual_sums (step (Direct Not Twice)) p τ).zero ≡ pT2cp p T
  unfolding residual_sums pT2cp gibbs.pT2cp
  cp-of_parts = rw (twice, direct_sum p τ none equation.residual_terms Not Twice)

  pub cv-of_parts : cv p τ (ideal_sums (step (Alone Twice)) nought τ).zero (divided p τ (residual_sums (of_shared only_i_ii_ij_jj) p τ)) ≡ pT2cv p T
  unfolding residual_sums pT2cv gibbs.pT2cv
  cv-of_parts = rw (twice) (ap (cv p τ (gamma0_tautau equation τ)) (sums_i_ii_ij_jj p τ equation.residual_terms))

  pub w_of_parts : w p T τ (ideal_sums (step (Alone Twice)) nought τ).zero (divided p τ (residual_sums (of_shared only_i_ii_ij_jj) p τ)) ≡ pT2w p T
  unfolding residual_sums pT2w gibbs.pT2w
  w_of_parts = rw (twice) (ap (w p T τ (gamma0_tautau equation τ)) (sums_i_ii_ij_jj p τ equation.residual_terms))
