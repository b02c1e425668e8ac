-- Region 2: Eqs. (15) to (17) of the release. Its properties are by the relations that it shares with region 5 (Tables 12 to 14; gibbs, specs/Gibbs.antt).
use Rattle.std.specs.Prelude.{Float}
use Rattle.exact.specs.Operations.{◌⊖◌}
use Rattle.float.specs.Decimal.{+◌, −◌, number, rounded}
use Rattle.polynomial.specs.Tables.{doubles}
use Rattle.gibbs.specs.Gibbs as gibbs
use Rattle.gibbs.specs.Gibbs.{Equation, gamma0, gamma0_tau_shared}
use Rattle.r2.specs.declared.region2_gfe.Ideal.{Ideal}
use Rattle.r2.specs.Table10.{table as table10}
use Rattle.r2.specs.Table11.{table as table11}

-- τ = 540 K / T; the ideal-gas terms, Table 10, are n τ^J, the residual ones, Table 11, n π^I (τ − 0.5)^J
abbrev pub equation : Equation
equation = record { T_star = rounded (number 540 (+ 0)); vj = λ τ. τ ⊖ rounded (number 5 (− 1)); ideal_terms = doubles table10; residual_terms = doubles table11 }

-- γ° and γ°_τ as the entropy shares them
abbrev pub ideal : Float → Float → Ideal
ideal π τ = record { part = gamma0 equation π τ; derived = gamma0_tau_shared equation τ }

unfoldable pub pT2v : Float → Float → Float
pT2v p T = gibbs.pT2v equation p T

unfoldable pub pT2u : Float → Float → Float
pT2u p T = gibbs.pT2u equation p T

unfoldable pub pT2s : Float → Float → Float
pT2s p T = gibbs.pT2s equation p T

unfoldable pub pT2h : Float → Float → Float
pT2h p T = gibbs.pT2h equation p T

unfoldable pub pT2cp : Float → Float → Float
pT2cp p T = gibbs.pT2cp equation p T

unfoldable pub pT2cv : Float → Float → Float
pT2cv p T = gibbs.pT2cv equation p T

unfoldable pub pT2w : Float → Float → Float
pT2w p T = gibbs.pT2w equation p T
