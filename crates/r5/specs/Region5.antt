-- Region 5: Eqs. (32) to (34) of the release. Its properties are by the relations that it shares with region 2 (Tables 39 to 41; gibbs, specs/Gibbs.antt).
use Rattle.std.specs.Prelude.{Float}
use Rattle.float.specs.Decimal.{+◌, number, rounded}
use Rattle.polynomial.specs.Tables.{doubles}
use Rattle.gibbs.specs.Gibbs as gibbs
use Rattle.gibbs.specs.Gibbs.{Equation}
use Rattle.r5.specs.Table37.{table as table37}
use Rattle.r5.specs.Table38.{table as table38}

-- τ = 1000 K / T; the ideal-gas terms, Table 37, are n τ^J, the residual ones, Table 38, n π^I τ^J, in τ itself
abbrev pub equation : Equation
equation = record { T_star = rounded (number 1000 (+ 0)); vj = λ τ. τ; ideal_terms = doubles table37; residual_terms = doubles table38 }

unfoldable pub pT2v : Float → Float → Float
pT2v p T = gibbs.pT2v equation p T

unfoldable pub pT2u : Float → Float → Float
pT2u p T = gibbs.pT2u equation p T

unfoldable pub pT2s : Float → Float → Float
pT2s p T = gibbs.pT2s equation p T

unfoldable pub pT2h : Float → Float → Float
pT2h p T = gibbs.pT2h equation p T

unfoldable pub pT2cp : Float → Float → Float
pT2cp p T = gibbs.pT2cp equation p T

unfoldable pub pT2cv : Float → Float → Float
pT2cv p T = gibbs.pT2cv equation p T

unfoldable pub pT2w : Float → Float → Float
pT2w p T = gibbs.pT2w equation p T
