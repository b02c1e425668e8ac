-- The numbers that the equations and the ranges use, as they are printed. Units: MPa, K, kJ/(kg K).
use Rattle.std.specs.Prelude.{Float}
use Rattle.float.specs.Decimal.{+◌, −◌, number, rounded}

-- the specific gas constant of ordinary water, Eq. (1) of the release
abbrev pub R : Float
R = rounded (number 461526 (− 6))

-- ---- temperatures
abbrev pub T_least : Float
T_least = rounded (number 27315 (− 2))

abbrev pub T_623 : Float
T_623 = rounded (number 62315 (− 2))

abbrev pub T_critical : Float
T_critical = rounded (number 647096 (− 3))

abbrev pub T_863 : Float
T_863 = rounded (number 86315 (− 2))

abbrev pub T_1073 : Float
T_1073 = rounded (number 107315 (− 2))

abbrev pub T_2273 : Float
T_2273 = rounded (number 227315 (− 2))

-- ---- pressures
abbrev pub p_least : Float
p_least = rounded (number 1 (− 8))

-- the least pressure of region 1's (p,v), and of the saturation line as a function of p
abbrev pub p_least_1 : Float
p_least_1 = rounded (number 611212677444 (− 15))

abbrev pub p_least_4 : Float
p_least_4 = rounded (number 611212677 (− 12))

abbrev pub p_623 : Float
p_623 = rounded (number 165291643 (− 7))

abbrev pub p_critical : Float
p_critical = rounded (number 22064 (− 3))

-- the highest pressure of region 5
abbrev pub p_50 : Float
p_50 = rounded (number 50 (+ 0))

abbrev pub p_most : Float
p_most = rounded (number 100 (+ 0))
