-- The saturation line: Eqs. (30) and (31) of the release in the Rust's order of operations, without and with document 01's ranges.
use Rattle.std.specs.Prelude.{Result, Float}
use Rattle.std.specs.Float.Ieee.{neg}
use Rattle.exact.specs.Operations.{◌⊕◌, ◌⊖◌, ◌⊗◌, ◌⊘◌}
use Rattle.float.specs.Decimal.{+◌, −◌, number, rounded}
use Rattle.float.specs.Power.{whole_power}
use Rattle.float.specs.Root.{square_root, fourth_root}
use Rattle.common.specs.Boundaries.{checked}
use Rattle.common.specs.declared.cause.Cause.{Cause}
use Rattle.common.specs.declared.boundaries.Range.TheVariants.{T4, P4}
use Rattle.r4.specs.Table34.{n1, n2, n3, n4, n5, n6, n7, n8, n9, n10}

abbrev pub two : Float
two = rounded (number 2 (+ 0))

abbrev pub four : Float
four = rounded (number 4 (+ 0))

abbrev pub half : Float
half = rounded (number 5 (− 1))

-- ϑ of Eq. (29b), and the coefficients of Eq. (30)
abbrev pub ϑ : Float → Float
ϑ T = T ⊕ rounded n9 ⊘ (T ⊖ rounded n10)

abbrev pub A : Float → Float
A T = ϑ T ⊗ (ϑ T ⊕ rounded n1) ⊕ rounded n2

abbrev pub B : Float → Float
B T = ϑ T ⊗ (rounded n3 ⊗ ϑ T ⊕ rounded n4) ⊕ rounded n5

abbrev pub C : Float → Float
C T = ϑ T ⊗ (rounded n6 ⊗ ϑ T ⊕ rounded n7) ⊕ rounded n8

-- Eq. (30): p = (2C / (−B + √(B² − 4AC)))⁴. At 300 K: 0.353658941e-2 MPa.
unfoldable pub saturation_pressure : Float → Float
saturation_pressure T = whole_power (two ⊗ C T ⊘ (neg (B T) ⊕ square_root (B T ⊗ B T ⊖ four ⊗ A T ⊗ C T))) (+ 4)

-- Eq. (31): T = (n10 + D − √((n10 + D)² − 4(n9 + n10 D))) / 2, with β of Eq. (29a) and D = 2G / (−F − √(F² − 4EG)). At 1 MPa: 0.453035632e3 K.
unfoldable pub saturation_temperature : Float → Float
saturation_temperature p =
    let β = fourth_root p in
    let E = β ⊗ (β ⊕ rounded n3) ⊕ rounded n6 in
    let F = β ⊗ (rounded n1 ⊗ β ⊕ rounded n4) ⊕ rounded n7 in
    let G = β ⊗ (rounded n2 ⊗ β ⊕ rounded n5) ⊕ rounded n8 in
    let D = two ⊗ G ⊘ (neg F ⊖ square_root (F ⊗ F ⊖ four ⊗ E ⊗ G)) in
    half ⊗ (rounded n10 ⊕ D ⊖ square_root ((rounded n10 ⊕ D) ⊗ (rounded n10 ⊕ D) ⊖ four ⊗ (rounded n9 ⊕ rounded n10 ⊗ D)))

-- ---- with their ranges: 1, then 2 or 3, then 9
abbrev pub saturation_pressure_at : Float → Result Float Cause
saturation_pressure_at T = checked T4 T (saturation_pressure T)

abbrev pub saturation_temperature_at : Float → Result Float Cause
saturation_temperature_at p = checked P4 p (saturation_temperature p)
