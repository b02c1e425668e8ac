-- Of the shared sums those that a property reads, what a row adds to them, and each divided by what its derivative takes off the powers.
use Rattle.std.specs.Prelude.{◌≡◌, refl, Float}
use Rattle.exact.specs.Operations.{◌⊗◌, ◌⊘◌}
use Rattle.float.specs.Sign.{nought}
use Rattle.polynomial.specs.Terms.{Row}
use Rattle.polynomial.specs.Sums.{step, none}
use Rattle.polynomial.specs.declared.Sums.{Sums}
use Rattle.polynomial.specs.declared.Kind.TheVariants.{Shared}

-- ---- of the shared sums, those that the Rust's polys_0_j, polys_i_j and polys_i_ii_ij_jj give; the others are 0
abbrev pub only_0_j : Sums → Sums
only_0_j s = record { zero = s.zero; i = nought; j = s.j; ii = nought; ij = nought; jj = nought }

abbrev pub only_i_j : Sums → Sums
only_i_j s = record { zero = nought; i = s.i; j = s.j; ii = nought; ij = nought; jj = nought }

abbrev pub only_i_ii_ij_jj : Sums → Sums
only_i_ii_ij_jj s = record { zero = nought; i = s.i; j = nought; ii = s.ii; ij = s.ij; jj = s.jj }

abbrev pub Step : Type 0
Step = Float → Float → Sums → Row → Sums

abbrev pub of_shared : (Sums → Sums) → Step
of_shared only vi vj s r = only (step Shared vi vj s r)

-- each divided once by what its derivative takes off the powers
abbrev pub divided : Float → Float → Sums → Sums
divided vi vj s = record { zero = s.zero; i = s.i ⊘ vi; j = s.j ⊘ vj; ii = s.ii ⊘ (vi ⊗ vi); ij = s.ij ⊘ (vi ⊗ vj); jj = s.jj ⊘ (vj ⊗ vj) }

-- ---- what is not read turns nothing of what is
-- each component by a function of its own
abbrev pub each : (f-0 f-i f-j f-ii f-ij f-jj : Float → Float) → Sums → Sums
each f-0 f-i f-j f-ii f-ij f-jj s = record { zero = f-0 s.zero; i = f-i s.i; j = f-j s.j; ii = f-ii s.ii; ij = f-ij s.ij; jj = f-jj s.jj }

pub record OnlyLaws (only : Sums → Sums) : Type 0 where
  pub of_each : (f-0 f-i f-j f-ii f-ij f-jj : Float → Float) (s : Sums) → only (each f-0 f-i f-j f-ii f-ij f-jj (only s)) ≡ only (each f-0 f-i f-j f-ii f-ij f-jj s)
  pub of_none : only none ≡ none

pub laws_0_j : OnlyLaws only_0_j
laws_0_j = record { of_each = λ f-0 f-i f-j f-ii f-ij f-jj s. refl; of_none = refl }

pub laws_i_j : OnlyLaws only_i_j
laws_i_j = record { of_each = λ f-0 f-i f-j f-ii f-ij f-jj s. refl; of_none = refl }

pub laws_i_ii_ij_jj : OnlyLaws only_i_ii_ij_jj
laws_i_ii_ij_jj = record { of_each = λ f-0 f-i f-j f-ii f-ij f-jj s. refl; of_none = refl }
