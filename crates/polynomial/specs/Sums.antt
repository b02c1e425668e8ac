-- What the one loop does: a state taken on by a step for each row. proofs/Components.antt shows that each component of it is its own sum of specs/Terms.antt.
use mathlib.Core.List.{List, foldl}
use Rattle.std.specs.Prelude.{Float}
use Rattle.exact.specs.Operations.{◌⊕◌}
use Rattle.float.specs.Sign.{nought}
use Rattle.polynomial.specs.Terms.{Row, term, alone, alone_j, items, items_i, items_j, items_ii, items_ij, items_jj, shared_0, shared_i, shared_j, shared_ii, shared_ij, shared_jj}
use Rattle.polynomial.specs.declared.Order.TheVariants.{Not}
use Rattle.polynomial.specs.declared.Sums.{Sums}
use Rattle.polynomial.specs.declared.Kind.{Kind}
use Rattle.polynomial.specs.declared.Kind.TheVariants.{Direct, Shared, Alone, AloneShared}

abbrev pub none : Sums
none = record { zero = nought; i = nought; j = nought; ii = nought; ij = nought; jj = nought }

-- the same, but the first component goes on from `start`
abbrev pub from : Float → Sums
from start = record { zero = start; i = nought; j = nought; ii = nought; ij = nought; jj = nought }

-- the first component with one more term, the others as they are
abbrev pub first : Float → Sums → Sums
first x s = record { zero = s.zero ⊕ x; i = s.i; j = s.j; ii = s.ii; ij = s.ij; jj = s.jj }

abbrev pub step : Kind → Float → Float → Sums → Row → Sums
step (Direct di dj) vi vj s r = first (term di dj vi vj r) s
step Shared vi vj s r =
    record {
      zero = s.zero ⊕ items vi vj r;
      i = s.i ⊕ items_i vi vj r;
      j = s.j ⊕ items_j vi vj r;
      ii = s.ii ⊕ items_ii vi vj r;
      ij = s.ij ⊕ items_ij vi vj r;
      jj = s.jj ⊕ items_jj vi vj r;
    }
step (Alone d) vi vj s r = first (alone d vj r) s
step AloneShared vi vj s r = record { zero = s.zero ⊕ alone Not vj r; i = s.i; j = s.j ⊕ alone_j vj r; ii = s.ii; ij = s.ij; jj = s.jj }

unfoldable pub over : {S : Type 0} → (S → Row → S) → S → List Row → S
over f s rs = foldl f s rs

-- the derivatives that share their powers
abbrev pub shared : Float → Float → List Row → Sums
shared vi vj rs = record { zero = shared_0 vi vj rs; i = shared_i vi vj rs; j = shared_j vi vj rs; ii = shared_ii vi vj rs; ij = shared_ij vi vj rs; jj = shared_jj vi vj rs }
