-- Document 01's Brent search, after the Rust's `zbrent`: the state, where it aims, its step, and the run over any residual function.
use Rattle.std.specs.Prelude.{ℕ, ◌+◌, cond, ◌&&◌, List, map, Float}
use Rattle.std.specs.Float.Ieee.{neg, lt, le, eq, ne}
use Rattle.std.specs.Float.Ieee.Scale.{finite}
use Rattle.std.specs.declared.ops.ControlFlow.{ControlFlow}
use Rattle.std.specs.declared.ops.ControlFlow.TheVariants.{Continue, Break}
use Rattle.exact.specs.Operations.{◌⊕◌, ◌⊖◌, ◌⊗◌, ◌⊘◌}
use Rattle.exact.specs.Middle.{half, middle}
use Rattle.float.specs.Decimal.{+◌, −◌, number, rounded}
use Rattle.float.specs.Sign.{nought, magnitude, smaller, sign_taken, same_sign}
use Rattle.common.specs.declared.cause.Cause.TheVariants.{ResidualNotFinite, StepsSpent, PointOutside}
use Rattle.search.specs.Run.{run_from, states_from}
use Rattle.search.specs.Bracket.{ordered, strictly_between}
use Rattle.search.specs.declared.bracket.Bracket.{Bracket}
use Rattle.search.specs.declared.brent.Brent.{Brent}
use Rattle.search.specs.declared.brent.Lengths.{Lengths}
use Rattle.search.specs.declared.brent.Ratio.{Ratio}
use Rattle.search.specs.declared.bracket.Outcome.{Outcome}
use Rattle.search.specs.declared.bracket.Outcome.TheVariants.{SmallResidual, Narrow, Refused}
use Rattle.search.specs.declared.brent.Aim.{Aim}

abbrev pub plain : ℕ → Float
plain d = rounded (number d (+ 0))

-- ESP and CONVERGENCE_PRECISION
abbrev pub esp : Float
esp = rounded (number 3 (− 8))

abbrev pub precision : Float
precision = rounded (number 1 (− 8))

-- the last point b and the point c, as a bracket
unfoldable pub bracket_of : Brent → Bracket
bracket_of s = ordered s.b s.fb s.c s.fc

-- the sign rule: where b's residual has c's strict sign, c becomes the previous point a, and both remembered lengths b − a
unfoldable pub by_sign : Brent → Brent
by_sign s =
    cond (same_sign s.fb s.fc)
    (record { a = s.a; b = s.b; c = s.a; fa = s.fa; fb = s.fb; fc = s.fa; d = s.b ⊖ s.a; e = s.b ⊖ s.a })
    s

-- the Rust's literal start: a is the lower end, b and c the upper one
unfoldable pub start : Bracket → Brent
start w = by_sign (record { a = w.x1; b = w.x2; c = w.x2; fa = w.r1; fb = w.r2; fc = w.r2; d = w.x2 ⊖ w.x1; e = w.x2 ⊖ w.x1 })

-- b is the end with the smaller residual
unfoldable pub sorted : Brent → Brent
sorted s =
    cond (lt (magnitude s.fc) (magnitude s.fb))
    (record { a = s.b; b = s.c; c = s.b; fa = s.fb; fb = s.fc; fc = s.fb; d = s.d; e = s.e })
    s

-- tol1 = 2·3.0e-8·|b| + 0.5·1.0e-8
unfoldable pub tolerance : Float → Float
tolerance b = plain 2 ⊗ esp ⊗ magnitude b ⊕ half ⊗ precision

-- xm
unfoldable pub half_width : Brent → Float
half_width s = half ⊗ (s.c ⊖ s.b)

-- the interpolated step as a fraction p / q: by two points, or by three
unfoldable pub ratio : Brent → Ratio
ratio s =
    let xm = half_width s in
    let t = s.fb ⊘ s.fa in
    let q = s.fa ⊘ s.fc in
    let r = s.fb ⊘ s.fc in
    cond (eq s.a s.c)
    (record { p = plain 2 ⊗ xm ⊗ t; q = plain 1 ⊖ t })
    (record {
      p = t ⊗ (plain 2 ⊗ xm ⊗ q ⊗ (q ⊖ r) ⊖ (s.b ⊖ s.a) ⊗ (r ⊖ plain 1));
      q = (q ⊖ plain 1) ⊗ (r ⊖ plain 1) ⊗ (t ⊖ plain 1);
    })

-- q with its sign changed where p is above zero
unfoldable pub turned : Ratio → Float
turned w = cond (lt nought w.p) (neg w.q) w.q

abbrev pub halved : Brent → Lengths
halved s = record { d = half_width s; e = half_width s }

-- the interpolation is taken where it falls well inside and goes fast enough, else half the width
unfoldable pub accepted : Brent → Ratio → Lengths
accepted s w =
    let xm = half_width s in
    let p = magnitude w.p in
    let q = turned w in
    let min1 = plain 3 ⊗ xm ⊗ q ⊖ magnitude (tolerance s.b ⊗ q) in
    let min2 = magnitude (s.e ⊗ q) in
    cond (lt (plain 2 ⊗ p) (smaller min1 min2)) (record { d = p ⊘ q; e = s.d }) (halved s)

unfoldable pub lengths : Brent → Lengths
lengths s = cond (lt (magnitude (half_width s)) (magnitude s.e) && ne s.fa s.fb) (accepted s (ratio s)) (halved s)

unfoldable pub next_point : Brent → Lengths → Float
next_point s l = cond (lt (tolerance s.b) (magnitude l.d)) (s.b ⊕ l.d) (s.b ⊕ sign_taken (tolerance s.b) (half_width s))

abbrev pub with_lengths : Brent → Lengths → Brent
with_lengths s l = record { a = s.a; b = s.b; c = s.c; fa = s.fa; fb = s.fb; fc = s.fc; d = l.d; e = l.e }

-- Where a sorted state goes on, after n steps: a zero first, then narrow, then the next point; where that is not strictly between b and c, 0.5·(b + c) with both lengths halved; else 10.
unfoldable pub aim_sorted : Brent → ℕ → ControlFlow Outcome Aim
aim_sorted s n =
    cond (eq s.fb nought) (Break (SmallResidual s.b n (bracket_of s)))
    (cond (le (magnitude (half_width s)) (tolerance s.b)) (Break (Narrow s.b n (bracket_of s)))
    (cond (strictly_between (next_point s (lengths s)) s.b s.c) (Continue (record { state = with_lengths s (lengths s); x = next_point s (lengths s) }))
    (cond (strictly_between (middle s.b s.c) s.b s.c) (Continue (record { state = with_lengths s (halved s); x = middle s.b s.c }))
    (Break (Refused PointOutside nought n (bracket_of s))))))

unfoldable pub aim : Brent → ℕ → ControlFlow Outcome Aim
aim s n = aim_sorted (sorted s) n

-- the next state from the residual r at the point that is aimed at; n counts that evaluation
unfoldable pub step : Aim → Float → ℕ → ControlFlow Outcome Brent
step t r n =
    let s = t.state in
    cond (finite r)
    (Continue (by_sign (record { a = s.b; b = t.x; c = s.c; fa = s.fb; fb = r; fc = s.fc; d = s.d; e = s.e })))
    (Break (Refused ResidualNotFinite nought n (bracket_of s)))

abbrev pub aimed : (Float → Float) → ℕ → ControlFlow Outcome Aim → ControlFlow Outcome Brent
aimed f n (Break o) = Break o
aimed f n (Continue t) = step t (f t.x) (n + 1)

-- one turn of the loop after n steps, and the outcome at the limit, tested before all this: 8, with the point last evaluated
unfoldable pub next : (Float → Float) → Brent → ℕ → ControlFlow Outcome Brent
next f s n = aimed f n (aim s n)

unfoldable pub spent : Brent → ℕ → Outcome
spent s n = Refused StepsSpent s.b n (bracket_of s)

unfoldable pub zbrent : (Float → Float) → Bracket → ℕ → Outcome
zbrent f w limit = run_from (next f) spent limit (start w) 0

-- the brackets of that run, the starting one first
unfoldable pub zbrent_brackets : (Float → Float) → Bracket → ℕ → List Bracket
zbrent_brackets f w limit = map bracket_of (states_from (next f) limit (start w) 0)
