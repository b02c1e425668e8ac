-- Demand 3 in document 01's words, for any residual function f and any two doubles as ends, of whatever signs: what the brackets of a run keep, that they are the ones which runs report, and
-- what an outcome owes. Distances are exact, in units of 2 ^ -1074. Definitions only.
use Rattle.std.specs.Prelude.{ℕ, ◌*◌, ◌≤◌, ◌<◌, ◌≡◌, ◌⊎◌, true, List, [], ◌∷◌, T, Float}
use Rattle.std.specs.Float.Ieee.{lt, le, eq}
use Rattle.exact.specs.Value.{unit, in_units, double}
use Rattle.exact.specs.Rounding.{distance}
use Rattle.float.specs.Sign.{nought, magnitude}
use Rattle.common.specs.Causes.{number_of}
use Rattle.common.specs.declared.cause.Cause.{Cause}
use Rattle.search.specs.Bisection.{small, width_of}
use Rattle.search.specs.Brent.{tolerance}
use Rattle.search.specs.Run.{last, Every}
use Rattle.search.specs.Search.{run, brackets}
use Rattle.search.specs.declared.bracket.Bracket.{Bracket}
use Rattle.search.specs.declared.bisection.Width.{Width}
use Rattle.search.specs.declared.bisection.Width.TheVariants.{Millionth, MillionthOfUpper}
use Rattle.search.specs.declared.method.Method.{Method}
use Rattle.search.specs.declared.method.Method.TheVariants.{ByBisection, ByBrent}
use Rattle.search.specs.declared.bracket.Outcome.{Outcome}
use Rattle.search.specs.declared.bracket.Outcome.TheVariants.{ExactEnd, SmallResidual, Narrow, Refused}

-- ---- signs, compared with zero
abbrev pub Opposite : Float → Float → Type 0
Opposite a b = (T (lt a nought) × T (lt nought b)) ⊎ (T (lt nought a) × T (lt b nought))

abbrev pub Zero : Float → Type 0
Zero r = eq r nought ≡ true

-- ---- a bracket that demand 3 speaks of: two doubles, lower below upper, the residuals those of f and strictly opposite
pub record Start (f : Float → Float) (b : Bracket) : Type 0 where
  pub lower : T (double b.x1)
  pub upper : T (double b.x2)
  pub order : T (lt b.x1 b.x2)
  pub lower_at : b.r1 ≡ f b.x1
  pub upper_at : b.r2 ≡ f b.x2
  pub opposite : Opposite b.r1 b.r2

-- ---- the brackets of a run
-- c's ends lie between b's
pub record Within (c b : Bracket) : Type 0 where
  pub from_lower : T (le b.x1 c.x1)
  pub to_upper : T (le c.x2 b.x2)

-- the residuals are those of f, and opposite, or one of them is zero
pub record Signed (f : Float → Float) (b : Bracket) : Type 0 where
  pub lower_at : b.r1 ≡ f b.x1
  pub upper_at : b.r2 ≡ f b.x2
  pub signs : Opposite b.r1 b.r2 ⊎ Zero b.r1 ⊎ Zero b.r2

-- every bracket lies within the one before, with residuals opposite or one zero
abbrev pub Nested : (Float → Float) → List Bracket → Type 0
Nested f [] = Prim.Unit {0}
Nested f (b ∷ []) = Signed f b
Nested f (b ∷ (c ∷ rest)) = Signed f b × Within c b × Nested f (c ∷ rest)

-- ---- the brackets of a run are the ones that outcomes report
abbrev pub reported : Outcome → Bracket
reported (ExactEnd v b) = b
reported (SmallResidual v n b) = b
reported (Narrow v n b) = b
reported (Refused cause v n b) = b

-- under the limit the last of them is reported, and each of them is under some limit that is no larger
pub record Told (m : Method) (f : Float → Float) (s : Bracket) (limit : ℕ) : Type 0 where
  pub at_last : reported (run m f s limit) ≡ last s (brackets m f s limit)
  pub each : Every (λ b. (k : ℕ) × (k ≤ limit) × (reported (run m f s k) ≡ b)) (brackets m f s limit)

-- ---- what an answer owes
-- v lies in the bracket b, and b in the starting bracket s
pub record Lies (s b : Bracket) (v : Float) : Type 0 where
  pub inside : Within b s
  pub above_lower : T (le b.x1 v)
  pub below_upper : T (le v b.x2)

-- two points of opposite residual, both in the starting bracket s, enclose v, each exactly nearer to it than `near` units
pub record Enclosed (f : Float → Float) (s b : Bracket) (v : Float) (near : ℕ) : Type 0 where
  pub lies : Lies s b v
  pub signs : Opposite (f b.x1) (f b.x2)
  pub near_lower : distance v b.x1 < near
  pub near_upper : distance v b.x2 < near

-- a refusal of the steps: by the table, its bracket inside the start
abbrev pub Stopped : Cause → Bracket → Bracket → Type 0
Stopped cause b s = ((number_of cause ≡ 6) ⊎ (number_of cause ≡ 8) ⊎ (number_of cause ≡ 10)) × Within b s

-- of a run that starts at s: `Small` of the residual where the reason is a small residual, `near` the distance where it is narrow, from the bracket and the answer
abbrev pub RunOwes : (Float → Type 0) → (Bracket → Float → ℕ) → (Float → Float) → Bracket → Outcome → Type 0
RunOwes Small near f s (ExactEnd v b) = ⊥
RunOwes Small near f s (SmallResidual v n b) = Small (f v) × Lies s b v
RunOwes Small near f s (Narrow v n b) = Enclosed f s b v (near b v)
RunOwes Small near f s (Refused cause v n b) = Stopped cause b s

-- of a narrow outcome by bisection: its bracket is exactly narrower than a millionth of the whole that its rule names, 1 or the upper end
abbrev pub whole : Width → Bracket → ℕ
whole Millionth b = unit
whole MillionthOfUpper b = in_units b.x2

abbrev pub Part : Width → Outcome → Type 0
Part rule (ExactEnd v b) = Prim.Unit {0}
Part rule (SmallResidual v n b) = Prim.Unit {0}
Part rule (Narrow v n b) = distance b.x1 b.x2 * 1000000 < whole rule b
Part rule (Refused cause v n b) = Prim.Unit {0}

-- by the search: bisection, a residual under 1.0e-8 in magnitude; Brent, a zero
abbrev pub Small : Method → Float → Type 0
Small (ByBisection rule) r = T (lt (magnitude r) small)
Small ByBrent r = Zero r

-- bisection, nearer than the width of its narrow rule; Brent, than three times its own tolerance
abbrev pub near : Method → Bracket → Float → ℕ
near (ByBisection rule) b v = in_units (width_of rule b)
near ByBrent b v = 3 * in_units (tolerance v)

abbrev pub Owes : Method → (Float → Float) → Bracket → Outcome → Type 0
Owes m f s o = RunOwes (Small m) (near m) f s o

-- ---- a whole search between two given ends, s = `ends f low high`: an end that is an exact zero, a refusal of the opening (5, 6, 7), or what its run owes
abbrev pub SearchOwes : Method → (Float → Float) → Bracket → Outcome → Type 0
SearchOwes m f s (ExactEnd v b) = ((v ≡ s.x1) ⊎ (v ≡ s.x2)) × Zero (f v) × (b ≡ s)
SearchOwes m f s (SmallResidual v n b) = Owes m f s (SmallResidual v n b)
SearchOwes m f s (Narrow v n b) = Owes m f s (Narrow v n b)
SearchOwes m f s (Refused cause v n b) = (number_of cause ≡ 5) ⊎ (number_of cause ≡ 7) ⊎ ((number_of cause ≡ 6) × (b ≡ s)) ⊎ Owes m f s (Refused cause v n b)
