-- Document 01's reading 15, for any residual function: with no step allowed a search refuses with 8 after 0 steps, with the starting bracket; the last point is the next middle of a bisection,
-- and the upper end of Brent's search. The run's first clause, and the start's two points. Assumes nothing.
use mathlib.Core.Path.{◌≡◌, refl}
use lib.Ieee.{Float}
use Rattle.common.specs.declared.cause.Cause.TheVariants.{StepsSpent}
use Rattle.search.specs.Run.{run_from}
use Rattle.search.specs.Bisection as bisecting
use Rattle.search.specs.Bisection.{middle_of, bisection}
use Rattle.search.specs.Brent as brenting
use Rattle.search.specs.Brent.{zbrent}
use Rattle.search.specs.Demand.{Start}
use Rattle.search.specs.declared.bracket.Bracket.{Bracket}
use Rattle.search.specs.declared.bracket.Outcome.TheVariants.{Refused}
use Rattle.search.proofs.BrentRuns.{zbrent-first, zbrent-last}

pub bisection_at_once : (width : Bracket → Float) (f : Float → Float) (s : Bracket) → bisection width f s 0 ≡ Refused StepsSpent (middle_of s) 0 s
unfolding bisection run_from bisecting.spent
bisection_at_once width f s = refl

pub zbrent_at_once : (f : Float → Float) (s : Bracket) → Start f s → zbrent f s 0 ≡ Refused StepsSpent s.x2 0 s
unfolding zbrent run_from brenting.spent
zbrent_at_once f s g = rw (zbrent-first f s g, zbrent-last f s g)
