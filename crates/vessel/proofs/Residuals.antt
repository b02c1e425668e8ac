-- The residual columns of every search's answer are what `Residuals` says, of every question and every limit: by the list that decides it, and of the steps by the brackets that they report. Assumes nothing.
use Prim.Native.Nat.{ℕ}
use mathlib.Core.Path.{◌≡◌, refl, ap}
use mathlib.Core.Logic.{inl, inr}
use mathlib.Core.Bool.{Bool, true, false, cond, not, ◌&&◌}
use lib.Dec.{eqb}
use lib.Ieee.{Float}
use lib.Ieee.Scale.{finite}
use Rattle.float.specs.Sign.{nought}
use Rattle.common.specs.Causes.{number_of}
use Rattle.common.specs.declared.cause.Cause.{Cause}
use Rattle.common.specs.declared.cause.Cause.TheVariants.{InputNotFinite, VolumeNotAboveZero, EndsMeet, ResidualNotFinite, SameSign, ResultNotFinite, LimitTooLarge}
use Rattle.search.specs.Decision.{None}
use Rattle.search.specs.Search.{refused, run}
use Rattle.search.specs.Demand.{Signed, Owes, reported as reported_in}
use Rattle.search.specs.declared.bracket.Outcome.{Outcome}
use Rattle.search.specs.declared.bracket.Outcome.TheVariants.{ExactEnd, SmallResidual, Narrow, Refused}
use Rattle.search.proofs.Searches.{decides, between_signed, between_run}
use Rattle.r4.specs.Ends.{place}
use Rattle.pairs.specs.Residual.{row_of, residual}
use Rattle.pairs.specs.Pairs.{steps, lower_end, upper_end, start}
use Rattle.pairs.proofs.Doubles.{lower-double, upper-double}
use Rattle.pairs.specs.declared.question.Question.{Question}
use Rattle.vessel.specs.Answer.{columns, residual_told, answered, value_of}
use Rattle.vessel.specs.Searches.{checks, outcome, mark, asked, search as search_of}
use Rattle.vessel.specs.Demand.{Early}
use Rattle.vessel.specs.Residuals.{or_nought, Residuals}
use Rattle.vessel.proofs.Demand.{out_of_range}

-- for 6
told_by_6 : (cause : Cause) (r : Float) → number_of cause ≡ 6 → residual_told cause r ≡ or_nought r
unfolding residual_told
told_by_6 cause r six = rw six (by (finite r))
  where
    by : (b : Bool) → cond (not b) nought r ≡ cond b r nought
    by true = refl
    by false = refl

module _ (q : Question) (limit : ℕ) where
  abbrev Of : Outcome → Type 0
  Of o = Residuals q (columns (answered (asked q) o (mark q (value_of (outcome q limit)))))

  -- the steps: the residuals of the bracket that is reported are those of its ends
  of_steps : (o : Outcome) → Owes (row_of q).method (residual q) (start q) o → Signed (residual q) (reported_in o) → Of o
  unfolding answered residual_told
  of_steps (ExactEnd x b) k h = absurd k
  of_steps (SmallResidual x n b) k h = (h.lower_at, h.upper_at)
  of_steps (Narrow x n b) k h = (h.lower_at, h.upper_at)
  of_steps (Refused number x n b) (inl six, w) h =
      inr (inl (six, rw (told_by_6 number b.r1 six, told_by_6 number b.r2 six) (ap or_nought h.lower_at, ap or_nought h.upper_at)))
  of_steps (Refused number x n b) (inr (inl eight), w) h = inr (inr (inl eight, rw eight (h.lower_at, h.upper_at)))
  of_steps (Refused number x n b) (inr (inr ten), w) h = inr (inr (inr ten, rw ten (h.lower_at, h.upper_at)))

  early : (cause : Cause) → Early (number_of cause) → Of (refused cause)
  unfolding answered residual_told
  early cause h = inl (h, (same (eqb (number_of cause) 6 && not (finite nought)), same (eqb (number_of cause) 6 && not (finite nought))))
    where
      same : (b : Bool) → cond b nought nought ≡ nought
      same true = refl
      same false = refl

  six : Of (Refused ResidualNotFinite nought 0 (start q))
  unfolding answered
  six = inr (inl (refl, (told_by_6 ResidualNotFinite (start q).r1 refl, told_by_6 ResidualNotFinite (start q).r2 refl)))

  exact : (x : Float) → Of (ExactEnd x (start q))
  unfolding answered
  exact x = (refl, refl)

  pub residuals : Residuals q (columns (search_of q limit))
  unfolding search_of outcome steps
  residuals =
      decides Of (checks q limit) last_of
      ((λ h. early LimitTooLarge (inl refl)), ((λ h. early InputNotFinite (inr (inl refl))), ((λ h. early _ (out_of_range (row_of q).range)), ((λ h. early VolumeNotAboveZero (inr (inr (inr (inr (inl refl)))))), (nine, (nine, ((λ h. early EndsMeet (inr (inr (inr (inr (inr (inr (inl refl)))))))), ((λ h. six), ((λ h. exact _), ((λ h. exact _), ((λ h. early SameSign (inr (inr (inr (inr (inr (inr (inr refl)))))))), tt)))))))))))
      searching
    where
      last_of : Outcome
      last_of = run (row_of q).method (residual q) (start q) limit

      nine : {A : Type 0} → A → Of (refused ResultNotFinite)
      nine h = early ResultNotFinite (inr (inr (inr (inr (inr (inl refl))))))

      searching : None (checks q limit) → Of last_of
      searching (most, (one, (range, (four, (low, (high, rest)))))) =
          let lower = lower-double q low in
          let upper = upper-double q high in
          of_steps last_of (between_run (residual q) (place (lower_end q)) (place (upper_end q)) lower upper (row_of q).method rest limit) (between_signed (residual q) (place (lower_end q)) (place (upper_end q)) lower upper (row_of q).method rest limit)
