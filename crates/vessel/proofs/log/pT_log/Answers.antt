use Prim.Native.Nat.{ℕ, ◌<◌}
use mathlib.Core.Path.{◌≡◌, refl, sym, ap, ◌∙◌, subst}
use lib.ListN.{length}
use Rattle.vessel.specs.declared.log.Reading.{Reading}
use Rattle.vessel.specs.Log.{lent, log, Together}
use Rattle.vessel.proofs.Places.{as_long, one_more, whole, all_one}
use Rattle.vessel.proofs.log.pT_log.Goals as goal
use Rattle.vessel.proofs.log.pT_log.Goals.{Else-not-together, In-loop-place}

-- behind the test the lengths are one
agreed : (c : Else-not-together) → Together (lent c.args.p.now c.args.T.now c.args.values.now c.args.numbers.now)
agreed c = all_one _ (sym c.together.ensures ∙ c.if-not-together.false)

-- the place lies in a run that has p's length
within : (c : In-loop-place) {n : ℕ} → n ≡ length c.args.p.now → c.loop-place.place < n
within c as-p = subst (λ (n : ℕ). c.loop-place.place < n) (sym as-p) c.loop-place-test.true

pub returns-then-not-together : goal.returns-then-not-together
unfolding log
returns-then-not-together c = rw (← c.together.ensures, c.if-not-together.true) (record { value = refl; values_after = refl; numbers_after = refl })

pub loop-place-init : goal.loop-place-init
loop-place-init c = (record { so_far = refl }, record { so_far = refl })

pub bounds-T-place : goal.bounds-T-place
bounds-T-place c = within (goal.at.bounds-T-place c).In-loop-place (agreed (goal.at.bounds-T-place c).Else-not-together).T_as_p

pub bounds-values-place : goal.bounds-values-place
bounds-values-place c = within (goal.at.bounds-values-place c).In-loop-place (as_long c.loop-place.invariant.0 ∙ (agreed (goal.at.bounds-values-place c).Else-not-together).values_as_p)

pub bounds-numbers-place : goal.bounds-numbers-place
bounds-numbers-place c = within (goal.at.bounds-numbers-place c).In-loop-place (as_long c.loop-place.invariant.1 ∙ (agreed (goal.at.bounds-numbers-place c).Else-not-together).numbers_as_p)

pub loop-place-preserved : goal.loop-place-preserved
loop-place-preserved c =
    let lengths = agreed (goal.at.loop-place-preserved c).Else-not-together in
    let reads = c.number_and_value-reading.ensures in (
      one_more _ c.loop-place.invariant.0 (ap (λ (r : Reading). r.value) reads) c.loop-place-test.true lengths.T_as_p lengths.values_as_p,
      one_more _ c.loop-place.invariant.1 (ap (λ (r : Reading). r.number) reads) c.loop-place-test.true lengths.T_as_p lengths.numbers_as_p,
    )

pub returns : goal.returns
unfolding log
returns c =
    let lengths = agreed (goal.at.returns c).Else-not-together in
    let to_the_end = c.loop-place-test.false in
    rw (← c.together.ensures, c.if-not-together.false) (record {
      value = refl;
      values_after = whole c.loop-place.invariant.0 c.loop-place.auto.place-end to_the_end lengths.T_as_p lengths.values_as_p;
      numbers_after = whole c.loop-place.invariant.1 c.loop-place.auto.place-end to_the_end lengths.T_as_p lengths.numbers_as_p;
    })
