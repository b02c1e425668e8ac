use mathlib.Core.Path.{◌≡◌, refl, sym, ap, ◌∙◌}
use Prim.Native.Nat.{ℕ, ◌+◌, ◌*◌, ◌/◌, ◌^◌}
use native.Mathlib.Nat.{le_trans, le_of_eq}
use Rattle.float.proofs.LogTerms.{term-next, total-next, cut, more, upto}
use native.Mathlib.Omega.{arith}
use Rattle.float.specs.Log.{term, total, fallen}
use Rattle.float.proofs.log.fallen.Goals as goal

pub loop-j-init : goal.loop-j-init
unfolding term total
loop-j-init c = (omega arith, refl, refl, omega arith, omega arith)

pub overflow_add-s : goal.overflow_add-s
overflow_add-s c = omega arith

pub overflow_add-s-in-loop-j : goal.overflow_add-s-in-loop-j
overflow_add-s-in-loop-j c =
    let k = c.loop-j in
    let z = c.args.z in
    omega (arith, more k.j z k.s k.t (k.j + 1) k.invariant.4 k.invariant.3, upto k.j z (omega arith))

pub loop-j-preserved : goal.loop-j-preserved
loop-j-preserved c =
    let k = c.loop-j in
    let z = c.args.z in
    let one : 1 * k.j + 1 ≡ k.j + 1 = omega arith in (
      omega arith,
      c.high-t.ensures ∙ ap (λ (t : ℕ). t * z / 2 ^ 64) k.invariant.1 ∙ sym (term-next k.j z z),
      ap (λ (s : ℕ). s + k.t / (k.j + 1)) k.invariant.2 ∙ ap (λ (t : ℕ). total 1 k.j z z + t / (k.j + 1)) k.invariant.1 ∙ ap (λ (m : ℕ). total 1 k.j z z + term k.j z z / m) (sym one) ∙ sym (total-next 1 k.j z z),
      le_trans (le_of_eq c.high-t.ensures) (le_trans (cut k.t z (omega arith)) k.invariant.3),
      more k.j z k.s k.t (k.j + 1) k.invariant.4 k.invariant.3,
    )

pub returns : goal.returns
unfolding fallen
returns c =
    let k = c.loop-j in
    let z = c.args.z in
    let e : k.j ≡ 8 = omega arith in
    k.invariant.2 ∙ ap (λ (j : ℕ). total 1 j z z) e
