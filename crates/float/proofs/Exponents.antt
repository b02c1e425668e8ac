-- An exponent of 32 bits with its sign: below zero it is negated, but for the least one, whose first halving is taken apart. Assumes nothing.
use Prim.Native.Nat.{ℕ, suc, ◌+◌, ◌-◌, ◌/◌, ◌%◌, ◌<◌, ◌≤◌, ◌^◌}
use mathlib.Core.Path.{◌≡◌, refl, sym, ◌∙◌, ap, subst}
use mathlib.Core.Bool.{true, false}
use native.Mathlib.Nat.{le_refl, zero-add}
use native.Mathlib.Omega.{arith}
use lib.Dec.{T}
use lib.IntN.{ℤ, pos, negsuc, nat_abs, ◌-ℤ◌}
use lib.Signed.{lt_z, non_neg}
use lib.Ieee.{Float}
use borrow.Author.Tests.{ltb-true, ne_eqb}
use mir.Syntax.{w32}
use mir.Val.{SFits, of_z, to_z}
use mir.Facts.{to_z-of_z}
use Rattle.exact.specs.Operations.{◌⊗◌, ◌⊘◌}
use Rattle.float.specs.Power.{one, squaring, raised, whole_power}
use Rattle.float.proofs.Squaring.{taken, turn, enough}

-- ---- by the sign
pub below : (x : Float) (n : ℤ) → lt_z n (pos 0) ≡ true → one ⊘ raised x (nat_abs n) ≡ whole_power x n
unfolding whole_power
below x (pos k) e = absurd (let h = ltb-true k 0 e in omega arith)
below x (negsuc k) e = refl

pub above : (x : Float) (n : ℤ) → lt_z n (pos 0) ≡ false → raised x (nat_abs n) ≡ whole_power x n
unfolding whole_power
above x (pos k) e = refl
above x (negsuc k) e = absurd (subst T e tt)

pub not-below : (n : ℤ) → lt_z n (pos 0) ≡ false → T (non_neg n)
not-below (pos k) e = tt
not-below (negsuc k) e = subst T e tt

-- ---- a number below zero that is not the least: negated it fits
mirror : (n : ℤ) → lt_z n (pos 0) ≡ true → pos 0 -ℤ n ≡ pos (nat_abs n)
mirror (pos k) e = absurd (let h = ltb-true k 0 e in omega arith)
mirror (negsuc k) e = ap pos (zero-add (suc k))

smaller : (n : ℤ) → SFits w32 n → lt_z n (pos 0) ≡ true → (of_z w32 n ≡ 2 ^ 31 → ⊥) → nat_abs n < 2 ^ 31
smaller (pos k) f e l = absurd (let h = ltb-true k 0 e in omega arith)
smaller (negsuc k) f e l = go k f.sfits l
  where
    go : (k : ℕ) → k < 2 ^ 31 → (2 ^ 32 - suc k ≡ 2 ^ 31 → ⊥) → suc k < 2 ^ 31
    go k h l = omega arith

module _ {n : ℤ} (fits : SFits w32 n) (t : lt_z (to_z w32 (of_z w32 n)) (pos 0) ≡ true) (l : of_z w32 n ≡ 2 ^ 31 → ⊥) where
  pub under : lt_z n (pos 0) ≡ true
  under = rw (to_z-of_z fits) at t

  pub negated : pos 0 -ℤ to_z w32 (of_z w32 n) ≡ pos (nat_abs n)
  negated = ap (λ (z : ℤ). pos 0 -ℤ z) (to_z-of_z fits) ∙ mirror n under

  pub negated_fits : SFits w32 (pos (nat_abs n))
  negated_fits = record { sfits = smaller n fits under l }

  pub read_back : to_z w32 (of_z w32 (pos 0 -ℤ to_z w32 (of_z w32 n))) ≡ pos (nat_abs n)
  read_back = ap (λ (z : ℤ). to_z w32 (of_z w32 z)) negated ∙ to_z-of_z negated_fits

-- ---- the least
least-is : (n : ℤ) → SFits w32 n → of_z w32 n ≡ 2 ^ 31 → n ≡ negsuc 2147483647
least-is (pos k) f e = absurd (let h = f.sfits in omega arith)
least-is (negsuc k) f e = ap negsuc (go k f.sfits e)
  where
    go : (k : ℕ) → k < 2 ^ 31 → 2 ^ 32 - suc k ≡ 2 ^ 31 → k ≡ 2147483647
    go k h e = omega arith

-- an even exponent is halved first, and the base squared
even : (x : Float) (k : ℕ) → 0 < k → raised x (k + k) ≡ raised (x ⊗ x) k
unfolding raised
even x k h =
    let s = turn (k + k) (k + k) one x (λ (e : k + k ≡ 0). omega arith) (le_refl (k + k)) in
    let half : (k + k) / 2 ≡ k = omega arith in
    s.2
    ∙ ap (λ (m : ℕ). squaring s.0 m (taken (k + k) one x) (x ⊗ x)) half
    ∙ ap (λ (r : Float). squaring s.0 k r (x ⊗ x)) (rw (ne_eqb ((k + k) % 2) 1 (λ (e : (k + k) % 2 ≡ 1). omega arith)))
    ∙ enough s.0 k k one (x ⊗ x) (subst (λ (m : ℕ). m ≤ s.0) half s.1) (le_refl k)

pub least : (x : Float) {n : ℤ} → SFits w32 n → of_z w32 n ≡ 2 ^ 31 → one ⊘ raised (x ⊗ x) 1073741824 ≡ whole_power x n
unfolding whole_power
least x {n} f e = ap (λ (r : Float). one ⊘ r) (sym (even x 1073741824 (omega arith))) ∙ ap (whole_power x) (sym (least-is n f e))
