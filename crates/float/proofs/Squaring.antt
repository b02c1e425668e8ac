-- A turn of the definition's squaring, and its end.
-- Assumes nothing.
use Prim.Native.Nat.{ℕ, zero, suc, ◌/◌, ◌%◌, ◌≤◌}
use mathlib.Core.Path.{◌≡◌, refl}
use mathlib.Core.Bool.{cond}
use native.Mathlib.Nat.{not-suc-le-zero}
use native.Mathlib.Omega.{arith}
use lib.Dec.{eqb}
use lib.Ieee.{Float}
use Rattle.exact.specs.Operations.{◌⊗◌}
use Rattle.float.specs.Power.{squaring}

-- the result with b as a factor where k is odd
abbrev pub taken : ℕ → Float → Float → Float
taken k r b = cond (eqb (k % 2) 1) (r ⊗ b) r

pub turn : (turns k : ℕ) (r b : Float) → (k ≡ 0 → ⊥) → k ≤ turns
    → (t : ℕ) × (k / 2 ≤ t) × (squaring turns k r b ≡ squaring t (k / 2) (taken k r b) (b ⊗ b))
unfolding squaring
turn zero zero r b h l = absurd (h refl)
turn zero (suc k) r b h l = absurd (not-suc-le-zero l)
turn (suc t) zero r b h l = absurd (h refl)
turn (suc t) (suc k) r b h l = (t, omega arith, refl)

pub end : (turns k : ℕ) (r b : Float) → k ≡ 0 → squaring turns k r b ≡ r
unfolding squaring
end zero k r b e = refl
end (suc t) zero r b e = refl
end (suc t) (suc k) r b e = absurd (omega arith)

-- so many turns that the exponent comes to 0 are as good as any more
pub enough : (t u k : ℕ) (r b : Float) → k ≤ t → k ≤ u → squaring t k r b ≡ squaring u k r b
unfolding squaring
enough zero zero k r b l m = refl
enough zero (suc u) zero r b l m = refl
enough (suc t) zero zero r b l m = refl
enough (suc t) (suc u) zero r b l m = refl
enough zero (suc u) (suc k) r b l m = absurd (not-suc-le-zero l)
enough (suc t) zero (suc k) r b l m = absurd (not-suc-le-zero m)
enough (suc t) (suc u) (suc k) r b l m = enough t u (suc k / 2) (taken (suc k) r b) (b ⊗ b) (omega arith) (omega arith)
