-- Powers that are kept: what the array holds that a sum looks its powers up in. No result is defined by it.
use Rattle.std.specs.Prelude.{ℕ, zero, suc, ◌<◌, ◌≡◌, Bool, ◌&&◌, List, [], ◌∷◌, get_or, ℤ, Float}
use Rattle.std.specs.Int.Signed.{le_z}
use Rattle.std.specs.Float.{nan}
use Rattle.exact.specs.Operations.{◌⊗◌}
use Rattle.float.specs.Decimal.{+◌, −◌}
use Rattle.float.specs.Power.{raised}

-- n powers of x, from the k-th on
unfoldable pub powers_from : Float → ℕ → ℕ → List Float
powers_from x zero k = []
powers_from x (suc n) k = raised x k ∷ powers_from x n (suc k)

-- x^0 to x^63, each at its exponent
unfoldable pub powers : Float → List Float
unfolding powers_from
powers x = powers_from x 64 0

-- the exponents whose magnitudes are kept
abbrev pub exponent : ℤ → Bool
exponent k = le_z (− 63) k && le_z k (+ 63)

-- ---- on the way: those below n are there
abbrev pub Filled : Float → List Float → ℕ → Type 0
Filled x ps n = (k : ℕ) → k < n → get_or ps k nan ≡ raised x k

-- x squared h times
unfoldable pub squared : ℕ → Float → Float
squared zero x = x
squared (suc h) x = squared h (x ⊗ x)
