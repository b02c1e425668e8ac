-- `digits::double` meets its contract: one comparison tells the patterns of a NaN, and all of them are read as the same. Assumes nothing.
use mathlib.Core.Path.{◌≡◌, refl, sym, ◌∙◌}
use mathlib.Core.Bool.{true, true≢false}
use borrow.Author.Tests.{lt-ltb}
use Prim.Native.Nat.{ℕ}
use lib.Ieee.{Float, nan, inf, fin, binary64, of_bits, is_nan, div}
use lib.Ieee.Bits.{nan_bits_is, nan_bits_above}
use Rattle.std.proofs.lemmas.Float.{not_nan_f64_bits}
use Rattle.digits.proofs.double.Goals as goal

one_nan : (x : Float) → is_nan x ≡ true → nan ≡ x
unfolding is_nan
one_nan nan h = refl
one_nan (inf s) h = absurd (true≢false (sym h))
one_nan (fin s m e) h = absurd (true≢false (sym h))

pub returns-then-not_a_number : goal.returns-then-not_a_number
unfolding div of_bits
returns-then-not_a_number c =
    let b : ℕ = c.args.bits in
    one_nan (of_bits binary64 b) (sym (nan_bits_is binary64 b) ∙ nan_bits_above binary64 b ∙ lt-ltb _ _ c.if-not_a_number.true)

pub float_from_bits-result : goal.float_from_bits-result
float_from_bits-result c = not_nan_f64_bits _ c.if-not_a_number.false
