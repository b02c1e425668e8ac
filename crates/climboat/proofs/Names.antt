-- A number that is refused names nothing. Assumes nothing.
use mathlib.Core.Path.{◌≡◌, refl, sym, ap, ◌∙◌}
use mathlib.Core.Bool.{true≢false}
use Rattle.std.specs.Prelude.{Option, Some, None, Result, Err, ok_or, is_ok}
use Rattle.common.specs.declared.cause.Cause.{Cause}
use Rattle.common.specs.declared.cause.Cause.TheVariants.{NamesNothing}

pub names_nothing : {A : Type 0} (named : Option A) {r : Result A Cause} {cause : Cause} → r ≡ ok_or named NamesNothing → r ≡ Err cause → named ≡ None
names_nothing None h refused = refl
names_nothing (Some x) h refused = absurd (true≢false (ap is_ok (sym h ∙ refused)))
