-- `float::sign::copysign` meets its contract: the magnitude, with a minus put on where y has one. Assumes nothing.
use mathlib.Core.Path.{sym, ap, ◌∙◌}
use mathlib.Core.Bool.{Bool}
use lib.Ieee.{neg}
use Rattle.float.specs.Sign.{with_sign}
use Rattle.float.proofs.Signs.{put_on}
use Rattle.float.proofs.sign.copysign.Goals as goal

pub returns-then-is_sign_negative : goal.returns-then-is_sign_negative
returns-then-is_sign_negative c =
    let x = c.args.x in
    ap neg c.abs-m.ensures ∙ put_on x ∙ ap (λ (s : Bool). with_sign s x) (sym c.if-is_sign_negative.true ∙ c.is_sign_negative.ensures)

pub returns-else-is_sign_negative : goal.returns-else-is_sign_negative
returns-else-is_sign_negative c =
    let x = c.args.x in
    c.abs-m.ensures ∙ ap (λ (s : Bool). with_sign s x) (sym c.if-is_sign_negative.false ∙ c.is_sign_negative.ensures)
