-- `float::root::fourth_root` meets its contract: what `sqrt` ensures, twice. Assumes nothing.
use mathlib.Core.Path.{ap, ◌∙◌}
use Rattle.float.specs.Root.{square_root, fourth_root}
use Rattle.float.proofs.root.fourth_root.Goals as goal

pub returns : goal.returns
unfolding fourth_root
returns c = c.sqrt-2.ensures ∙ ap square_root c.sqrt.ensures
