-- `exports::float_fourth_root` meets its contract: the call's is the same. Assumes nothing.
use Rattle.exports.proofs.float_fourth_root.Goals as goal

pub returns : goal.returns
returns c = assumption c
