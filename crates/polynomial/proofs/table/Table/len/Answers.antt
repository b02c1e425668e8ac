-- `polynomial::table::Table::len` meets its contract: a table is as long as its columns. Assumes nothing.
use mathlib.Core.Path.{◌∙◌, ap, sym}
use lib.ListN.{length}
use Rattle.polynomial.proofs.Rows.{rows-as_long}
use Rattle.polynomial.proofs.table.Table.len.Goals as goal

pub returns : goal.returns
returns c =
    let columns = c.self.invariant in
    sym (rows-as_long _ _ _ columns.as_long_j columns.as_long_n) ∙ ap length c.self.view_is
