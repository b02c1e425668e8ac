-- `polynomial::table::Table::rows` meets its contract: a part of the columns is that part of the table. Assumes nothing.
use mathlib.Core.Path.{◌∙◌, ap}
use native.Mathlib.Omega.{arith}
use Rattle.polynomial.specs.Tables.{part}
use Rattle.polynomial.proofs.Rows.{rows-part, columns-part, within_columns}
use Rattle.polynomial.proofs.table.Table.rows.Goals as goal

pub offset_bounds-self-inside-start : goal.offset_bounds-self-inside-start
offset_bounds-self-inside-start c = let w = within_columns c.self.invariant c.self.view_is c.requires.1 in omega arith

pub offset_bounds-self-inside-start-2 : goal.offset_bounds-self-inside-start-2
offset_bounds-self-inside-start-2 c = let w = within_columns c.self.invariant c.self.view_is c.requires.1 in omega arith

pub offset_bounds-self-inside-start-3 : goal.offset_bounds-self-inside-start-3
offset_bounds-self-inside-start-3 c = let w = within_columns c.self.invariant c.self.view_is c.requires.1 in omega arith

pub slice_bounds-result-end : goal.slice_bounds-result-end
slice_bounds-result-end c = let w = within_columns c.self.invariant c.self.view_is c.requires.1 in omega arith

pub slice_bounds-result-end-2 : goal.slice_bounds-result-end-2
slice_bounds-result-end-2 c = let w = within_columns c.self.invariant c.self.view_is c.requires.1 in omega arith

pub slice_bounds-result-end-3 : goal.slice_bounds-result-end-3
slice_bounds-result-end-3 c = let w = within_columns c.self.invariant c.self.view_is c.requires.1 in omega arith

pub invariant_of-result : goal.invariant_of-result
invariant_of-result c = columns-part c.args.start c.args.end _ _ _ c.self.invariant

pub returns : goal.returns
returns c = let t = c.self.inside in rows-part c.args.start c.args.end t.is.now t.js.now t.ns.now ∙ ap (part c.args.start c.args.end) c.self.view_is
