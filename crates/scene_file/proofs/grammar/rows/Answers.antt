-- `rows` meets its contract: the lines left, after the numbers written, give what all value lines give (`RowsLoop`). Assumes nothing.
use borrow.Author.Tests.{not-true, not-false}
use borrow.Author.Rules.{rules}
use native.Mathlib.Omega.{arith}
use Rattle.scene_file.proofs.laws.Sections.{rows_start, rows_done, rows_empty, rows_room, rows_add, rows_add_one, rows_add_place, rows_bad, rows_next}
use Rattle.scene_file.proofs.laws.Numbers.{position_count}
use Rattle.scene_file.proofs.grammar.rows.Goals as goal

pub loop-next-init : goal.loop-next-init
loop-next-init c = search (rows_start, rules)

pub returns-then-e-eq0 : goal.returns-then-e-eq0
returns-then-e-eq0 c = search (rows_empty, rules)

pub slice_bounds-row-end : goal.slice_bounds-row-end
slice_bounds-row-end c = search (position_count, rules)

pub row-requires : goal.row-requires
row-requires c = search (rows_room, rules)

pub returns-then-not-row : goal.returns-then-not-row
returns-then-not-row c = search (rows_bad, not-true, rules)

pub overflow_add-next : goal.overflow_add-next
overflow_add-next c = search (rows_add, rules)

pub overflow_add-next-in-loop-next : goal.overflow_add-next-in-loop-next
overflow_add-next-in-loop-next c = search (rows_add_one, rules)

pub overflow_add-k : goal.overflow_add-k
overflow_add-k c = rows_add_place _ _ _ _ _ _ _ _ _ c.loop-next.invariant _ c.loop-next-test.true c.find-e.ensures c.if-e-eq0.false _ _ c.row.ensures (not-false _ c.if-not-row.false-raw) (search rules)

pub loop-next-preserved : goal.loop-next-preserved
loop-next-preserved c = rows_next _ _ _ _ _ _ _ _ _ c.loop-next.invariant _ c.loop-next-test.true c.find-e.ensures c.if-e-eq0.false _ _ c.row.ensures (not-false _ c.if-not-row.false-raw) c.row.auto.values (omega arith)

pub returns : goal.returns
returns c = search (rows_done, rules)
