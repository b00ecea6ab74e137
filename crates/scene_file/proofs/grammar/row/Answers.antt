-- `row` meets its contract: the fields left, after the numbers written, give what all fields give (`RowLoop`). Assumes nothing.
use borrow.Author.Rules.{rules}
use Rattle.scene_file.proofs.laws.Fields.{row_start, row_room, row_add_place, row_mul_place, row_add_from, row_add_one, row_next, row_bad, row_done}
use Rattle.scene_file.proofs.laws.Numbers.{position_count, none_of}
use Rattle.scene_file.proofs.grammar.row.Goals as goal

pub loop-from-init : goal.loop-from-init
loop-from-init c = search (row_start, rules)

pub slice_bounds-number_of-end : goal.slice_bounds-number_of-end
slice_bounds-number_of-end c = search (position_count, rules)

pub overflow_add-values : goal.overflow_add-values
overflow_add-values c = search (row_add_place, rules)

pub offset_bounds-values-at : goal.offset_bounds-values-at
offset_bounds-values-at c = search (row_mul_place, rules)

pub bounds-values-at : goal.bounds-values-at
bounds-values-at c = search (row_room, rules)

pub overflow_add-from : goal.overflow_add-from
overflow_add-from c = search (row_add_from, rules)

pub loop-from-preserved : goal.loop-from-preserved
loop-from-preserved c = search (row_next, rules)

pub returns : goal.returns
returns c = search (row_done, rules)

pub overflow_add-from-in-loop-from : goal.overflow_add-from-in-loop-from
overflow_add-from-in-loop-from c = search (row_add_one, rules)

pub returns-in_default : goal.returns-in_default
returns-in_default c = search (row_bad, none_of, rules)
