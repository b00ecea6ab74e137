-- `read_tables` meets its contract: the tables left, after the numbers written, give what all tables give (`TablesLoop`). Assumes nothing.
use borrow.Author.Tests.{not-true, not-false}
use borrow.Author.Rules.{rules}
use Rattle.scene_file.proofs.laws.Layout.{tables_start, tables_more, tables_done, tables_none, tables_bad, tables_next, tables_space, names_count, name_start, name_within, name_lies, name_add}
use Rattle.scene_file.proofs.grammar.read_tables.Goals as goal

pub loop-t-init : goal.loop-t-init
loop-t-init c = tables_start _ _

pub returns-then-not-more : goal.returns-then-not-more
returns-then-not-more c = search (tables_none, not-true, rules)

pub slice_bounds-name_end-end : goal.slice_bounds-name_end-end
slice_bounds-name_end-end c = search (names_count, rules)

pub name_end-end-requires : goal.name_end-end-requires
name_end-end-requires c = search (name_lies, rules)

pub slice_bounds-table-count : goal.slice_bounds-table-count
slice_bounds-table-count c = search (name_start, rules)

pub slice_bounds-table-start : goal.slice_bounds-table-start
slice_bounds-table-start c = search (name_start, rules)

pub slice_bounds-table-end : goal.slice_bounds-table-end
slice_bounds-table-end c = search (name_within, rules)

pub table-read-requires : goal.table-read-requires
table-read-requires c = record { room_for_values = search (tables_space, rules); two_bytes_a_value = search rules }

pub returns-then-not-read : goal.returns-then-not-read
returns-then-not-read c = search (tables_bad, not-true, not-false, rules)

pub overflow_add-name : goal.overflow_add-name
overflow_add-name c = search (name_add, rules)

pub loop-t-preserved : goal.loop-t-preserved
loop-t-preserved c = tables_next _ _ _ _ _ _ _ _ _ _ c.loop-t.invariant c.loop-t-test.true _ c.names_text-names.ensures _ c.name_end-end.ensures (not-false _ c.if-not-more.false-raw) _ c.rule_of-rule.ensures _ _ c.table-read.ensures (not-false _ c.if-not-read.false) c.table-read.auto.values

pub returns-then-more : goal.returns-then-more
returns-then-more c = search (tables_more, rules)

pub returns : goal.returns
returns c = search (tables_done, rules)
