-- `table` meets its contract: the names line, and then what `rows` reads. Assumes nothing.
use borrow.Author.Tests.{not-true, not-false}
use native.Mathlib.Omega.{arith}
use borrow.Author.Rules.{rules}
use Rattle.scene_file.proofs.laws.Layout.{section_past, section_none, section_other, section_read, section_within, section_add, section_add_one}
use Rattle.scene_file.proofs.laws.Numbers.{position_count}
use Rattle.scene_file.proofs.grammar.table.Goals as goal

pub returns-then-file-from : goal.returns-then-file-from
returns-then-file-from c = search (section_past, rules)

pub returns-then-e-eq0 : goal.returns-then-e-eq0
returns-then-e-eq0 c = search (section_none, rules)

pub slice_bounds-same-end : goal.slice_bounds-same-end
slice_bounds-same-end c = search (position_count, rules)

pub returns-then-not-same : goal.returns-then-not-same
returns-then-not-same c = search (section_other, not-true, rules)

pub overflow_add-from : goal.overflow_add-from
overflow_add-from c = search (section_add, rules)

pub overflow_add-from-2 : goal.overflow_add-from-2
overflow_add-from-2 c = search (section_add_one, rules)

pub rows-requires : goal.rows-requires
rows-requires c = record { room_for_values = search rules; two_bytes_a_value = omega arith; from_in_file = search (section_within, rules) }

pub returns : goal.returns
returns c = search (section_read, not-false, rules)
