-- `tables_pass` meets its contract: every table passed so far passes. Assumes nothing.
use mathlib.Core.Path.{refl}
use borrow.Author.Tests.{not-true, not-false}
use borrow.Author.Rules.{rules}
use Rattle.scene_tables.specs.InCode.{all_fields}
use Rattle.scene_rules.proofs.laws.Passes.{tables_none, table_failed, table_passed, tables_done, first_next, first_room, first_fits, lines_low}
use Rattle.scene_rules.proofs.lines.tables_pass.Goals as goal

pub loop-t-init : goal.loop-t-init
unfolding all_fields
loop-t-init c = (refl, search (tables_none, rules))

pub table_passes-requires : goal.table_passes-requires
table_passes-requires c = record { fields_in_range = search (first_room, rules); table_in_range = search (lines_low, rules) }

pub returns-then-not-table_passes : goal.returns-then-not-table_passes
returns-then-not-table_passes c = search (table_failed, not-true, rules)

pub overflow_add-first : goal.overflow_add-first
overflow_add-first c = search (first_fits, rules)

pub loop-t-preserved : goal.loop-t-preserved
loop-t-preserved c = (search (first_next, rules), table_passed _ _ _ _ _ _ _ _ c.loop-t.invariant.0 _ c.rule_of-rule.ensures c.loop-t-test.true _ c.table_passes.ensures (not-false _ c.if-not-table_passes.false-raw) c.loop-t.invariant.1)

pub returns : goal.returns
returns c = search (tables_done, rules)
