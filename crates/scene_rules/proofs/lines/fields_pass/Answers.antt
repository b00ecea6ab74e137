-- `fields_pass` meets its contract: every field passed so far passes. Assumes nothing.
use borrow.Author.Tests.{not-true, not-false}
use borrow.Author.Rules.{rules}
use Rattle.scene_rules.proofs.laws.Passes.{fields_none, fields_passed, fields_failed, fields_done, field_place, field_place_fits}
use Rattle.scene_rules.proofs.lines.fields_pass.Goals as goal

pub loop-j-init : goal.loop-j-init
loop-j-init c = search (fields_none, rules)

pub overflow_add-first : goal.overflow_add-first
overflow_add-first c = search (field_place_fits, rules)

pub field_of-requires : goal.field_of-requires
field_of-requires c = search (field_place, rules)

pub returns-then-not-field_passes : goal.returns-then-not-field_passes
returns-then-not-field_passes c = search (fields_failed, not-true, rules)

pub loop-j-preserved : goal.loop-j-preserved
loop-j-preserved c = search (fields_passed, not-false, rules)

pub returns : goal.returns
returns c = search (fields_done, rules)
