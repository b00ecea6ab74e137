-- `table_passes` meets its contract: every line passed so far passes. Assumes nothing.
use borrow.Author.Tests.{not-true, not-false}
use borrow.Author.Rules.{rules}
use native.Mathlib.Omega.{arith}
use Rattle.scene_rules.proofs.laws.Passes.{line_next, line_fits, lines_none, line_fields_failed, line_whole_failed, line_passed, lines_done}
use Rattle.scene_rules.proofs.lines.table_passes.Goals as goal

pub loop-i-init : goal.loop-i-init
loop-i-init c = (omega arith, search (lines_none, rules))

pub returns-then-not-fields_pass : goal.returns-then-not-fields_pass
returns-then-not-fields_pass c = search (line_fields_failed, not-true, rules)

pub returns-then-not-line_passes : goal.returns-then-not-line_passes
returns-then-not-line_passes c = search (line_whole_failed, not-true, rules)

pub overflow_add-a : goal.overflow_add-a
overflow_add-a c = search (line_fits, rules)

pub loop-i-preserved : goal.loop-i-preserved
loop-i-preserved c = (search (line_next, rules), line_passed _ _ _ _ _ _ _ _ _ _ c.loop-i.invariant.0 _ c.fields_pass.ensures _ c.line_passes.ensures (not-false _ c.if-not-fields_pass.false-raw) (not-false _ c.if-not-line_passes.false-raw) c.loop-i.invariant.1)

pub returns : goal.returns
returns c = search (lines_done, rules)
