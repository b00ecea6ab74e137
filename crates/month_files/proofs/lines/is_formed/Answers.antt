use mathlib.Core.Path.{◌∙◌}
use borrow.Author.Rules.{rules}
use Rattle.month_files.proofs.laws.Lines.{formed_next, formed_stops, formed_end}
use Rattle.month_files.proofs.lines.is_formed.Goals as goal

pub returns-then-not-is_line : goal.returns-then-not-is_line
returns-then-not-is_line c = formed_stops c.loop-rest.rest.now c.in-len2-up.len_at_least c.is_line.ensures (search rules) ∙ c.loop-rest.invariant

pub loop-rest-preserved : goal.loop-rest-preserved
loop-rest-preserved c = formed_next c.loop-rest.rest.now c.in-len2-up.len_at_least c.is_line.ensures (search rules) ∙ c.loop-rest.invariant

pub returns : goal.returns
returns c = formed_end c.loop-rest.rest.now c.in_default.len_below (search rules) ∙ c.loop-rest.invariant
