-- `name_end` meets its contract. Assumes nothing.
use borrow.Author.Rules.{rules}
use Rattle.scene_file.proofs.laws.Sections.{line_fits}
use Rattle.scene_file.proofs.grammar.name_end.Goals as goal

pub overflow_add-result : goal.overflow_add-result
overflow_add-result c = search (line_fits, rules)
