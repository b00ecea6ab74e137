-- `size_ok` meets its contract. Assumes nothing.
use borrow.Author.Rules.{rules}
use Rattle.scene_questions.proofs.laws.FileSize.{size_empty, size_large, size_last}
use Rattle.scene_questions.proofs.lengths.size_ok.Goals as goal

pub returns-then-file-eq0 : goal.returns-then-file-eq0
returns-then-file-eq0 c = search (size_empty, size_large, rules)

pub returns-then-file-gt-FILE_BYTES : goal.returns-then-file-gt-FILE_BYTES
returns-then-file-gt-FILE_BYTES c = search (size_empty, size_large, rules)

pub returns : goal.returns
returns c = search (size_last, rules)
