-- `length_ok` meets its contract. Assumes nothing.
use Rattle.wave_writer.proofs.laws.Write.{size_above, size_within}
use borrow.Author.Rules.{rules}
use Rattle.wave_writer.proofs.questions.length_ok.Goals as goal

pub returns-then-head-size : goal.returns-then-head-size
returns-then-head-size c = size_above c.args.head c.args.size c.args.room c.requires (search rules)

pub returns : goal.returns
returns c = size_within c.args.head c.args.size c.args.room c.requires (search rules)
