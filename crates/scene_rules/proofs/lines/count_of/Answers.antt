-- `count_of` meets its contract. Assumes nothing.
use borrow.Author.Tests.{lt-ltb, le-ltb}
use Rattle.scene_questions.specs.Places.{count_at}
use Rattle.scene_rules.proofs.lines.count_of.Goals as goal

pub returns-then-t-lt-TABLES : goal.returns-then-t-lt-TABLES
unfolding count_at
returns-then-t-lt-TABLES c = rw (lt-ltb _ _ c.if-t-lt-TABLES.true)

pub returns-else-t-lt-TABLES : goal.returns-else-t-lt-TABLES
unfolding count_at
returns-else-t-lt-TABLES c = rw (le-ltb _ _ c.if-t-lt-TABLES.false)
