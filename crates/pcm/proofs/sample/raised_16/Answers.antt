-- `raised_16` meets its contract. Assumes nothing.
use borrow.Author.Rules.{rules}
use Rattle.laws.proofs.laws.Choice.{true-T}
use Rattle.pcm.proofs.laws.Sixteen.{sum_number, sum_least16, below_cut, at_cut}
use Rattle.pcm.proofs.sample.raised_16.Goals as goal

pub float_to_bits-raised : goal.float_to_bits-raised
float_to_bits-raised c = sum_number c.args.x (true-T _ c.well_formed.0.1) c.requires

pub overflow_sub-raised : goal.overflow_sub-raised
overflow_sub-raised c = sum_least16 c.args.x (true-T _ c.well_formed.0.1) c.requires

pub returns-then-raised-lt-VALUES : goal.returns-then-raised-lt-VALUES
returns-then-raised-lt-VALUES c = (search rules, below_cut c.args.x (true-T _ c.well_formed.0.1) c.requires (search rules))

pub returns-else-raised-lt-VALUES : goal.returns-else-raised-lt-VALUES
returns-else-raised-lt-VALUES c = (search rules, at_cut c.args.x (true-T _ c.well_formed.0.1) c.requires (search rules))
