-- `pattern_32` meets its contract. Assumes nothing.
use borrow.Author.Rules.{rules}
use Rattle.pcm.specs.Sample.{pattern_of}
use Rattle.pcm.proofs.laws.Sixteen.{in_range_number}
use Rattle.pcm.proofs.sample.pattern_32.Goals as goal

pub float_to_bits-result : goal.float_to_bits-result
float_to_bits-result c = in_range_number c.args.x c.requires

pub returns : goal.returns
unfolding pattern_of
returns c = search rules
