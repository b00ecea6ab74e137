-- `with_whole` meets its contract. Assumes nothing.
use Rattle.month_reader.proofs.laws.Stream.{whole_read, reading_reached}
use Rattle.month_reader.proofs.stream.with_whole.Goals as goal

pub with_words-requires : goal.with_words-requires
with_words-requires c = reading_reached c.args.stream c.requires.stream_reachable

pub returns : goal.returns
returns c = λ done bytes e. whole_read done bytes c.args.stream e c.args.piece.now c.requires.whole_samples.0 c.with_words.ensures c.requires.whole_samples.1
