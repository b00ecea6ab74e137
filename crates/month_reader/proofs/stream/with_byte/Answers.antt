-- `with_byte` meets its contract. Assumes nothing.
use native.Mathlib.Omega.{arith}
use Rattle.month_reader.proofs.laws.Stream.{byte_held, byte_whole, reading_reached, count_most}
use borrow.Author.Rules.{rules}
use Rattle.month_reader.proofs.stream.with_byte.Goals as goal

pub bounds-held-count : goal.bounds-held-count
bounds-held-count c = omega (arith, count_most c.args.stream c.requires)

pub returns-then-count-lt3 : goal.returns-then-count-lt3
returns-then-count-lt3 c = λ done bytes e. byte_held done bytes c.args.stream e c.args.byte (search rules)

pub with_words-requires : goal.with_words-requires
with_words-requires c = reading_reached c.args.stream c.requires

pub returns : goal.returns
returns c = λ done bytes e. byte_whole done bytes c.args.stream e c.args.byte (search rules) c.with_words.ensures
