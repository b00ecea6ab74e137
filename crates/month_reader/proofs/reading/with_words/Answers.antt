-- `with_words` meets its contract. Assumes nothing.
use mathlib.Core.Path.{◌∙◌}
use native.Mathlib.Omega.{arith}
use Rattle.month.specs.Piece.{words_of}
use Rattle.month.proofs.laws.Words.{words_count}
use Rattle.month_reader.proofs.laws.Reading.{words_none, words_broken, words_long, few_samples}
use borrow.Author.Rules.{rules}
use Rattle.month_reader.proofs.reading.with_words.Goals as goal

pub returns-then-count-eq0 : goal.returns-then-count-eq0
returns-then-count-eq0 c = λ done ws e. words_none done ws (words_of c.args.piece.now) c.args.reading e (omega (arith, c.if-count-eq0.true, words_count c.args.piece.now))

pub returns-then-reading-eq26 : goal.returns-then-reading-eq26
returns-then-reading-eq26 c = λ done ws e. words_broken done ws (words_of c.args.piece.now) c.args.reading e (search rules)

pub overflow_add-samples : goal.overflow_add-samples
overflow_add-samples c = omega (arith, few_samples c.requires.done c.requires.words c.args.reading c.requires.is)

pub returns-then-samples-gt-MOST_SAMPLES : goal.returns-then-samples-gt-MOST_SAMPLES
returns-then-samples-gt-MOST_SAMPLES c = λ done ws e. c.refused.ensures ∙ words_long done ws (words_of c.args.piece.now) c.args.reading e (search rules) (omega (arith, c.if-samples-gt-MOST_SAMPLES.true, words_count c.args.piece.now))
