-- `answer_tracks` meets its contract: the tables in their places are the file's. Assumes nothing.
use Rattle.scene_questions.proofs.laws.FileSize.{size_small}
use Rattle.silent_tracks.proofs.laws.Answer.{layout_low, few_tracks, refused_10, unwritten_10, accepted_10, written_10}
use native.Mathlib.Omega.{arith}
use Rattle.silent_tracks.proofs.answer.answer_tracks.Goals as goal

pub read_tables-layout-requires : goal.read_tables-layout-requires
read_tables-layout-requires c = omega (arith, size_small _ c.requires.size_ok)

pub returns-then-numbers-counts : goal.returns-then-numbers-counts
returns-then-numbers-counts c =
    let read = c.read_tables-layout.ensures in
    record { number = refused_10 _ _ _ _ read c.requires.size_ok c.requires.spelling_ok c.args.numbers.now (λ e. omega (arith, c.if-numbers-counts.true)); numbers = unwritten_10 _ _ _ _ read c.requires.size_ok c.requires.spelling_ok c.args.numbers.now (λ e. omega (arith, c.if-numbers-counts.true)) }

pub put_silences-requires : goal.put_silences-requires
put_silences-requires c =
    let read = c.read_tables-layout.ensures in
    record { tables_in_range = layout_low _ _ _ _ read c.requires.size_ok c.requires.spelling_ok; numbers_fit = few_tracks _ _ _ _ read c.requires.size_ok c.requires.spelling_ok c.args.numbers.now (omega (arith, c.if-numbers-counts.false)) }

pub returns : goal.returns
returns c =
    let read = c.read_tables-layout.ensures in
    let same = c.if-numbers-counts.false in
    record { number = accepted_10 _ _ _ _ read c.requires.size_ok c.requires.spelling_ok c.args.numbers.now (omega (arith, same)); numbers = written_10 _ _ _ _ read c.requires.size_ok c.requires.spelling_ok c.args.numbers.now (omega (arith, same)) _ c.put_silences.ensures }
