-- `with_samples` meets its contract. Assumes nothing.
use mathlib.Core.Path.{◌≡◌, ap, ◌∙◌}
use Prim.Native.Nat.{ℕ, ◌+◌, ◌/◌}
use native.Mathlib.Omega.{arith}
use lib.ListN.{length}
use Rattle.month.specs.Piece.{words_of}
use Rattle.month.proofs.laws.Words.{words_count}
use Rattle.month_reader.proofs.laws.Reading.{refused_by, words_out, words_go_out, words_good, room_for}
use borrow.Author.Rules.{rules}
use Rattle.month_reader.proofs.reading.with_samples.Goals as goal

pub returns-then-reading-ne0 : goal.returns-then-reading-ne0
returns-then-reading-ne0 c =
    let r = c.args.reading in
    let v = words_of c.args.piece.now in
    let n : c.args.samples ≡ c.args.reading.samples + length v = omega (arith, c.requires.samples_counted.0, words_count c.args.piece.now) in
    λ done ws e. c.refused.ensures ∙ ap (refused_by 25) n ∙ words_out done ws v r e c.requires.not_stopped_and_a_sample_there.0 (omega (arith, n, c.requires.samples_counted.1)) (search rules)

pub returns-then-most-gt-ONE : goal.returns-then-most-gt-ONE
returns-then-most-gt-ONE c =
    let r = c.args.reading in
    let v = words_of c.args.piece.now in
    let n : c.args.samples ≡ c.args.reading.samples + length v = omega (arith, c.requires.samples_counted.0, words_count c.args.piece.now) in
    λ done ws e.
    c.refused-then-most-gt-ONE.ensures
    ∙ ap (refused_by 25) n
    ∙ words_go_out done ws v r e c.requires.not_stopped_and_a_sample_there.0 (omega (arith, n, c.requires.samples_counted.1)) (omega (arith, c.if-most-gt-ONE.true, c.largest_magnitude-most.ensures))

pub with_piece-totals-requires : goal.with_piece-totals-requires
with_piece-totals-requires c = record { largest_of_the_piece = (c.requires.not_stopped_and_a_sample_there.1, c.largest_magnitude-most.ensures); at_most_one = search rules; room_for_samples = room_for c.args.reading c.requires.reading_reachable (length c.args.piece.now / 4) (search rules) (omega (arith, c.requires.samples_counted.0, c.requires.samples_counted.1)) }

pub returns : goal.returns
returns c =
    let r = c.args.reading in
    let v = words_of c.args.piece.now in
    let n : c.args.samples ≡ c.args.reading.samples + length v = omega (arith, c.requires.samples_counted.0, words_count c.args.piece.now) in
    λ done ws e.
    ap (λ (k : ℕ). record { number = 0; totals = c.with_piece-totals.result; samples = k }) n
    ∙ words_good done ws v r e c.requires.not_stopped_and_a_sample_there.0 (omega (arith, n, c.requires.samples_counted.1)) (search rules) (omega (arith, c.if-most-gt-ONE.false, c.largest_magnitude-most.ensures)) c.with_piece-totals.ensures
