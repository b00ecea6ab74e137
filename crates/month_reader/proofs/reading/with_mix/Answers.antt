-- `with_mix` meets its contract. Assumes nothing.
use mathlib.Core.Path.{sym, ◌∙◌}
use Prim.Native.Nat.{◌%◌}
use borrow.Author.Tests.{not-true, not-false, eqb-true, eqb-false}
use lib.Dec.{eqb}
use lib.ListN.{length}
use Rattle.month_reader.proofs.laws.Reading.{end_cut, end_frames, end_number, end_good, room_for_mix}
use borrow.Author.Rules.{rules}
use Rattle.month_reader.proofs.reading.with_mix.Goals as goal

pub returns-then-cut : goal.returns-then-cut
returns-then-cut c = λ done bytes e d. c.refused.ensures ∙ end_cut done c.args.channels bytes (eqb-false (length bytes % 4) 0 (not-true (eqb (length bytes % 4) 0) (sym d ∙ c.if-cut.true)))

pub returns-then-reading-channels-ne0 : goal.returns-then-reading-channels-ne0
returns-then-reading-channels-ne0 c = λ done bytes e d. c.refused-then-reading-channels-ne0.ensures ∙ end_frames done c.args.channels bytes c.args.reading e c.if-reading-channels-ne0.true

pub returns-then-number-ne0 : goal.returns-then-number-ne0
returns-then-number-ne0 c =
    λ done bytes e d.
    c.refused-then-number-ne0.ensures
    ∙ end_number done c.args.channels bytes c.args.reading e (eqb-true (length bytes % 4) 0 (not-false (eqb (length bytes % 4) 0) (sym d ∙ c.if-cut.false))) c.if-reading-channels-ne0.false c.if-number-ne0.true

pub with_mix-requires : goal.with_mix-requires
with_mix-requires c =
    let room = room_for_mix c.args.reading c.requires.reading_reachable (search rules) in
    (c.requires.at_least_one_channel, room.0, room.1)

pub returns : goal.returns
returns c =
    λ done bytes e d.
    end_good done c.args.channels bytes c.args.reading e (eqb-true (length bytes % 4) 0 (not-false (eqb (length bytes % 4) 0) (sym d ∙ c.if-cut.false))) c.if-reading-channels-ne0.false c.if-number-ne0.false c.with_mix.ensures
