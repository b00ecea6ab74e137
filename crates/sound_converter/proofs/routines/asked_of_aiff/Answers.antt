-- `asked_of_aiff` meets its contract. Assumes nothing.
use mathlib.Core.Path.{sym, ap, ◌∙◌}
use Prim.Native.Nat.{ℕ, ◌*◌}
use borrow.Author.Tests.{not-true, not-false}
use Rattle.wave_writer.specs.Write.{head_length}
use Rattle.sound_converter.specs.Convert.{room_ok}
use Rattle.sound_converter.proofs.laws.Convert.{asked_aiff}
use Rattle.sound_converter.proofs.routines.asked_of_aiff.Goals as goal

pub returns-then-not-room_ok : goal.returns-then-not-room_ok
returns-then-not-room_ok c = asked_aiff c.args.sound c.args.room (ap (λ (n : ℕ). room_ok head_length (n * 2) c.args.room) (sym c.values_of.ensures.1) ∙ sym c.room_ok.ensures ∙ not-true _ c.if-not-room_ok.true-raw)

pub returns : goal.returns
returns c = asked_aiff c.args.sound c.args.room (ap (λ (n : ℕ). room_ok head_length (n * 2) c.args.room) (sym c.values_of.ensures.1) ∙ sym c.room_ok.ensures ∙ not-false _ c.if-not-room_ok.false-raw)
