-- `asked_of_wave` meets its contract. Assumes nothing.
use mathlib.Core.Path.{refl, sym, ◌∙◌, subst}
use Prim.Native.Nat.{ℕ, ◌+◌, ◌*◌, ◌≤◌}
use lib.ListN.{length}
use borrow.Author.Tests.{not-true, not-false}
use Rattle.pcm.specs.Sample.{width}
use Rattle.sound_converter.specs.Convert.{values_of}
use Rattle.sound_converter.proofs.laws.Convert.{asked_wave, keeps_told, room_told}
use Rattle.sound_converter.proofs.routines.asked_of_wave.Goals as goal

pub keeps_16-requires : goal.keeps_16-requires
unfolding values_of
keeps_16-requires c = subst (λ (n : ℕ). c.args.sound.start + n * width c.args.sound.encoding ≤ length c.args.wave.now) (sym c.values_of-count.ensures.1) c.requires.room

pub returns-then-not-keeps_16 : goal.returns-then-not-keeps_16
returns-then-not-keeps_16 c =
    let s = c.args.sound in
    asked_wave s c.args.wave.now c.args.room (keeps_told s c.args.wave.now c.args.room c.values_of-count.ensures.1 c.keeps_16.ensures (not-true _ c.if-not-keeps_16.true-raw)) refl refl

pub returns-then-not-rate_ok : goal.returns-then-not-rate_ok
returns-then-not-rate_ok c =
    let s = c.args.sound in
    asked_wave s c.args.wave.now c.args.room (keeps_told s c.args.wave.now c.args.room c.values_of-count.ensures.1 c.keeps_16.ensures (not-false _ c.if-not-keeps_16.false-raw)) (sym c.rate_ok.ensures ∙ not-true _ c.if-not-rate_ok.true-raw) refl

pub returns-then-not-room_ok : goal.returns-then-not-room_ok
returns-then-not-room_ok c =
    let s = c.args.sound in
    asked_wave s c.args.wave.now c.args.room (keeps_told s c.args.wave.now c.args.room c.values_of-count.ensures.1 c.keeps_16.ensures (not-false _ c.if-not-keeps_16.false-raw)) (sym c.rate_ok.ensures ∙ not-false _ c.if-not-rate_ok.false-raw) (room_told s c.args.wave.now c.args.room c.values_of-count.ensures.1 c.room_ok.ensures (not-true _ c.if-not-room_ok.true-raw))

pub returns : goal.returns
returns c =
    let s = c.args.sound in
    asked_wave s c.args.wave.now c.args.room (keeps_told s c.args.wave.now c.args.room c.values_of-count.ensures.1 c.keeps_16.ensures (not-false _ c.if-not-keeps_16.false-raw)) (sym c.rate_ok.ensures ∙ not-false _ c.if-not-rate_ok.false-raw) (room_told s c.args.wave.now c.args.room c.values_of-count.ensures.1 c.room_ok.ensures (not-false _ c.if-not-room_ok.false-raw))
