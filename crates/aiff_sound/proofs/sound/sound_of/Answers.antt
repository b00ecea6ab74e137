-- `sound_of` meets its contract. Assumes nothing.
use mathlib.Core.Path.{refl, sym, ◌∙◌}
use Prim.Native.Nat.{◌+◌, ◌*◌}
use native.Mathlib.Omega.{arith}
use borrow.Author.Tests.{not-true, not-false, eq-eqb, ne_eqb, le-leb, lt-leb}
use Rattle.wave_sound.proofs.laws.Sound.{channels_are}
use Rattle.aiff_sound.proofs.laws.Sound.{sound_by_lem, frames_most}
use borrow.Author.Rules.{rules}
use Rattle.aiff_sound.proofs.sound.sound_of.Goals as goal

pub returns-then-not-channels_ok : goal.returns-then-not-channels_ok
returns-then-not-channels_ok c = sound_by_lem c.args.start c.args.size c.args.offset c.args.channels c.args.frames c.args.bits c.args.rate (sym c.channels_ok.ensures ∙ not-true _ c.if-not-channels_ok.true-raw) refl refl refl

pub returns-then-bits-ne-SAMPLE_BITS : goal.returns-then-bits-ne-SAMPLE_BITS
returns-then-bits-ne-SAMPLE_BITS c = sound_by_lem c.args.start c.args.size c.args.offset c.args.channels c.args.frames c.args.bits c.args.rate (sym c.channels_ok.ensures ∙ not-false _ c.if-not-channels_ok.false-raw) (ne_eqb c.args.bits 16 (search rules)) refl refl

pub overflow_mul-needed : goal.overflow_mul-needed
overflow_mul-needed c = omega (arith, frames_most c.args.frames c.args.channels (channels_are c.args.channels (sym c.channels_ok.ensures ∙ not-false _ c.if-not-channels_ok.false-raw)).1)

pub overflow_mul-needed-2 : goal.overflow_mul-needed-2
overflow_mul-needed-2 c = omega (arith, frames_most c.args.frames c.args.channels (channels_are c.args.channels (sym c.channels_ok.ensures ∙ not-false _ c.if-not-channels_ok.false-raw)).1)

pub overflow_add-needed-2 : goal.overflow_add-needed-2
overflow_add-needed-2 c = omega (arith, frames_most c.args.frames c.args.channels (channels_are c.args.channels (sym c.channels_ok.ensures ∙ not-false _ c.if-not-channels_ok.false-raw)).1)

pub returns-then-size-needed : goal.returns-then-size-needed
returns-then-size-needed c = sound_by_lem c.args.start c.args.size c.args.offset c.args.channels c.args.frames c.args.bits c.args.rate (sym c.channels_ok.ensures ∙ not-false _ c.if-not-channels_ok.false-raw) (eq-eqb c.args.bits 16 (search rules)) (lt-leb (8 + c.args.offset + c.args.frames * c.args.channels * 2) c.args.size (search rules)) refl

pub returns-then-not-rate_ok : goal.returns-then-not-rate_ok
returns-then-not-rate_ok c = sound_by_lem c.args.start c.args.size c.args.offset c.args.channels c.args.frames c.args.bits c.args.rate (sym c.channels_ok.ensures ∙ not-false _ c.if-not-channels_ok.false-raw) (eq-eqb c.args.bits 16 (search rules)) (le-leb (8 + c.args.offset + c.args.frames * c.args.channels * 2) c.args.size (search rules)) (sym c.rate_ok.ensures ∙ not-true _ c.if-not-rate_ok.true-raw)

pub returns : goal.returns
returns c = sound_by_lem c.args.start c.args.size c.args.offset c.args.channels c.args.frames c.args.bits c.args.rate (sym c.channels_ok.ensures ∙ not-false _ c.if-not-channels_ok.false-raw) (eq-eqb c.args.bits 16 (search rules)) (le-leb (8 + c.args.offset + c.args.frames * c.args.channels * 2) c.args.size (search rules)) (sym c.rate_ok.ensures ∙ not-false _ c.if-not-rate_ok.false-raw)
