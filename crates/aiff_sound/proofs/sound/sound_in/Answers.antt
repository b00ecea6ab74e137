-- `sound_in` meets its contract. Assumes nothing.
use mathlib.Core.Path.{refl, sym, ◌∙◌}
use native.Mathlib.Omega.{arith}
use borrow.Author.Tests.{not-true, not-false}
use Rattle.byte_order.specs.declared.bytes.ByteOrder.TheVariants.{Big}
use Rattle.iff_chunks.specs.Chunks.{identifier, letters_after, size_at, walk_of}
use Rattle.iff_chunks.proofs.laws.Inside.{first_header, second_header}
use Rattle.wave_sound.specs.declared.refusal.Refusal.TheVariants.{NoAiff}
use Rattle.wave_sound.proofs.laws.Sound.{none_refused}
use Rattle.aiff_sound.specs.Sound.{form_chunk, aiff, common_chunk, sound_chunk}
use Rattle.aiff_sound.proofs.laws.Sound.{not_aiff, no_common_chunk, no_sound_chunk, other_common, short_sound, common_body, sound_body, chunks_broken, chunks_whole}
use Rattle.aiff_sound.proofs.sound.sound_in.Goals as goal

pub returns-then-not-is_form : goal.returns-then-not-is_form
unfolding form_chunk aiff common_chunk sound_chunk identifier letters_after
returns-then-not-is_form c = not_aiff c.args.file.now (walk_of Big common_chunk sound_chunk c.args.file.now) refl (sym c.is_form.ensures ∙ not-true _ c.if-not-is_form.true-raw)

pub returns-in_err-common : goal.returns-in_err-common
unfolding form_chunk aiff common_chunk sound_chunk identifier letters_after
returns-in_err-common c =
    let p = none_refused c.walk-chunks.result.first NoAiff c.in_err-common.field-0.0 c.from_residual.result c.in_err-common.ensures.value c.from_residual.ensures.1 in
    p.1 ∙ no_common_chunk c.args.file.now c.walk-chunks.result c.walk-chunks.ensures (sym c.is_form.ensures ∙ not-false _ c.if-not-is_form.false-raw) p.0

pub returns-in_err-body : goal.returns-in_err-body
unfolding form_chunk aiff common_chunk sound_chunk identifier letters_after
returns-in_err-body c =
    let p = none_refused c.walk-chunks.result.second NoAiff c.in_err-body.field-0.0 c.from_residual-in_err-body.result c.in_err-body.ensures.value c.from_residual-in_err-body.ensures.1 in
    p.1 ∙ no_sound_chunk c.args.file.now c.walk-chunks.result c.walk-chunks.ensures (sym c.is_form.ensures ∙ not-false _ c.if-not-is_form.false-raw) p.0

pub overflow_add-common : goal.overflow_add-common
unfolding common_chunk sound_chunk identifier letters_after
overflow_add-common c = omega (arith, first_header Big common_chunk sound_chunk c.args.file.now c.walk-chunks.result c.walk-chunks.ensures c.in_ok-common.ensures.ok_part)

pub number4_at-requires : goal.number4_at-requires
unfolding common_chunk sound_chunk identifier letters_after
number4_at-requires c = omega (arith, first_header Big common_chunk sound_chunk c.args.file.now c.walk-chunks.result c.walk-chunks.ensures c.in_ok-common.ensures.ok_part)

pub returns-then-number4_at-ne-COMMON_SIZE : goal.returns-then-number4_at-ne-COMMON_SIZE
unfolding form_chunk aiff common_chunk sound_chunk identifier letters_after size_at
returns-then-number4_at-ne-COMMON_SIZE c = other_common c.args.file.now c.walk-chunks.result c.walk-chunks.ensures c.in_ok-common.ensures.ok_part c.in_ok-body.ensures.ok_part (sym c.is_form.ensures ∙ not-false _ c.if-not-is_form.false-raw) (λ e. absurd (omega (arith, e, c.number4_at.ensures, c.if-number4_at-ne-COMMON_SIZE.true)))

pub overflow_add-body : goal.overflow_add-body
unfolding common_chunk sound_chunk identifier letters_after
overflow_add-body c = omega (arith, second_header Big common_chunk sound_chunk c.args.file.now c.walk-chunks.result c.walk-chunks.ensures c.in_ok-body.ensures.ok_part)

pub number4_at-requires-2 : goal.number4_at-requires-2
unfolding common_chunk sound_chunk identifier letters_after
number4_at-requires-2 c = omega (arith, second_header Big common_chunk sound_chunk c.args.file.now c.walk-chunks.result c.walk-chunks.ensures c.in_ok-body.ensures.ok_part)

pub returns-then-number4_at-lt8 : goal.returns-then-number4_at-lt8
unfolding form_chunk aiff common_chunk sound_chunk identifier letters_after size_at
returns-then-number4_at-lt8 c = short_sound c.args.file.now c.walk-chunks.result c.walk-chunks.ensures c.in_ok-common.ensures.ok_part c.in_ok-body.ensures.ok_part (sym c.is_form.ensures ∙ not-false _ c.if-not-is_form.false-raw) (omega (arith, c.number4_at.ensures, c.if-number4_at-ne-COMMON_SIZE.false)) (omega (arith, c.number4_at-2.ensures, c.if-number4_at-lt8.true))

pub returns-then-not-chunks : goal.returns-then-not-chunks
unfolding form_chunk aiff common_chunk sound_chunk identifier letters_after size_at
returns-then-not-chunks c = chunks_broken c.args.file.now c.walk-chunks.result c.walk-chunks.ensures c.in_ok-common.ensures.ok_part c.in_ok-body.ensures.ok_part (sym c.is_form.ensures ∙ not-false _ c.if-not-is_form.false-raw) (omega (arith, c.number4_at.ensures, c.if-number4_at-ne-COMMON_SIZE.false)) (omega (arith, c.number4_at-2.ensures, c.if-number4_at-lt8.false)) (not-true _ c.if-not-chunks.true)

pub sound_at-requires : goal.sound_at-requires
unfolding common_chunk sound_chunk identifier letters_after size_at
sound_at-requires c =
    let all = not-false _ c.if-not-chunks.false in
    record {
      common_in_file = common_body c.args.file.now c.walk-chunks.result c.walk-chunks.ensures c.in_ok-common.ensures.ok_part c.in_ok-body.ensures.ok_part (omega (arith, c.number4_at.ensures, c.if-number4_at-ne-COMMON_SIZE.false)) all;
      body_in_file = sound_body c.args.file.now c.walk-chunks.result c.walk-chunks.ensures c.in_ok-common.ensures.ok_part c.in_ok-body.ensures.ok_part (omega (arith, c.number4_at-2.ensures, c.if-number4_at-lt8.false)) all;
    }

pub returns : goal.returns
unfolding form_chunk aiff common_chunk sound_chunk identifier letters_after size_at
returns c =
    c.sound_at.ensures
    ∙ chunks_whole c.args.file.now c.walk-chunks.result c.walk-chunks.ensures c.in_ok-common.ensures.ok_part c.in_ok-body.ensures.ok_part (sym c.is_form.ensures ∙ not-false _ c.if-not-is_form.false-raw) (omega (arith, c.number4_at.ensures, c.if-number4_at-ne-COMMON_SIZE.false))
    (omega (arith, c.number4_at-2.ensures, c.if-number4_at-lt8.false)) (not-false _ c.if-not-chunks.false)
