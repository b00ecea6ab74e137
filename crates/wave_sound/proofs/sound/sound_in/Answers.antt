-- `sound_in` meets its contract. Assumes nothing.
use native.Mathlib.Omega.{arith}
use mathlib.Core.Path.{sym, ◌∙◌}
use borrow.Author.Tests.{not-true, not-false}
use Rattle.iff_chunks.specs.Chunks.{identifier, letters_after, size_at}
use Rattle.iff_chunks.proofs.laws.Inside.{first_header, second_body}
use Rattle.byte_order.specs.declared.bytes.ByteOrder.TheVariants.{Little}
use Rattle.wave_sound.specs.declared.refusal.Refusal.TheVariants.{NoWave}
use Rattle.wave_sound.specs.Sound.{riff, wave, format_chunk, data_chunk}
use Rattle.wave_sound.proofs.laws.Sound.{none_refused, not_wave, no_format_chunk, no_data_chunk, other_format, format_body, chunks_broken, chunks_whole}
use Rattle.wave_sound.proofs.sound.sound_in.Goals as goal

pub returns-then-not-is_form : goal.returns-then-not-is_form
unfolding riff wave format_chunk data_chunk identifier letters_after
returns-then-not-is_form c = not_wave c.args.file.now (sym c.is_form.ensures ∙ not-true _ c.if-not-is_form.true-raw)

pub returns-in_err-format : goal.returns-in_err-format
unfolding riff wave format_chunk data_chunk identifier letters_after
returns-in_err-format c =
    let p = none_refused c.walk-chunks.result.first NoWave c.in_err-format.field-0.0 c.from_residual.result c.in_err-format.ensures.value c.from_residual.ensures.1 in
    p.1 ∙ no_format_chunk c.args.file.now c.walk-chunks.result c.walk-chunks.ensures (sym c.is_form.ensures ∙ not-false _ c.if-not-is_form.false-raw) p.0

pub returns-in_err-body : goal.returns-in_err-body
unfolding riff wave format_chunk data_chunk identifier letters_after
returns-in_err-body c =
    let p = none_refused c.walk-chunks.result.second NoWave c.in_err-body.field-0.0 c.from_residual-in_err-body.result c.in_err-body.ensures.value c.from_residual-in_err-body.ensures.1 in
    p.1 ∙ no_data_chunk c.args.file.now c.walk-chunks.result c.walk-chunks.ensures (sym c.is_form.ensures ∙ not-false _ c.if-not-is_form.false-raw) p.0

pub overflow_add-format : goal.overflow_add-format
unfolding format_chunk data_chunk identifier letters_after
overflow_add-format c = omega (arith, first_header Little format_chunk data_chunk c.args.file.now c.walk-chunks.result c.walk-chunks.ensures c.in_ok-format.ensures.ok_part)

pub number4_at-requires : goal.number4_at-requires
unfolding format_chunk data_chunk identifier letters_after
number4_at-requires c = omega (arith, first_header Little format_chunk data_chunk c.args.file.now c.walk-chunks.result c.walk-chunks.ensures c.in_ok-format.ensures.ok_part)

pub returns-then-number4_at-ne-FORMAT_SIZE : goal.returns-then-number4_at-ne-FORMAT_SIZE
unfolding riff wave format_chunk data_chunk identifier letters_after size_at
returns-then-number4_at-ne-FORMAT_SIZE c = other_format c.args.file.now c.walk-chunks.result c.walk-chunks.ensures (sym c.is_form.ensures ∙ not-false _ c.if-not-is_form.false-raw) c.in_ok-format.ensures.ok_part c.in_ok-body.ensures.ok_part (λ e. absurd (omega (arith, e, c.number4_at.ensures, c.if-number4_at-ne-FORMAT_SIZE.true)))

pub returns-then-not-chunks : goal.returns-then-not-chunks
unfolding riff wave format_chunk data_chunk identifier letters_after size_at
returns-then-not-chunks c = chunks_broken c.args.file.now c.walk-chunks.result c.walk-chunks.ensures (sym c.is_form.ensures ∙ not-false _ c.if-not-is_form.false-raw) c.in_ok-format.ensures.ok_part c.in_ok-body.ensures.ok_part (omega (arith, c.number4_at.ensures, c.if-number4_at-ne-FORMAT_SIZE.false)) (not-true _ c.if-not-chunks.true)

pub sound_at-requires : goal.sound_at-requires
unfolding format_chunk data_chunk identifier letters_after size_at
sound_at-requires c =
    let all = not-false _ c.if-not-chunks.false in
    record {
      format_in_file = format_body c.args.file.now c.walk-chunks.result c.walk-chunks.ensures c.in_ok-format.ensures.ok_part (omega (arith, c.number4_at.ensures, c.if-number4_at-ne-FORMAT_SIZE.false)) all;
      body_in_file = omega (arith, second_body Little format_chunk data_chunk c.args.file.now c.walk-chunks.result c.walk-chunks.ensures c.in_ok-body.ensures.ok_part all);
    }

pub returns : goal.returns
unfolding riff wave format_chunk data_chunk identifier letters_after size_at
returns c =
    c.sound_at.ensures
    ∙ chunks_whole c.args.file.now c.walk-chunks.result c.walk-chunks.ensures (sym c.is_form.ensures ∙ not-false _ c.if-not-is_form.false-raw) c.in_ok-format.ensures.ok_part c.in_ok-body.ensures.ok_part
    (omega (arith, c.number4_at.ensures, c.if-number4_at-ne-FORMAT_SIZE.false)) (not-false _ c.if-not-chunks.false)
