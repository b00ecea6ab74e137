-- `put_wave` meets its contract. Assumes nothing.
use mathlib.Core.Path.{refl, sym, subst, subst₂}
use Prim.Native.Nat.{ℕ, ◌+◌, ◌*◌, ◌≤◌}
use native.Mathlib.Omega.{arith}
use lib.ListN.{length}
use Rattle.byte_order.specs.declared.bytes.ByteOrder.TheVariants.{Big}
use Rattle.pcm.specs.declared.sample.Encoding.{Encoding}
use Rattle.pcm.specs.Sample.{width}
use Rattle.wave_sound.proofs.laws.Sound.{channels_are, sides_ok, rate_is}
use Rattle.wave_writer.specs.Write.{head_length}
use Rattle.aiff_sound.proofs.laws.Holds.{holds_sixteen}
use Rattle.sound_converter.specs.Convert.{AllWhole, values_of}
use Rattle.sound_converter.proofs.laws.Values.{pcm_whole, pcm_step}
use Rattle.sound_converter.proofs.laws.Convert.{aiff_passed, room_is, wave_made}
use Rattle.sound_converter.proofs.routines.put_wave.Goals as goal

pub values_of-count-requires : goal.values_of-count-requires
values_of-count-requires c =
    let s = c.args.sound in
    (holds_sixteen c.args.aiff.now s c.requires.sound_of_the_file).inside.sides

pub overflow_cast-size : goal.overflow_cast-size
overflow_cast-size c =
    let s = c.args.sound in
    let h = holds_sixteen c.args.aiff.now s c.requires.sound_of_the_file in
    let p = aiff_passed s (length c.args.wave.now) c.requires.not_refused in
    let r = room_is head_length (values_of s * 2) (length c.args.wave.now) p in
    omega (arith, r.0, c.values_of-count.ensures.1)

pub put_head-requires : goal.put_head-requires
put_head-requires c =
    let s = c.args.sound in
    let h = holds_sixteen c.args.aiff.now s c.requires.sound_of_the_file in
    let p = aiff_passed s (length c.args.wave.now) c.requires.not_refused in
    let r = room_is head_length (values_of s * 2) (length c.args.wave.now) p in
    record { room_for_head = omega (arith, r.1); size_fits = omega (arith, r.0, c.values_of-count.ensures.1); rate_in_range = (rate_is c.args.sound.rate h.rated).1; at_most_two_channels = (channels_are c.args.sound.channels (sides_ok c.args.sound.channels h.inside.sides)).1 }

pub copy_values-requires : goal.copy_values-requires
unfolding values_of
copy_values-requires c =
    let s = c.args.sound in
    let h = holds_sixteen c.args.aiff.now s c.requires.sound_of_the_file in
    let p = aiff_passed s (length c.args.wave.now) c.requires.not_refused in
    let r = room_is head_length (values_of s * 2) (length c.args.wave.now) p in
    let e = c.values_of-count.ensures.1 in
    record { values_of_16_bits = subst₂ (λ (x : Encoding) (n : ℕ). AllWhole x Big c.args.aiff.now c.args.sound.start n) (sym h.sixteen) (sym e) (pcm_whole Big c.args.aiff.now c.args.sound.start (values_of s)); values_in_bytes = subst (λ (n : ℕ). c.args.sound.start + n * width c.args.sound.encoding ≤ length c.args.aiff.now) (sym e) h.inside.room; room_for_values = omega (arith, r.1, e, pcm_step head_length c.values_of-count.result) }

pub returns : goal.returns
returns c =
    let s = c.args.sound in
    let h = holds_sixteen c.args.aiff.now s c.requires.sound_of_the_file in
    let p = aiff_passed s (length c.args.wave.now) c.requires.not_refused in
    let r = room_is head_length (values_of s * 2) (length c.args.wave.now) p in
    wave_made s Big c.args.aiff.now h.inside.sides c.args.wave.now p c.values_of-count.ensures.1 refl c.put_head.ensures c.copy_values.ensures
