-- `put_aiff` meets its contract. Assumes nothing.
use mathlib.Core.Path.{refl, sym, subst}
use Prim.Native.Nat.{ℕ, ◌+◌, ◌*◌, ◌≤◌}
use native.Mathlib.Omega.{arith}
use lib.ListN.{length}
use Rattle.byte_order.specs.declared.bytes.ByteOrder.TheVariants.{Little}
use Rattle.pcm.specs.Sample.{width}
use Rattle.wave_sound.proofs.laws.Sound.{rate_is}
use Rattle.aiff_writer.specs.Write.{head_length as aiff_head}
use Rattle.sound_converter.specs.Convert.{AllWhole, values_of}
use Rattle.sound_converter.proofs.laws.Values.{keeps_whole, pcm_step}
use Rattle.sound_converter.proofs.laws.Convert.{wave_passed, room_is, aiff_made}
use Rattle.sound_converter.proofs.routines.put_aiff.Goals as goal

pub overflow_cast-size : goal.overflow_cast-size
overflow_cast-size c =
    let s = c.args.sound in
    let p = wave_passed s c.args.wave.now (length c.args.aiff.now) c.requires.not_refused in
    let r = room_is aiff_head (values_of s * 2) (length c.args.aiff.now) p.2 in
    omega (arith, r.0, c.values_of-count.ensures.1)

pub put_head-requires : goal.put_head-requires
put_head-requires c =
    let s = c.args.sound in
    let p = wave_passed s c.args.wave.now (length c.args.aiff.now) c.requires.not_refused in
    let r = room_is aiff_head (values_of s * 2) (length c.args.aiff.now) p.2 in
    record { room_for_head = omega (arith, r.1); size_fits = omega (arith, r.0, c.values_of-count.ensures.1); rate_in_range = rate_is c.args.sound.rate p.1 }

pub copy_values-requires : goal.copy_values-requires
unfolding values_of
copy_values-requires c =
    let s = c.args.sound in
    let p = wave_passed s c.args.wave.now (length c.args.aiff.now) c.requires.not_refused in
    let r = room_is aiff_head (values_of s * 2) (length c.args.aiff.now) p.2 in
    let e = c.values_of-count.ensures.1 in
    record { values_of_16_bits = subst (λ (n : ℕ). AllWhole c.args.sound.encoding Little c.args.wave.now c.args.sound.start n) (sym e) (keeps_whole Little c.args.wave.now c.args.sound.start (values_of s) c.args.sound.encoding p.0); values_in_bytes = subst (λ (n : ℕ). c.args.sound.start + n * width c.args.sound.encoding ≤ length c.args.wave.now) (sym e) c.requires.sound_in_file.room; room_for_values = omega (arith, r.1, e, pcm_step aiff_head c.values_of-count.result) }

pub returns : goal.returns
returns c =
    let s = c.args.sound in
    let p = wave_passed s c.args.wave.now (length c.args.aiff.now) c.requires.not_refused in
    let r = room_is aiff_head (values_of s * 2) (length c.args.aiff.now) p.2 in
    aiff_made s Little c.args.wave.now c.requires.sound_in_file.sides c.args.aiff.now p.2 c.values_of-count.ensures.1 refl c.put_head.ensures c.copy_values.ensures
