-- What the AIFF writer answers, and the file that it leaves. Assumes nothing.
use mathlib.Core.Path.{◌≡◌, refl, sym, ap, ap₂, ◌∙◌, subst₂}
use mathlib.Core.List.{List}
use Prim.Native.Nat.{ℕ, ◌+◌, ◌*◌, ◌/◌, ◌≤◌}
use native.Mathlib.Omega.{arith}
use lib.ListN.{length, length-append}
use lib.Ieee.{Float}
use Rattle.laws.specs.Pieces.{put_at}
use Rattle.byte_order.specs.declared.bytes.ByteOrder.TheVariants.{Big}
use Rattle.byte_order.proofs.laws.Fields.{put_both}
use Rattle.pcm.specs.declared.sample.Encoding.TheVariants.{Pcm16}
use Rattle.pcm.specs.Sample.{width}
use Rattle.sound_data.specs.Data.{data_of}
use Rattle.wave_writer.specs.Write.{data_length, asked, answered}
use Rattle.wave_writer.proofs.laws.Write.{Writable, own_length}
use Rattle.aiff_writer.specs.Write.{head_length, head_of, file_of, write_of}
use Rattle.aiff_writer.proofs.laws.Head.{length_head}

pub length_file : (rate channels : ℕ) (samples : List Float) → length (file_of rate channels samples) ≡ head_length + data_length (length samples) channels Pcm16
unfolding file_of
length_file rate channels samples =
    let frames = length samples / 2 in
    let size = data_length (length samples) channels Pcm16 in
    length-append (head_of rate channels frames size) (data_of Pcm16 Big channels samples)
    ∙ ap₂ ◌+◌ (length_head rate channels frames size) (own_length Pcm16 Big channels samples)

module _ (rate channels : ℕ) (samples : List Float) (file : List ℕ) where
  module _ (w : Writable head_length rate channels Pcm16 samples (length file)) where
    pub file_written : {frames size : ℕ} {n m : List ℕ} → frames ≡ length samples / 2 → size ≡ data_length (length samples) channels Pcm16
        → n ≡ put_at 0 (head_of rate channels frames size) file → m ≡ put_at head_length (data_of Pcm16 Big channels samples) n → m ≡ file_of rate channels samples
    unfolding file_of
    file_written {n = n} y z e f =
        let frames = length samples / 2 in
        let size = data_length (length samples) channels Pcm16 in
        put_both (head_of rate channels frames size) (data_of Pcm16 Big channels samples) file head_length (length_head rate channels frames size)
        (w.roomy ∙ ap (λ (x : ℕ). head_length + x) (sym (own_length Pcm16 Big channels samples)))
        (subst₂ (λ (x v : ℕ). n ≡ put_at 0 (head_of rate channels x v) file) y z e) f

    pub data_room : head_length + length samples / 2 * channels * width Pcm16 ≤ length file
    unfolding data_length
    data_room = omega (arith, w.roomy)

  pub write_is : answered (asked head_length rate channels Pcm16 samples (length file)) (file_of rate channels samples) file ≡ write_of rate channels samples file
  unfolding write_of
  write_is = refl
