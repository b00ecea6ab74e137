-- What the AIFF writer writes, the reader reads back to the same samples and rate. Assumes nothing.
use mathlib.Core.Path.{◌≡◌, refl, sym, ap, ◌∙◌}
use mathlib.Core.Bool.{true}
use mathlib.Core.List.{List, ◌++◌}
use Prim.Native.Nat.{ℕ, ◌+◌, ◌*◌, ◌/◌, ◌%◌, ◌≤◌}
use native.Mathlib.Omega.{arith}
use lib.ListN.{length}
use lib.Ieee.{Float}
use Rattle.byte_order.specs.declared.bytes.ByteOrder.TheVariants.{Big}
use Rattle.pcm.specs.declared.sample.Encoding.TheVariants.{Pcm16}
use Rattle.pcm.specs.Sample.{width}
use Rattle.sound_data.specs.Data.{samples_in, data_of, ComesBack}
use Rattle.sound_data.proofs.laws.Back.{data_back}
use Rattle.std.specs.Prelude.{Ok}
use Rattle.wave_sound.specs.Sound.{channels_ok, rate_ok}
use Rattle.wave_sound.proofs.laws.Sound.{one_or_two, rate_is}
use Rattle.wave_reader.specs.Read.{reading, samples_of}
use Rattle.wave_reader.proofs.laws.Read.{read_all}
use Rattle.wave_writer.specs.Write.{data_length, file_most, asked, writing}
use Rattle.wave_writer.proofs.laws.Write.{own_length, size_least, data_even, none_asked, answer_is}
use Rattle.aiff_sound.specs.Sound.{sound_in}
use Rattle.aiff_reader.specs.Read.{read_of}
use Rattle.aiff_reader.proofs.laws.Read.{read_is}
use Rattle.aiff_writer.specs.Write.{head_length, head_of, file_of, write_of}
use Rattle.aiff_writer.proofs.laws.Head.{length_head}
use Rattle.aiff_writer.proofs.laws.Write.{write_is}
use Rattle.aiff.proofs.laws.Head.{head_holds}

-- ---- a file of samples, whose size has 32 bits

module _ (rate channels : ℕ) (samples : List Float) (r : rate_ok rate ≡ true) (c : channels_ok channels ≡ true) (even : length samples % 2 ≡ 0)
    (small : head_length + data_length (length samples) channels Pcm16 ≤ file_most) where
  in_frames : data_length (length samples) channels Pcm16 ≡ length samples / 2 * channels * 2
  unfolding data_length width
  in_frames = refl

  pub file_holds : sound_in (file_of rate channels samples) ≡ Ok (record { rate = rate; channels = channels; encoding = Pcm16; start = head_length; frames = length samples / 2 })
  unfolding file_of
  file_holds =
      head_holds rate channels (length samples / 2) (data_length (length samples) channels Pcm16) (data_of Pcm16 Big channels samples) (own_length Pcm16 Big channels samples) (omega arith)
      (data_even (length samples) channels Pcm16) r (rate_is rate r) c (omega (arith, size_least (length samples) channels Pcm16 c)) in_frames

  pub file_samples : ComesBack Pcm16 channels samples → samples_in Pcm16 Big channels (file_of rate channels samples) head_length (length samples / 2) ≡ samples
  unfolding file_of
  file_samples b =
      let size = data_length (length samples) channels Pcm16 in
      let front = head_of rate channels (length samples / 2) size in
      ap (λ (n : ℕ). samples_in Pcm16 Big channels (front ++ data_of Pcm16 Big channels samples) n (length samples / 2)) (sym (length_head rate channels (length samples / 2) size))
      ∙ data_back Pcm16 Big samples front even channels (one_or_two channels c) b

  halves : (n : ℕ) → n % 2 ≡ 0 → n ≡ n / 2 * 2
  halves n z = omega arith

  file_back : ComesBack Pcm16 channels samples → (there : List Float) (old : ℕ) → length there ≡ length samples → read_of (file_of rate channels samples) there old ≡ reading 0 samples rate
  unfolding samples_of
  file_back b there old l =
      let file = file_of rate channels samples in
      sym (read_is file there old)
      ∙ read_all Big (sound_in file) file (record { rate = rate; channels = channels; encoding = Pcm16; start = head_length; frames = length samples / 2 }) there old file_holds samples (halves (length samples) even) (file_samples b) l

-- THE THEOREM. A file that the writer made reads back to the samples and the rate, in a sample buffer of their length.
pub read_back : (rate channels : ℕ) (samples : List Float) (file written : List ℕ) → write_of rate channels samples file ≡ writing 0 written → ComesBack Pcm16 channels samples
    → (there : List Float) (old : ℕ) → length there ≡ length samples → read_of written there old ≡ reading 0 samples rate
read_back rate channels samples file written e b there old l =
    let a = answer_is (file_of rate channels samples) file (asked head_length rate channels Pcm16 samples (length file)) written (write_is rate channels samples file ∙ e) in
    let w = none_asked head_length rate channels Pcm16 samples (length file) a.0 in
    ap (λ (f : List ℕ). read_of f there old) a.1 ∙ file_back rate channels samples w.rated w.sided w.even w.small b there old l
