-- What the writer writes, the reader reads back to the same samples and rate. Of 16-bit files that holds of neither -0.0 nor 1.0.
-- Assumes nothing.
use mathlib.Core.Path.{◌≡◌, refl, sym, ap, ◌∙◌}
use mathlib.Core.Bool.{Bool, true, false, cond}
use mathlib.Core.List.{List, ◌++◌}
use Prim.Native.Nat.{ℕ, ◌+◌, ◌*◌, ◌/◌, ◌%◌, ◌≤◌}
use native.Mathlib.Nat.{mul_assoc}
use native.Mathlib.Omega.{arith}
use lib.ListN.{length}
use lib.Ieee.{Float}
use Rattle.byte_order.specs.declared.bytes.ByteOrder.TheVariants.{Little}
use Rattle.pcm.specs.declared.sample.Encoding.{Encoding}
use Rattle.pcm.specs.Sample.{width}
use Rattle.sound_data.specs.Data.{samples_in, data_of, ComesBack}
use Rattle.sound_data.proofs.laws.Back.{data_back}
use Rattle.std.specs.Prelude.{Option, Some, None, Ok}
use Rattle.wave_sound.specs.Sound.{channels_ok, rate_ok, sound_in}
use Rattle.wave_sound.proofs.laws.Sound.{one_or_two, rate_is}
use Rattle.wave_reader.specs.Read.{reading, samples_of, read_of}
use Rattle.wave_reader.proofs.laws.Read.{read_all, read_is}
use Rattle.wave_writer.specs.Write.{head_length, head_of, data_length, file_of, file_most, writing, asked, kind_of_bits, write_kind, write_of}
use Rattle.wave_writer.proofs.laws.Head.{length_head}
use Rattle.wave_writer.proofs.laws.Write.{own_length, data_even, none_asked, answer_is}
use Rattle.wave.specs.ReadBack.{ReadsBack}
use Rattle.wave.proofs.laws.Head.{head_holds}

-- ---- a file of samples, whose size has 32 bits

module _ (rate channels : ℕ) (encoding : Encoding) (samples : List Float) (r : rate_ok rate ≡ true) (c : channels_ok channels ≡ true) (even : length samples % 2 ≡ 0)
    (small : head_length + data_length (length samples) channels encoding ≤ file_most) where
  in_frames : data_length (length samples) channels encoding ≡ length samples / 2 * (channels * width encoding)
  unfolding data_length
  in_frames = mul_assoc (length samples / 2) channels (width encoding)

  pub file_holds : sound_in (file_of rate channels encoding samples) ≡ Ok (record { rate = rate; channels = channels; encoding = encoding; start = head_length; frames = length samples / 2 })
  unfolding file_of
  file_holds =
      head_holds rate channels encoding (data_length (length samples) channels encoding) (data_of encoding Little channels samples) (own_length encoding Little channels samples) (omega arith)
      (data_even (length samples) channels encoding) (length samples / 2) (omega (arith, (rate_is rate r).1)) c in_frames

  pub file_samples : ComesBack encoding channels samples → samples_in encoding Little channels (file_of rate channels encoding samples) head_length (length samples / 2) ≡ samples
  unfolding file_of
  file_samples b =
      let size = data_length (length samples) channels encoding in
      let head = head_of rate channels encoding size in
      ap (λ (n : ℕ). samples_in encoding Little channels (head ++ data_of encoding Little channels samples) n (length samples / 2)) (sym (length_head rate channels encoding size))
      ∙ data_back encoding Little samples head even channels (one_or_two channels c) b

  halves : (n : ℕ) → n % 2 ≡ 0 → n ≡ n / 2 * 2
  halves n z = omega arith

  file_back : ComesBack encoding channels samples → (there : List Float) (old : ℕ) → length there ≡ length samples → read_of (file_of rate channels encoding samples) there old ≡ reading 0 samples rate
  unfolding samples_of
  file_back b there old l =
      let file = file_of rate channels encoding samples in
      sym (read_is file there old)
      ∙ read_all Little (sound_in file) file (record { rate = rate; channels = channels; encoding = encoding; start = head_length; frames = length samples / 2 }) there old file_holds samples (halves (length samples) even) (file_samples b) l

-- ---- what an accepted file is

never_zero : (b : Bool) (f g : List ℕ) → writing (cond b 15 4) f ≡ writing 0 g → ⊥
never_zero true f g e = let z : ◌≡◌ {A = ℕ} 15 0 = cc in omega arith
never_zero false f g e = let z : ◌≡◌ {A = ℕ} 4 0 = cc in omega arith

module _ (rate channels : ℕ) (samples : List Float) (file written : List ℕ) where
  abbrev Made : Encoding → Type 0
  Made encoding = (asked head_length rate channels encoding samples (length file) ≡ 0) × (written ≡ file_of rate channels encoding samples)

  by_kind : (kind : Option Encoding) → write_kind kind rate channels samples file ≡ writing 0 written → (encoding : Encoding) × (kind ≡ Some encoding) × Made encoding
  unfolding write_kind
  by_kind (Some encoding) e =
      (encoding, refl, answer_is (file_of rate channels encoding samples) file (asked head_length rate channels encoding samples (length file)) written e)
  by_kind None e = absurd (never_zero (rate_ok rate) file written e)

  accepted : (bits : ℕ) → write_of rate channels bits samples file ≡ writing 0 written → (encoding : Encoding) × (kind_of_bits bits ≡ Some encoding) × Made encoding
  unfolding write_of
  accepted bits e = by_kind (kind_of_bits bits) e

-- THE THEOREM. A file that the writer made reads back to the samples and the rate, in a sample buffer of their length.
pub read_back : (rate channels bits : ℕ) (samples : List Float) (file written : List ℕ) → write_of rate channels bits samples file ≡ writing 0 written → ReadsBack bits channels samples
    → (there : List Float) (old : ℕ) → length there ≡ length samples → read_of written there old ≡ reading 0 samples rate
read_back rate channels bits samples file written e b there old l =
    let a = accepted rate channels samples file written bits e in
    let w = none_asked head_length rate channels a.0 samples (length file) a.2.0 in
    ap (λ (f : List ℕ). read_of f there old) a.2.1
    ∙ file_back rate channels a.0 samples w.rated w.sided w.even w.small (b.by a.0 a.1) there old l
