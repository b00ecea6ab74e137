-- A file that was converted holds what the first held, and it is converted back to a file that holds it too. Assumes nothing.
use mathlib.Core.Path.{◌≡◌, refl, sym, ap, ◌∙◌, subst}
use mathlib.Core.Logic.{◌⊎◌}
use mathlib.Core.Bool.{true}
use mathlib.Core.List.{List}
use Prim.Native.Nat.{ℕ, ◌+◌, ◌*◌, ◌/◌, ◌≤◌}
use native.Mathlib.Omega.{arith}
use lib.ListN.{length}
use lib.Ieee.{Float}
use borrow.Author.Tests.{eq-eqb}
use Rattle.byte_order.specs.declared.bytes.ByteOrder.{ByteOrder}
use Rattle.byte_order.specs.declared.bytes.ByteOrder.TheVariants.{Little, Big}
use Rattle.pcm.specs.declared.sample.Encoding.{Encoding}
use Rattle.pcm.specs.declared.sample.Encoding.TheVariants.{Pcm16}
use Rattle.sound_data.specs.Data.{ComesBack}
use Rattle.sound_data.proofs.laws.Values.{samples_come_back}
use Rattle.wave_sound.specs.declared.sound.Sound.{Sound}
use Rattle.wave_sound.specs.declared.refusal.Refusal.{Refusal}
use Rattle.wave_sound.specs.Refusal.{refusal_number}
use Rattle.std.specs.Prelude.{Result, Ok, Err}
use Rattle.wave_sound.specs.Sound.{rate_ok, sound_in}
use Rattle.wave_sound.proofs.laws.Sound.{sides_ok}
use Rattle.wave_sound.proofs.laws.Holds.{holds_inside}
use Rattle.wave_sound.proofs.laws.Refusals.{refusal_counts}
use Rattle.wave_reader.specs.Read.{samples_of}
use Rattle.wave_writer.specs.Write.{head_length, data_length, file_most, file_of, writing}
use Rattle.wave_writer.proofs.laws.Write.{answer_written, answer_is, length_file as length_wave}
use Rattle.wave.proofs.laws.ReadBack.{file_holds, file_samples}
use Rattle.aiff_sound.specs.Sound.{sound_in as aiff_in}
use Rattle.aiff_sound.proofs.laws.Holds.{holds_sixteen}
use Rattle.aiff_writer.specs.Write.{head_length as aiff_head, file_of as aiff_file_of}
use Rattle.aiff_writer.proofs.laws.Write.{length_file as length_aiff}
use Rattle.aiff.proofs.laws.ReadBack.{file_holds as aiff_file_holds, file_samples as aiff_file_samples}
use Rattle.sound_converter.specs.Convert.{AllWhole, values_of, room_ok, asked_of_wave, asked_of_aiff, to_aiff, to_wave, wave_to_aiff, aiff_to_wave}
use Rattle.sound_converter.specs.Contents.{contents, contents_of, wave_contents, aiff_contents, FromWave, FromAiff}
use Rattle.sound_converter.proofs.laws.Values.{value_fits, pcm_whole, keeps_whole, keeps_pcm}
use Rattle.sound_converter.proofs.laws.Convert.{room_within, room_is, asked_wave, wave_passed, asked_aiff, aiff_passed, samples_frames, samples_even, samples_size, aiff_holds, aiff_answer, wave_holds, wave_answer}

-- ---- samples that were read, with a rate in our range, in a file of either form

module _ (s : Sound) (order : ByteOrder) (file : List ℕ) (sides : (s.channels ≡ 1) ⊎ (s.channels ≡ 2)) (rated : rate_ok s.rate ≡ true)
    (whole : AllWhole s.encoding order file s.start (values_of s)) (small : aiff_head + values_of s * 2 ≤ file_most) where
  back : ComesBack Pcm16 s.channels (samples_of order file s)
  unfolding samples_of values_of
  back = samples_come_back s.encoding order file s.start Pcm16 s.frames s.channels sides (λ k h. (value_fits order file s.start s.encoding k, whole.each k h))

  fits_aiff : aiff_head + data_length (length (samples_of order file s)) s.channels Pcm16 ≤ file_most
  fits_aiff = subst (λ (n : ℕ). aiff_head + n ≤ file_most) (sym (samples_size s order file)) small

  fits_wave : head_length + data_length (length (samples_of order file s)) s.channels Pcm16 ≤ file_most
  fits_wave = omega (arith, fits_aiff)

  abbrev aiff_sound : Sound
  aiff_sound = record { rate = s.rate; channels = s.channels; encoding = Pcm16; start = aiff_head; frames = length (samples_of order file s) / 2 }

  abbrev wave_sound : Sound
  wave_sound = record { rate = s.rate; channels = s.channels; encoding = Pcm16; start = head_length; frames = length (samples_of order file s) / 2 }

  in_aiff : aiff_in (aiff_file_of s.rate s.channels (samples_of order file s)) ≡ Ok aiff_sound
  in_aiff = aiff_file_holds s.rate s.channels (samples_of order file s) rated (sides_ok s.channels sides) (samples_even s order file) fits_aiff

  in_wave : sound_in (file_of s.rate s.channels Pcm16 (samples_of order file s)) ≡ Ok wave_sound
  in_wave = file_holds s.rate s.channels Pcm16 (samples_of order file s) rated (sides_ok s.channels sides) (samples_even s order file) fits_wave

  aiff_samples : samples_of Big (aiff_file_of s.rate s.channels (samples_of order file s)) aiff_sound ≡ samples_of order file s
  unfolding samples_of
  aiff_samples = aiff_file_samples s.rate s.channels (samples_of order file s) rated (sides_ok s.channels sides) (samples_even s order file) fits_aiff back

  wave_samples : samples_of Little (file_of s.rate s.channels Pcm16 (samples_of order file s)) wave_sound ≡ samples_of order file s
  unfolding samples_of
  wave_samples = file_samples s.rate s.channels Pcm16 (samples_of order file s) rated (sides_ok s.channels sides) (samples_even s order file) fits_wave back

  aiff_has : aiff_contents (aiff_file_of s.rate s.channels (samples_of order file s)) ≡ contents s.rate s.channels (samples_of order file s)
  unfolding aiff_contents contents_of
  aiff_has = ap (λ (f : Result Sound Refusal). contents_of Big f (aiff_file_of s.rate s.channels (samples_of order file s))) in_aiff ∙ ap (contents s.rate s.channels) aiff_samples

  wave_has : wave_contents (file_of s.rate s.channels Pcm16 (samples_of order file s)) ≡ contents s.rate s.channels (samples_of order file s)
  unfolding wave_contents contents_of
  wave_has = ap (λ (f : Result Sound Refusal). contents_of Little f (file_of s.rate s.channels Pcm16 (samples_of order file s))) in_wave ∙ ap (contents s.rate s.channels) wave_samples

  -- the other converter takes them, into a buffer of the file's length
  same_values : s.frames * s.channels * 2 ≡ length (samples_of order file s) / 2 * s.channels * 2
  same_values = ap (λ (n : ℕ). n * s.channels * 2) (sym (samples_frames s order file))

  aiff_taken : (wave : List ℕ) → length wave ≡ head_length + values_of s * 2
      → aiff_to_wave (aiff_file_of s.rate s.channels (samples_of order file s)) wave ≡ writing 0 (file_of s.rate s.channels Pcm16 (samples_of order file s))
  unfolding values_of
  aiff_taken wave l =
      let aiff = aiff_file_of s.rate s.channels (samples_of order file s) in
      let room : room_ok head_length (values_of aiff_sound * 2) (length wave) ≡ true
      = sym (room_within head_length (values_of aiff_sound * 2) (length wave) (omega (arith, same_values, small)))
      ∙ eq-eqb (length wave) (head_length + values_of aiff_sound * 2) (l ∙ ap (λ (n : ℕ). head_length + n) same_values) in
      sym (wave_holds aiff wave aiff_sound in_aiff)
      ∙ sym (wave_answer aiff wave aiff_sound)
      ∙ sym (answer_written _ wave (asked_of_aiff aiff_sound (length wave)) (sym (asked_aiff aiff_sound (length wave) room)))
      ∙ ap (λ (x : List Float). writing 0 (file_of s.rate s.channels Pcm16 x)) aiff_samples

  wave_taken : (aiff : List ℕ) → length aiff ≡ aiff_head + values_of s * 2
      → wave_to_aiff (file_of s.rate s.channels Pcm16 (samples_of order file s)) aiff ≡ writing 0 (aiff_file_of s.rate s.channels (samples_of order file s))
  unfolding values_of
  wave_taken aiff l =
      let wave = file_of s.rate s.channels Pcm16 (samples_of order file s) in
      let room : room_ok aiff_head (values_of wave_sound * 2) (length aiff) ≡ true
      = sym (room_within aiff_head (values_of wave_sound * 2) (length aiff) (omega (arith, same_values, small)))
      ∙ eq-eqb (length aiff) (aiff_head + values_of wave_sound * 2) (l ∙ ap (λ (n : ℕ). aiff_head + n) same_values) in
      sym (aiff_holds wave aiff wave_sound in_wave)
      ∙ sym (aiff_answer wave aiff wave_sound)
      ∙ sym (answer_written _ aiff (asked_of_wave wave_sound wave (length aiff))
      (sym (asked_wave wave_sound wave (length aiff) (sym (keeps_pcm Little wave head_length (values_of wave_sound) Pcm16 refl)) rated room)))
      ∙ ap (λ (x : List Float). writing 0 (aiff_file_of s.rate s.channels x)) wave_samples

-- ---- the theorem's two halves

number_zero : {n : ℕ} {f g : List ℕ} → writing n f ≡ writing 0 g → n ≡ 0
number_zero e = cc

wave_refused_zero : (r : Refusal) (wave room aiff : List ℕ) → to_aiff (Err r) wave room ≡ writing 0 aiff → refusal_number r ≡ 0
unfolding to_aiff
wave_refused_zero r wave room aiff e = number_zero e

aiff_refused_zero : (r : Refusal) (aiff room wave : List ℕ) → to_wave (Err r) aiff room ≡ writing 0 wave → refusal_number r ≡ 0
unfolding to_wave
aiff_refused_zero r aiff room wave e = number_zero e

module _ (wave room aiff : List ℕ) where
  wave_there : (s : Sound) → sound_in wave ≡ Ok s → to_aiff (Ok s) wave room ≡ writing 0 aiff → FromWave wave aiff
  unfolding wave_contents contents_of
  wave_there s e t =
      let samples = samples_of Little wave s in
      let a = answer_is (aiff_file_of s.rate s.channels samples) room (asked_of_wave s wave (length room)) aiff (aiff_answer wave room s ∙ t) in
      let p = wave_passed s wave (length room) a.0 in
      let i = holds_inside wave s e in
      let r = room_is aiff_head (values_of s * 2) (length room) p.2 in
      let w = keeps_whole Little wave s.start (values_of s) s.encoding p.0 in
      let own : contents s.rate s.channels samples ≡ contents_of Little (sound_in wave) wave = sym (ap (λ (f : Result Sound Refusal). contents_of Little f wave) e) in
      let long : length aiff ≡ aiff_head + values_of s * 2 = ap length a.1 ∙ length_aiff s.rate s.channels samples ∙ ap (λ (n : ℕ). aiff_head + n) (samples_size s Little wave) in
      record {
        there = ap aiff_contents a.1 ∙ aiff_has s Little wave i.sides p.1 w r.0 ∙ own;
        back = λ again l. (
          file_of s.rate s.channels Pcm16 samples,
          ap (λ (x : List ℕ). aiff_to_wave x again) a.1 ∙ aiff_taken s Little wave i.sides p.1 w r.0 again (omega arith),
          wave_has s Little wave i.sides p.1 w r.0 ∙ own,
        );
      }

  by_wave : (f : Result Sound Refusal) → sound_in wave ≡ f → to_aiff f wave room ≡ writing 0 aiff → FromWave wave aiff
  by_wave (Ok s) e t = wave_there s e t
  by_wave (Err r) e t = absurd (refusal_counts r (wave_refused_zero r wave room aiff t))

module _ (aiff room wave : List ℕ) where
  aiff_there : (s : Sound) → aiff_in aiff ≡ Ok s → to_wave (Ok s) aiff room ≡ writing 0 wave → FromAiff aiff wave
  unfolding aiff_contents contents_of
  aiff_there s e t =
      let samples = samples_of Big aiff s in
      let a = answer_is (file_of s.rate s.channels Pcm16 samples) room (asked_of_aiff s (length room)) wave (wave_answer aiff room s ∙ t) in
      let h = holds_sixteen aiff s e in
      let i = h.inside in
      let r = room_is head_length (values_of s * 2) (length room) (aiff_passed s (length room) a.0) in
      let w = subst (λ (x : Encoding). AllWhole x Big aiff s.start (values_of s)) (sym h.sixteen) (pcm_whole Big aiff s.start (values_of s)) in
      let own : contents s.rate s.channels samples ≡ contents_of Big (aiff_in aiff) aiff = sym (ap (λ (f : Result Sound Refusal). contents_of Big f aiff) e) in
      let long : length wave ≡ head_length + values_of s * 2 = ap length a.1 ∙ length_wave s.rate s.channels Pcm16 samples ∙ ap (λ (n : ℕ). head_length + n) (samples_size s Big aiff) in
      record {
        there = ap wave_contents a.1 ∙ wave_has s Big aiff i.sides h.rated w r.0 ∙ own;
        back = λ again l. (
          aiff_file_of s.rate s.channels samples,
          ap (λ (x : List ℕ). wave_to_aiff x again) a.1 ∙ wave_taken s Big aiff i.sides h.rated w r.0 again (omega arith),
          aiff_has s Big aiff i.sides h.rated w r.0 ∙ own,
        );
      }

  by_aiff : (f : Result Sound Refusal) → aiff_in aiff ≡ f → to_wave f aiff room ≡ writing 0 wave → FromAiff aiff wave
  by_aiff (Ok s) e t = aiff_there s e t
  by_aiff (Err r) e t = absurd (refusal_counts r (aiff_refused_zero r aiff room wave t))

-- THE THEOREM. From either side: a conversion that is accepted keeps rate, channels and samples, and so does the way back, which is accepted too.
pub there_and_back : ((wave room aiff : List ℕ) → wave_to_aiff wave room ≡ writing 0 aiff → FromWave wave aiff) × ((aiff room wave : List ℕ) → aiff_to_wave aiff room ≡ writing 0 wave → FromAiff aiff wave)
unfolding wave_to_aiff aiff_to_wave
there_and_back = (λ wave room aiff t. by_wave wave room aiff (sound_in wave) refl t, λ aiff room wave t. by_aiff aiff room wave (aiff_in aiff) refl t)
