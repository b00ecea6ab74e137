-- What the converters ask, and the file that they leave. Assumes nothing.
use mathlib.Core.Path.{◌≡◌, refl, sym, ap, ap₂, ◌∙◌}
use mathlib.Core.Logic.{◌⊎◌}
use mathlib.Core.Bool.{Bool, true, false, cond, ◌&&◌}
use mathlib.Core.List.{List}
use Prim.Native.Nat.{ℕ, ◌+◌, ◌*◌, ◌/◌, ◌%◌, ◌≤◌, ◌<◌}
use native.Mathlib.Omega.{arith}
use lib.Dec.{eqb, leb}
use lib.ListN.{length}
use borrow.Author.Tests.{eqb-true, le-leb, lt-leb, leb-true}
use Rattle.laws.specs.Pieces.{pieces, put_at}
use Rattle.byte_order.specs.declared.bytes.ByteOrder.{ByteOrder}
use Rattle.byte_order.specs.declared.bytes.ByteOrder.TheVariants.{Little, Big}
use Rattle.byte_order.proofs.laws.Fields.{put_both}
use Rattle.pcm.specs.declared.sample.Encoding.TheVariants.{Pcm16}
use Rattle.pcm.specs.Sample.{width}
use Rattle.sound_data.specs.Data.{data_of}
use Rattle.sound_data.proofs.laws.Values.{length_samples, data_of_samples}
use Rattle.wave_sound.specs.declared.sound.Sound.{Sound}
use Rattle.wave_sound.specs.declared.refusal.Refusal.{Refusal}
use Rattle.wave_sound.specs.Refusal.{refusal_number}
use Rattle.std.specs.Prelude.{Result, Ok, Err}
use Rattle.wave_sound.specs.Sound.{rate_ok, sound_in}
use Rattle.wave_sound.proofs.laws.Sound.{both}
use Rattle.wave_reader.specs.Read.{samples_of}
use Rattle.wave_writer.specs.Write.{head_length, head_of, data_length, file_most, file_of, writing, answered}
use Rattle.wave_writer.proofs.laws.Head.{length_head}
use Rattle.wave_writer.proofs.laws.Write.{own_length, picked}
use Rattle.aiff_sound.specs.Sound.{sound_in as aiff_in}
use Rattle.aiff_writer.specs.Write.{head_length as aiff_head, head_of as aiff_head_of, file_of as aiff_file_of}
use Rattle.aiff_writer.proofs.laws.Head.{length_head as length_aiff_head}
use Rattle.sound_converter.specs.Convert.{values_of, value_as16, keeps16, room_ok, asked_of_wave, asked_of_aiff, to_aiff, to_wave, wave_to_aiff, aiff_to_wave}

-- ---- 10

module _ (head size room : ℕ) where
  pub room_above : file_most < aiff_head + size → false ≡ room_ok head size room
  unfolding room_ok
  room_above h = sym (ap (λ (t : Bool). t && eqb room (head + size)) (lt-leb (aiff_head + size) file_most h))

  pub room_within : aiff_head + size ≤ file_most → eqb room (head + size) ≡ room_ok head size room
  unfolding room_ok
  room_within h = sym (ap (λ (t : Bool). t && eqb room (head + size)) (le-leb (aiff_head + size) file_most h))

  pub room_is : room_ok head size room ≡ true → (aiff_head + size ≤ file_most) × (room ≡ head + size)
  unfolding room_ok
  room_is e =
      let p = both (leb (aiff_head + size) file_most) (eqb room (head + size)) e in
      (leb-true (aiff_head + size) file_most p.0, eqb-true room (head + size) p.1)

-- ---- 17, 18 and 10

module _ (s : Sound) (wave : List ℕ) (room : ℕ) where
  abbrev asked_by : Bool → Bool → Bool → ℕ
  asked_by p q r = cond p (cond q (cond r 0 10) 18) 17

  pub asked_wave : {p q r : Bool} → keeps16 s.encoding Little wave s.start (values_of s) ≡ p → rate_ok s.rate ≡ q → room_ok aiff_head (values_of s * 2) room ≡ r
      → asked_by p q r ≡ asked_of_wave s wave room
  unfolding asked_of_wave
  asked_wave a b c = cc

  -- the premises, of a count that was answered
  pub keeps_told : {count : ℕ} {k b : Bool} → count ≡ values_of s → k ≡ keeps16 s.encoding Little wave s.start count → k ≡ b → keeps16 s.encoding Little wave s.start (values_of s) ≡ b
  keeps_told e p q = ap (λ (n : ℕ). keeps16 s.encoding Little wave s.start n) (sym e) ∙ sym p ∙ q

  pub room_told : {count : ℕ} {k b : Bool} → count ≡ values_of s → k ≡ room_ok aiff_head (count * 2) room → k ≡ b → room_ok aiff_head (values_of s * 2) room ≡ b
  room_told e p q = ap (λ (n : ℕ). room_ok aiff_head (n * 2) room) (sym e) ∙ sym p ∙ q

  pub wave_passed : asked_of_wave s wave room ≡ 0
      → (keeps16 s.encoding Little wave s.start (values_of s) ≡ true) × (rate_ok s.rate ≡ true) × (room_ok aiff_head (values_of s * 2) room ≡ true)
  unfolding asked_of_wave
  wave_passed e =
      let p = picked (keeps16 s.encoding Little wave s.start (values_of s)) _ 17 (λ z. omega arith) e in
      let q = picked (rate_ok s.rate) _ 18 (λ z. omega arith) p.1 in
      let r = picked (room_ok aiff_head (values_of s * 2) room) 0 10 (λ z. omega arith) q.1 in
      (p.0, q.0, r.0)

module _ (s : Sound) (room : ℕ) where
  pub asked_aiff : {r : Bool} → room_ok head_length (values_of s * 2) room ≡ r → cond r 0 10 ≡ asked_of_aiff s room
  unfolding asked_of_aiff
  asked_aiff c = cc

  pub aiff_passed : asked_of_aiff s room ≡ 0 → room_ok head_length (values_of s * 2) room ≡ true
  unfolding asked_of_aiff
  aiff_passed e = (picked (room_ok head_length (values_of s * 2) room) 0 10 (λ z. omega arith) e).0

-- ---- the samples that are read, and their data

module _ (s : Sound) (order : ByteOrder) (file : List ℕ) where
  pub samples_length : length (samples_of order file s) ≡ s.frames * 2
  unfolding samples_of
  samples_length = length_samples s.encoding order file s.start s.channels s.frames

  pub samples_frames : length (samples_of order file s) / 2 ≡ s.frames
  samples_frames = half (length (samples_of order file s)) s.frames samples_length
    where
      half : (n f : ℕ) → n ≡ f * 2 → n / 2 ≡ f
      half n f e = omega arith

  pub samples_even : length (samples_of order file s) % 2 ≡ 0
  samples_even = even (length (samples_of order file s)) s.frames samples_length
    where
      even : (n f : ℕ) → n ≡ f * 2 → n % 2 ≡ 0
      even n f e = omega arith

  pub samples_size : data_length (length (samples_of order file s)) s.channels Pcm16 ≡ values_of s * 2
  unfolding data_length width values_of
  samples_size = ap (λ (n : ℕ). n * s.channels * 2) samples_frames

  module _ (sides : (s.channels ≡ 1) ⊎ (s.channels ≡ 2)) where
    samples_data : (into : ByteOrder) → data_of Pcm16 into s.channels (samples_of order file s) ≡ pieces (value_as16 s.encoding order file s.start into) (values_of s)
    unfolding samples_of value_as16 values_of
    samples_data into = data_of_samples s.encoding order file s.start Pcm16 into s.channels s.frames sides

    -- the file, as it is put together
    pub aiff_made : (aiff : List ℕ) {count size : ℕ} {n m : List ℕ} → room_ok aiff_head (values_of s * 2) (length aiff) ≡ true → count ≡ values_of s → size ≡ count * 2
        → n ≡ put_at 0 (aiff_head_of s.rate s.channels s.frames size) aiff → m ≡ put_at aiff_head (pieces (value_as16 s.encoding order file s.start Big) count) n
        → m ≡ aiff_file_of s.rate s.channels (samples_of order file s)
    unfolding aiff_file_of
    aiff_made aiff {count} {size} {n} {m} r c z e f =
        let samples = samples_of order file s in
        let head = aiff_head_of s.rate s.channels (length samples / 2) (data_length (length samples) s.channels Pcm16) in
        let own = own_length Pcm16 Big s.channels samples in
        put_both head (data_of Pcm16 Big s.channels samples) aiff aiff_head (length_aiff_head _ _ _ _)
        ((room_is aiff_head (values_of s * 2) (length aiff) r).1 ∙ ap (λ (x : ℕ). aiff_head + x) (sym (own ∙ samples_size)))
        (e ∙ ap₂ (λ (x y : ℕ). put_at 0 (aiff_head_of s.rate s.channels x y) aiff) (sym samples_frames) (z ∙ ap (λ (x : ℕ). x * 2) c ∙ sym samples_size))
        (f ∙ ap (λ (x : List ℕ). put_at aiff_head x n) (ap (pieces (value_as16 s.encoding order file s.start Big)) c ∙ sym (samples_data Big)))

    pub wave_made : (wave : List ℕ) {count size : ℕ} {n m : List ℕ} → room_ok head_length (values_of s * 2) (length wave) ≡ true → count ≡ values_of s → size ≡ count * 2
        → n ≡ put_at 0 (head_of s.rate s.channels Pcm16 size) wave → m ≡ put_at head_length (pieces (value_as16 s.encoding order file s.start Little) count) n
        → m ≡ file_of s.rate s.channels Pcm16 (samples_of order file s)
    unfolding file_of
    wave_made wave {count} {size} {n} {m} r c z e f =
        let samples = samples_of order file s in
        let head = head_of s.rate s.channels Pcm16 (data_length (length samples) s.channels Pcm16) in
        let own = own_length Pcm16 Little s.channels samples in
        put_both head (data_of Pcm16 Little s.channels samples) wave head_length (length_head _ _ _ _)
        ((room_is head_length (values_of s * 2) (length wave) r).1 ∙ ap (λ (x : ℕ). head_length + x) (sym (own ∙ samples_size)))
        (e ∙ ap (λ (y : ℕ). put_at 0 (head_of s.rate s.channels Pcm16 y) wave) (z ∙ ap (λ (x : ℕ). x * 2) c ∙ sym samples_size))
        (f ∙ ap (λ (x : List ℕ). put_at head_length x n) (ap (pieces (value_as16 s.encoding order file s.start Little)) c ∙ sym (samples_data Little)))

-- ---- the answers

module _ (wave aiff : List ℕ) where
  pub aiff_holds : (s : Sound) → sound_in wave ≡ Ok s → to_aiff (Ok s) wave aiff ≡ wave_to_aiff wave aiff
  unfolding wave_to_aiff
  aiff_holds s e = sym (ap (λ (f : Result Sound Refusal). to_aiff f wave aiff) e)

  pub aiff_refused : (r : Refusal) → sound_in wave ≡ Err r → writing (refusal_number r) aiff ≡ wave_to_aiff wave aiff
  unfolding wave_to_aiff to_aiff
  aiff_refused r e = sym (ap (λ (f : Result Sound Refusal). to_aiff f wave aiff) e)

  pub aiff_answer : (s : Sound) → answered (asked_of_wave s wave (length aiff)) (aiff_file_of s.rate s.channels (samples_of Little wave s)) aiff ≡ to_aiff (Ok s) wave aiff
  unfolding to_aiff
  aiff_answer s = refl

module _ (aiff wave : List ℕ) where
  pub wave_holds : (s : Sound) → aiff_in aiff ≡ Ok s → to_wave (Ok s) aiff wave ≡ aiff_to_wave aiff wave
  unfolding aiff_to_wave
  wave_holds s e = sym (ap (λ (f : Result Sound Refusal). to_wave f aiff wave) e)

  pub wave_refused : (r : Refusal) → aiff_in aiff ≡ Err r → writing (refusal_number r) wave ≡ aiff_to_wave aiff wave
  unfolding aiff_to_wave to_wave
  wave_refused r e = sym (ap (λ (f : Result Sound Refusal). to_wave f aiff wave) e)

  pub wave_answer : (s : Sound) → answered (asked_of_aiff s (length wave)) (file_of s.rate s.channels Pcm16 (samples_of Big aiff s)) wave ≡ to_wave (Ok s) aiff wave
  unfolding to_wave
  wave_answer s = refl
