-- What a file holds, by the answers to each question in turn. Assumes nothing.
use mathlib.Core.Path.{◌≡◌, refl, sym, ap, ap₂, ◌∙◌, subst}
use mathlib.Core.Logic.{◌⊎◌, inl, inr}
use mathlib.Core.Bool.{Bool, true, false, ◌&&◌, true≢false}
use mathlib.Core.List.{List}
use Prim.Native.Nat.{ℕ, zero, suc, ◌+◌, ◌*◌, ◌/◌, ◌%◌, ◌≤◌, ◌<◌}
use native.Mathlib.Nat.{one-mul}
use native.Mathlib.Omega.{arith}
use lib.Dec.{eqb, leb}
use lib.ListN.{length}
use Rattle.std.specs.Prelude.{Option, Some, None, Result, Ok, Err, IsErrAnd}
use Rattle.std.specs.Option.{ok_or}
use Rattle.std.proofs.lemmas.Result.{err_from_is_err_and}
use borrow.Author.Tests.{eq-eqb, ne_eqb, eqb-true, leb-true}
use Rattle.laws.proofs.laws.Choice.{cond-true, cond-false}
use Rattle.byte_order.specs.declared.bytes.ByteOrder.TheVariants.{Little}
use Rattle.iff_chunks.specs.declared.form.Chunks.{Chunks}
use Rattle.byte_order.specs.Bytes.{number_at}
use Rattle.iff_chunks.specs.Chunks.{size_at, is_form, walk_of}
use Rattle.iff_chunks.proofs.laws.Inside.{first_body}
use Rattle.pcm.specs.declared.sample.Encoding.{Encoding}
use Rattle.pcm.specs.declared.sample.Encoding.TheVariants.{Pcm16, Float32}
use Rattle.pcm.specs.Sample.{width}
use Rattle.wave_sound.specs.declared.sound.Sound.{Sound}
use Rattle.wave_sound.specs.declared.refusal.Refusal.{Refusal}
use Rattle.wave_sound.specs.declared.refusal.Refusal.TheVariants.{NoWave, Broken, OtherKind}
use Rattle.wave_sound.specs.Sound.{riff, wave, format_chunk, data_chunk, channels_ok, rate_ok, kind_of, sound_of, has_chunks, place_of, sound_kind, sound_at, sound_among, sound_in}

-- both of two tests
pub both : (p q : Bool) → p && q ≡ true → (p ≡ true) × (q ≡ true)
both true true e = (refl, refl)
both true false e = absurd (true≢false (sym e))
both false q e = absurd (true≢false (sym e))

-- what a `?` on a missing value leaves
pub none_refused : {A : Type 0} (value : Option A) (refusal y : Refusal) (r : Result Sound Refusal) → ◌≡◌ {A = Result A Refusal} (Err y) (ok_or value refusal) → IsErrAnd r (λ z. z ≡ y) → (value ≡ None) × (r ≡ Err refusal)
none_refused None refusal y r v h =
    let p = err_from_is_err_and r h in
    let e : y ≡ refusal = cc in
    (refl, p.1 ∙ ap Err (p.2 ∙ e))
none_refused {A = A} (Some x) refusal y r v h = absurd (let z : ◌≡◌ {A = ℕ} 0 1 = cc in omega arith)

-- ---- channels

module _ (channels : ℕ) where
  pub channels_are : channels_ok channels ≡ true → (1 ≤ channels) × (channels ≤ 2)
  unfolding channels_ok
  channels_are e =
      let p = both (leb 1 channels) (leb channels 2) e in
      (leb-true 1 channels p.0, leb-true channels 2 p.1)

  pub one_or_two : channels_ok channels ≡ true → (channels ≡ 1) ⊎ (channels ≡ 2)
  one_or_two e = go channels (channels_are e).0 (channels_are e).1
    where
      go : (n : ℕ) → 1 ≤ n → n ≤ 2 → (n ≡ 1) ⊎ (n ≡ 2)
      go zero h k = absurd (omega arith)
      go (suc zero) h k = inl refl
      go (suc (suc zero)) h k = inr refl
      go (suc (suc (suc n))) h k = absurd (omega arith)

  pub sides_ok : (channels ≡ 1) ⊎ (channels ≡ 2) → channels_ok channels ≡ true
  unfolding channels_ok
  sides_ok (inl e) = ap channels_ok e
  sides_ok (inr e) = ap channels_ok e

-- ---- the rate

module _ (rate : ℕ) where
  pub rate_is : rate_ok rate ≡ true → (8000 ≤ rate) × (rate ≤ 192000)
  unfolding rate_ok
  rate_is e =
      let p = both (leb 8000 rate) (leb rate 192000) e in
      (leb-true 8000 rate p.0, leb-true rate 192000 p.1)

-- ---- a frame's bytes

pub width_pos : (encoding : Encoding) → (1 ≤ width encoding) × (width encoding ≤ 4)
unfolding width
width_pos Pcm16 = (omega arith, omega arith)
width_pos Float32 = (omega arith, omega arith)

-- ---- the data

module _ (encoding : Encoding) (channels rate start size : ℕ) where
  pub sound_no_channels : channels_ok channels ≡ false → Err OtherKind ≡ sound_of encoding channels rate start size
  unfolding sound_of
  sound_no_channels e = sym (cond-false (channels_ok channels) _ (Err OtherKind) e)

  pub sound_broken : channels_ok channels ≡ true → (size % (channels * width encoding) ≡ 0 → ⊥) → Err Broken ≡ sound_of encoding channels rate start size
  unfolding sound_of
  sound_broken e n = sym (cond-true (channels_ok channels) _ (Err OtherKind) e ∙ cond-false (eqb (size % (channels * width encoding)) 0) _ (Err Broken) (ne_eqb _ 0 n))

  pub sound_whole : (w : ℕ) → w ≡ width encoding → channels_ok channels ≡ true → size % (channels * w) ≡ 0
      → Ok (record { rate = rate; channels = channels; encoding = encoding; start = start; frames = size / (channels * w) }) ≡ sound_of encoding channels rate start size
  unfolding sound_of
  sound_whole w e =
      subst (λ (v : ℕ). channels_ok channels ≡ true → size % (channels * v) ≡ 0
      → Ok (record { rate = rate; channels = channels; encoding = encoding; start = start; frames = size / (channels * v) }) ≡ sound_of encoding channels rate start size) (sym e)
      (λ c z. sym (cond-true (channels_ok channels) _ (Err OtherKind) c ∙ cond-true (eqb (size % (channels * width encoding)) 0) _ (Err Broken) (eq-eqb _ 0 z)))

-- ---- the chunks

-- what it says of the places
pub chunks_are : (file : List ℕ) (first second : Option ℕ) → has_chunks file first second ≡ true
    → (format : ℕ) × (body : ℕ) × (first ≡ Some format) × (second ≡ Some body) × (size_at Little file format ≡ 16)
unfolding has_chunks
chunks_are file None second e = absurd (true≢false (sym e))
chunks_are file (Some format) None e = absurd (true≢false (sym e))
chunks_are file (Some format) (Some body) e = (format, body, refl, refl, eqb-true (size_at Little file format) 16 e)

no_body : (file : List ℕ) (first : Option ℕ) → has_chunks file first None ≡ false
unfolding has_chunks
no_body file None = refl
no_body file (Some format) = refl

pub frame_small : (channels w : ℕ) → (1 ≤ channels) × (channels ≤ 2) → (1 ≤ w) × (w ≤ 4) → (0 < channels * w) × (channels * w ≤ 8)
frame_small zero w c h = absurd (omega (arith, c.0))
frame_small (suc zero) w c h = (omega (arith, one-mul w, h.0), omega (arith, one-mul w, h.1))
frame_small (suc (suc zero)) w c h = (omega (arith, h.0), omega (arith, h.1))
frame_small (suc (suc (suc n))) w c h = absurd (omega (arith, c.1))

-- ---- the format chunk's fields

module _ (file : List ℕ) (format body : ℕ) where
  pub at_known : (encoding : Encoding) → kind_of (number_at Little file (format + 8) 2) (number_at Little file (format + 22) 2) ≡ Some encoding
      → sound_at file format body ≡ sound_of encoding (number_at Little file (format + 10) 2) (number_at Little file (format + 12) 4) (body + 8) (number_at Little file (body + 4) 4)
  unfolding sound_at sound_kind size_at
  at_known encoding e =
      ap (λ (k : Option Encoding). sound_kind k (number_at Little file (format + 10) 2) (number_at Little file (format + 12) 4) (body + 8) (number_at Little file (body + 4) 4)) e

  pub at_other : kind_of (number_at Little file (format + 8) 2) (number_at Little file (format + 22) 2) ≡ None → sound_at file format body ≡ Err OtherKind
  unfolding sound_at sound_kind size_at
  at_other e =
      ap (λ (k : Option Encoding). sound_kind k (number_at Little file (format + 10) 2) (number_at Little file (format + 12) 4) (body + 8) (number_at Little file (body + 4) 4)) e

  -- the same of numbers that were read
  pub known_read : {tag channels rate bits size : ℕ} {kind : Option Encoding} {encoding : Encoding} {found : Result Sound Refusal} → tag ≡ number_at Little file (format + 8) 2 → channels ≡ number_at Little file (format + 10) 2
      → rate ≡ number_at Little file (format + 12) 4 → bits ≡ number_at Little file (format + 22) 2 → size ≡ number_at Little file (body + 4) 4 → kind ≡ kind_of tag bits → kind ≡ Some encoding
      → found ≡ sound_of encoding channels rate (body + 8) size → found ≡ sound_at file format body
  known_read {encoding = encoding} t c r b s k e h = cc (at_known encoding (cc))

  pub other_read : {tag bits : ℕ} {kind : Option Encoding} → tag ≡ number_at Little file (format + 8) 2 → bits ≡ number_at Little file (format + 22) 2 → kind ≡ kind_of tag bits → kind ≡ None → Err OtherKind ≡ sound_at file format body
  other_read t b k e = cc (at_other (cc))

-- ---- the whole file, by what the walk found

module _ (file : List ℕ) where
  pub not_wave : is_form file riff wave ≡ false → Err NoWave ≡ sound_in file
  unfolding sound_in
  not_wave e = sym (cond-false (is_form file riff wave) _ (Err NoWave) e)

  module _ (chunks : Chunks) (walked : chunks ≡ walk_of Little format_chunk data_chunk file) where
    -- the whole chunks of a file that has them
    pub format_body : {format : ℕ} → chunks.first ≡ Some format → size_at Little file format ≡ 16 → chunks.whole ≡ true → format + 24 ≤ length file
    format_body f e w = omega (arith, first_body Little format_chunk data_chunk file chunks walked f w, e)

    module _ (is : is_form file riff wave ≡ true) where
      among : sound_among file chunks ≡ sound_in file
      unfolding sound_in
      among = ap (sound_among file) walked ∙ sym (cond-true (is_form file riff wave) _ (Err NoWave) is)

      missing : has_chunks file chunks.first chunks.second ≡ false → Err NoWave ≡ sound_in file
      unfolding sound_among
      missing n = sym (cond-false (has_chunks file chunks.first chunks.second) _ (Err NoWave) n) ∙ among

      pub no_format_chunk : chunks.first ≡ None → Err NoWave ≡ sound_in file
      unfolding has_chunks
      no_format_chunk e = missing (ap (λ (x : Option ℕ). has_chunks file x chunks.second) e)

      pub no_data_chunk : chunks.second ≡ None → Err NoWave ≡ sound_in file
      no_data_chunk e = missing (ap (has_chunks file chunks.first) e ∙ no_body file chunks.first)

      module _ {format body : ℕ} (f : chunks.first ≡ Some format) (b : chunks.second ≡ Some body) where
        both_there : has_chunks file chunks.first chunks.second ≡ eqb (size_at Little file format) 16
        unfolding has_chunks
        both_there = ap₂ (has_chunks file) f b

        pub other_format : (size_at Little file format ≡ 16 → ⊥) → Err NoWave ≡ sound_in file
        other_format n = missing (both_there ∙ ne_eqb (size_at Little file format) 16 n)

        module _ (e : size_at Little file format ≡ 16) where
          has : has_chunks file chunks.first chunks.second ≡ true
          has = both_there ∙ eq-eqb (size_at Little file format) 16 e

          pub chunks_broken : chunks.whole ≡ false → Err Broken ≡ sound_in file
          unfolding sound_among
          chunks_broken n = sym (cond-true (has_chunks file chunks.first chunks.second) _ (Err NoWave) has ∙ cond-false chunks.whole _ (Err Broken) n) ∙ among

          pub chunks_whole : chunks.whole ≡ true → sound_at file format body ≡ sound_in file
          unfolding sound_among
          chunks_whole n =
              ap₂ (λ (x y : Option ℕ). sound_at file (place_of x) (place_of y)) (sym f) (sym b)
              ∙ sym (cond-true (has_chunks file chunks.first chunks.second) _ (Err NoWave) has ∙ cond-true chunks.whole _ (Err Broken) n) ∙ among
