-- What an AIFF file holds, by the answers to each question in turn. Assumes nothing.
use mathlib.Core.Path.{◌≡◌, refl, sym, ap, ap₂, ◌∙◌}
use mathlib.Core.Bool.{Bool, true, false, cond, ◌&&◌, true≢false}
use mathlib.Core.List.{List}
use Prim.Native.Nat.{ℕ, ◌+◌, ◌*◌, ◌≤◌, ◌<◌}
use native.Mathlib.Nat.{mul_comm, mul-le-mul_right}
use native.Mathlib.Omega.{arith}
use lib.Dec.{eqb, leb}
use lib.ListN.{length}
use borrow.Author.Tests.{eq-eqb, ne_eqb, eqb-true, le-leb, lt-leb, leb-true}
use Rattle.byte_order.specs.declared.bytes.ByteOrder.TheVariants.{Big}
use Rattle.byte_order.specs.Bytes.{number_at}
use Rattle.iff_chunks.specs.declared.form.Chunks.{Chunks}
use Rattle.iff_chunks.specs.Chunks.{size_at, is_form, walk_of}
use Rattle.iff_chunks.proofs.laws.Inside.{first_body, second_body}
use Rattle.pcm.specs.declared.sample.Encoding.TheVariants.{Pcm16}
use Rattle.wave_sound.specs.declared.sound.Sound.{Sound}
use Rattle.wave_sound.specs.declared.refusal.Refusal.{Refusal}
use Rattle.wave_sound.specs.declared.refusal.Refusal.TheVariants.{Broken, OtherKind, NoAiff, FileRate}
use Rattle.std.specs.Prelude.{Option, Some, None, Result, Ok, Err, unwrap_or}
use Rattle.wave_sound.specs.Sound.{channels_ok, rate_ok, place_of}
use Rattle.wave_sound.proofs.laws.Sound.{both}
use Rattle.aiff_rate.specs.Rate.{whole_at}
use Rattle.aiff_sound.specs.Sound.{form_chunk, aiff, common_chunk, sound_chunk, sound_of, sound_at, has_chunks, sound_among, sound_in}

-- ---- the fields

module _ (start size offset channels frames bits rate : ℕ) where
  abbrev sound_by : Bool → Bool → Bool → Bool → Result Sound Refusal
  sound_by p q r s =
      cond (p && q) (cond r (cond s (Ok (record { rate = rate; channels = channels; encoding = Pcm16; start = start; frames = frames })) (Err FileRate)) (Err Broken)) (Err OtherKind)

  pub sound_by_lem : {p q r s : Bool} → channels_ok channels ≡ p → eqb bits 16 ≡ q → leb (8 + offset + frames * channels * 2) size ≡ r → rate_ok rate ≡ s
      → sound_by p q r s ≡ sound_of start size offset channels frames bits rate
  unfolding sound_of
  sound_by_lem a b c d = cc

pub at_fields : (file : List ℕ) (common body : ℕ) {start size offset channels frames bits rate : ℕ} → offset ≡ number_at Big file (body + 8) 4 → start ≡ body + 16 + offset
    → size ≡ number_at Big file (body + 4) 4 → channels ≡ number_at Big file (common + 8) 2 → frames ≡ number_at Big file (common + 10) 4 → bits ≡ number_at Big file (common + 14) 2
    → rate ≡ unwrap_or (whole_at file (common + 16)) 0 → sound_of start size offset channels frames bits rate ≡ sound_at file common body
unfolding sound_at size_at
at_fields file common body o s z c f b r = cc

-- the frames' values
pub frames_most : (f c : ℕ) → c ≤ 2 → f * c ≤ 2 * f
frames_most f c h =
    let g : c * f ≤ 2 * f = mul-le-mul_right f h in
    omega (arith, mul_comm f c)

-- ---- the chunks

-- what it says of the places
pub chunks_are : (file : List ℕ) (first second : Option ℕ) → has_chunks file first second ≡ true
    → (common : ℕ) × (body : ℕ) × (first ≡ Some common) × (second ≡ Some body) × (size_at Big file common ≡ 18) × (8 ≤ size_at Big file body)
unfolding has_chunks
chunks_are file None second e = absurd (true≢false (sym e))
chunks_are file (Some common) None e = absurd (true≢false (sym e))
chunks_are file (Some common) (Some body) e =
    let p = both (eqb (size_at Big file common) 18) (leb 8 (size_at Big file body)) e in
    (common, body, refl, refl, eqb-true (size_at Big file common) 18 p.0, leb-true 8 (size_at Big file body) p.1)

no_sound : (file : List ℕ) (first : Option ℕ) → has_chunks file first None ≡ false
unfolding has_chunks
no_sound file None = refl
no_sound file (Some common) = refl

-- ---- the whole file, by what the walk found

module _ (file : List ℕ) (chunks : Chunks) (walked : chunks ≡ walk_of Big common_chunk sound_chunk file) where
  abbrev found_by : Bool → Bool → Bool → Result Sound Refusal
  found_by p q r = cond p (cond q (cond r (sound_at file (place_of chunks.first) (place_of chunks.second)) (Err Broken)) (Err NoAiff)) (Err NoAiff)

  pub found_by_lem : {p q r : Bool} → is_form file form_chunk aiff ≡ p → has_chunks file chunks.first chunks.second ≡ q → chunks.whole ≡ r → found_by p q r ≡ sound_in file
  unfolding sound_in sound_among
  found_by_lem a b c = cc

  pub not_aiff : is_form file form_chunk aiff ≡ false → Err NoAiff ≡ sound_in file
  not_aiff e = found_by_lem e refl refl

  module _ (is : is_form file form_chunk aiff ≡ true) where
    pub no_common_chunk : chunks.first ≡ None → Err NoAiff ≡ sound_in file
    unfolding has_chunks
    no_common_chunk e = found_by_lem is (ap (λ (x : Option ℕ). has_chunks file x chunks.second) e) refl

    pub no_sound_chunk : chunks.second ≡ None → Err NoAiff ≡ sound_in file
    no_sound_chunk e = found_by_lem is (ap (has_chunks file chunks.first) e ∙ no_sound file chunks.first) refl

  module _ {common body : ℕ} (f : chunks.first ≡ Some common) (b : chunks.second ≡ Some body) where
    pub both_there : has_chunks file chunks.first chunks.second ≡ eqb (size_at Big file common) 18 && leb 8 (size_at Big file body)
    unfolding has_chunks
    both_there = ap₂ (has_chunks file) f b

    -- the whole chunks of a file that has them
    pub common_body : size_at Big file common ≡ 18 → chunks.whole ≡ true → common + 26 ≤ length file
    common_body e w = omega (arith, first_body Big common_chunk sound_chunk file chunks walked f w, e)

    pub sound_body : 8 ≤ size_at Big file body → chunks.whole ≡ true → body + 16 ≤ length file
    sound_body e w = omega (arith, second_body Big common_chunk sound_chunk file chunks walked b w, e)

    module _ (is : is_form file form_chunk aiff ≡ true) where
      pub other_common : (size_at Big file common ≡ 18 → ⊥) → Err NoAiff ≡ sound_in file
      other_common n = found_by_lem is (both_there ∙ ap (λ (t : Bool). t && leb 8 (size_at Big file body)) (ne_eqb (size_at Big file common) 18 n)) refl

      module _ (e : size_at Big file common ≡ 18) where
        sized : has_chunks file chunks.first chunks.second ≡ leb 8 (size_at Big file body)
        sized = both_there ∙ ap (λ (t : Bool). t && leb 8 (size_at Big file body)) (eq-eqb (size_at Big file common) 18 e)

        pub short_sound : size_at Big file body < 8 → Err NoAiff ≡ sound_in file
        short_sound h = found_by_lem is (sized ∙ lt-leb 8 (size_at Big file body) h) refl

        pub chunks_broken : 8 ≤ size_at Big file body → chunks.whole ≡ false → Err Broken ≡ sound_in file
        chunks_broken h w = found_by_lem is (sized ∙ le-leb 8 (size_at Big file body) h) w

        pub chunks_whole : 8 ≤ size_at Big file body → chunks.whole ≡ true → sound_at file common body ≡ sound_in file
        chunks_whole h w =
            ap₂ (λ (x y : Option ℕ). sound_at file (place_of x) (place_of y)) (sym f) (sym b) ∙ found_by_lem is (sized ∙ le-leb 8 (size_at Big file body) h) w
