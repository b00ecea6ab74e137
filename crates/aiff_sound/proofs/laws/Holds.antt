-- A sound that an AIFF file holds has one channel or two, and its frames are in the file. Assumes nothing.
use mathlib.Core.Path.{◌≡◌, refl, sym, ap₂, ◌∙◌, subst}
use Rattle.iff_chunks.proofs.laws.Inside.{second_body}
use mathlib.Core.Bool.{true, ◌&&◌}
use mathlib.Core.List.{List}
use Prim.Native.Nat.{ℕ, ◌+◌, ◌*◌, ◌≤◌}
use native.Mathlib.Omega.{arith}
use lib.Dec.{eqb, leb}
use lib.ListN.{length}
use borrow.Author.Tests.{leb-true}
use Rattle.byte_order.specs.declared.bytes.ByteOrder.TheVariants.{Big}
use Rattle.iff_chunks.specs.Chunks.{size_at, is_form, walk_of}
use Rattle.pcm.specs.declared.sample.Encoding.TheVariants.{Pcm16}
use Rattle.pcm.specs.Sample.{width}
use Rattle.wave_sound.specs.declared.sound.Sound.{Sound}
use Rattle.wave_sound.specs.declared.refusal.Refusal.TheVariants.{Broken, OtherKind, NoAiff, FileRate}
use Rattle.std.specs.Prelude.{Option, Ok}
use Rattle.wave_sound.specs.Sound.{Inside, channels_ok, rate_ok, place_of}
use Rattle.wave_sound.proofs.laws.Sound.{both, one_or_two}
use Rattle.wave_sound.proofs.laws.Holds.{picked, same_sound}
use Rattle.aiff_sound.specs.Sound.{form_chunk, aiff, common_chunk, sound_chunk, sound_of, sound_at, has_chunks, sound_among, sound_in}
use Rattle.aiff_sound.proofs.laws.Sound.{chunks_are}

-- what is known of it besides: 16-bit samples, and a rate in our range
pub record Holding (file : List ℕ) (s : Sound) : Type 0 where
  pub inside : Inside file s
  pub sixteen : s.encoding ≡ Pcm16
  pub rated : rate_ok s.rate ≡ true

module _ (file : List ℕ) (s : Sound) where
  by_fields : (body size offset channels frames bits rate : ℕ) → body + 8 + size ≤ length file → sound_of (body + 16 + offset) size offset channels frames bits rate ≡ Ok s → Holding file s
  unfolding sound_of width
  by_fields body size offset channels frames bits rate h e =
      let p = picked (channels_ok channels && eqb bits 16) _ OtherKind s e in
      let q = picked (leb (8 + offset + frames * channels * 2) size) _ Broken s p.1 in
      let r = picked (rate_ok rate) (Ok (record { rate = rate; channels = channels; encoding = Pcm16; start = body + 16 + offset; frames = frames })) FileRate s q.1 in
      subst (λ (x : Sound). Holding file x) (same_sound r.1) (record {
        inside = record {
          sides = one_or_two channels (both (channels_ok channels) (eqb bits 16) p.0).0;
          room = omega (arith, leb-true (8 + offset + frames * channels * 2) size q.0);
        };
        sixteen = refl;
        rated = r.0;
      })

  by_places : (common body : ℕ) → body + 8 + size_at Big file body ≤ length file → sound_at file common body ≡ Ok s → Holding file s
  unfolding sound_at
  by_places common body h e = by_fields body (size_at Big file body) _ _ _ _ _ h e

  among : sound_among file (walk_of Big common_chunk sound_chunk file) ≡ Ok s → Holding file s
  unfolding sound_among
  among e =
      let c = walk_of Big common_chunk sound_chunk file in
      let p = picked (has_chunks file c.first c.second) _ NoAiff s e in
      let q = picked c.whole _ Broken s p.1 in
      let h = chunks_are file c.first c.second p.0 in
      let t : sound_at file (place_of c.first) (place_of c.second) ≡ sound_at file h.0 h.1 = ap₂ (λ (x y : Option ℕ). sound_at file (place_of x) (place_of y)) h.2 h.3 in
      by_places h.0 h.1 (second_body Big common_chunk sound_chunk file c refl h.3 q.0) (sym t ∙ q.1)

  pub holds_sixteen : sound_in file ≡ Ok s → Holding file s
  unfolding sound_in
  holds_sixteen e = among (picked (is_form file form_chunk aiff) _ NoAiff s e).1
