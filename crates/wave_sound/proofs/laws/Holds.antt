-- What is known of a sound that a file holds: one channel or two, and its frames are in the file. Assumes nothing.
use mathlib.Core.Path.{◌≡◌, refl, sym, ap₂, ◌∙◌, subst}
use Rattle.std.specs.Prelude.{Option, Some, None, Result, Ok, Err}
use Rattle.iff_chunks.proofs.laws.Inside.{second_body}
use mathlib.Core.Bool.{Bool, true, false, cond}
use mathlib.Core.List.{List}
use Prim.Native.Nat.{ℕ, ◌+◌, ◌*◌, ◌/◌, ◌%◌, ◌≤◌}
use native.Mathlib.Nat.{mul_assoc, div-mul-le_self}
use native.Mathlib.Omega.{arith}
use lib.Dec.{eqb}
use lib.ListN.{length}
use Rattle.byte_order.specs.declared.bytes.ByteOrder.TheVariants.{Little}
use Rattle.iff_chunks.specs.Chunks.{size_at, is_form, walk_of}
use Rattle.pcm.specs.declared.sample.Encoding.{Encoding}
use Rattle.pcm.specs.Sample.{width}
use Rattle.wave_sound.specs.declared.sound.Sound.{Sound}
use Rattle.wave_sound.specs.declared.refusal.Refusal.{Refusal}
use Rattle.wave_sound.specs.declared.refusal.Refusal.TheVariants.{NoWave, Broken, OtherKind}
use Rattle.wave_sound.specs.Sound.{Inside, riff, wave, format_chunk, data_chunk, channels_ok, sound_of, sound_kind, sound_at, has_chunks, place_of, sound_among, sound_in}
use Rattle.wave_sound.proofs.laws.Sound.{one_or_two, chunks_are}

-- a refusal holds nothing
pub never : {r : Refusal} {s : Sound} → ◌≡◌ {A = Result Sound Refusal} (Err r) (Ok s) → ⊥
never e = let z : ◌≡◌ {A = ℕ} 0 1 = cc in omega arith

pub same_sound : {s t : Sound} → ◌≡◌ {A = Result Sound Refusal} (Ok s) (Ok t) → s ≡ t
same_sound e = cc

pub picked : (b : Bool) (x : Result Sound Refusal) (r : Refusal) (s : Sound) → cond b x (Err r) ≡ Ok s → (b ≡ true) × (x ≡ Ok s)
picked true x r s e = (refl, e)
picked false x r s e = absurd (never e)

module _ (file : List ℕ) (s : Sound) where
  by_data : (encoding : Encoding) (channels rate start size : ℕ) → start + size ≤ length file → sound_of encoding channels rate start size ≡ Ok s → Inside file s
  unfolding sound_of
  by_data encoding channels rate start size h e =
      let frame = channels * width encoding in
      let p = picked (channels_ok channels) _ OtherKind s e in
      let q = picked (eqb (size % frame) 0) (Ok (record { rate = rate; channels = channels; encoding = encoding; start = start; frames = size / frame })) Broken s p.1 in
      subst (λ (x : Sound). Inside file x) (same_sound q.1) (record {
        sides = one_or_two channels p.0;
        room =
            let g : size / frame * channels * width encoding ≤ size = subst (λ (x : ℕ). x ≤ size) (sym (mul_assoc (size / frame) channels (width encoding))) (div-mul-le_self size frame) in
            omega arith;
      })

  by_kind : (kind : Option Encoding) (channels rate start size : ℕ) → start + size ≤ length file → sound_kind kind channels rate start size ≡ Ok s → Inside file s
  unfolding sound_kind
  by_kind (Some encoding) channels rate start size h e = by_data encoding channels rate start size h e
  by_kind None channels rate start size h e = absurd (never e)

  by_places : (format body : ℕ) → body + 8 + size_at Little file body ≤ length file → sound_at file format body ≡ Ok s → Inside file s
  unfolding sound_at
  by_places format body h e = by_kind _ _ _ (body + 8) (size_at Little file body) h e

  among : sound_among file (walk_of Little format_chunk data_chunk file) ≡ Ok s → Inside file s
  unfolding sound_among
  among e =
      let c = walk_of Little format_chunk data_chunk file in
      let p = picked (has_chunks file c.first c.second) _ NoWave s e in
      let q = picked c.whole _ Broken s p.1 in
      let h = chunks_are file c.first c.second p.0 in
      let t : sound_at file (place_of c.first) (place_of c.second) ≡ sound_at file h.0 h.1 = ap₂ (λ (x y : Option ℕ). sound_at file (place_of x) (place_of y)) h.2 h.3 in
      by_places h.0 h.1 (second_body Little format_chunk data_chunk file c refl h.3 q.0) (sym t ∙ q.1)

  pub holds_inside : sound_in file ≡ Ok s → Inside file s
  unfolding sound_in
  holds_inside e = among (picked (is_form file riff wave) _ NoWave s e).1
