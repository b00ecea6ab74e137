-- What the routines that read answer, in each case. Assumes nothing.
use mathlib.Core.Path.{◌≡◌, refl, sym, ap, ◌∙◌, subst}
use mathlib.Core.List.{List}
use Prim.Native.Nat.{ℕ, ◌+◌, ◌*◌, ◌/◌, ◌≤◌}
use native.Mathlib.Omega.{arith}
use lib.Dec.{eqb}
use lib.ListN.{length}
use lib.Ieee.{Float}
use borrow.Author.Tests.{eq-eqb, ne_eqb}
use Rattle.laws.proofs.laws.Choice.{cond-true, cond-false}
use Rattle.byte_order.specs.declared.bytes.ByteOrder.{ByteOrder}
use Rattle.byte_order.specs.declared.bytes.ByteOrder.TheVariants.{Little}
use Rattle.pcm.specs.Sample.{width, bits_of}
use Rattle.sound_data.specs.Data.{samples_in}
use Rattle.wave_sound.specs.declared.sound.Sound.{Sound}
use Rattle.wave_sound.specs.declared.refusal.Refusal.{Refusal}
use Rattle.wave_sound.specs.Refusal.{refusal_number}
use Rattle.std.specs.Prelude.{Result, Ok, Err}
use Rattle.wave_sound.specs.Sound.{Inside, sound_in}
use Rattle.wave_reader.specs.Read.{held, info_from, info_of, reading, samples_of, read_from, read_of}

half : (n f : ℕ) → n ≡ f * 2 → f ≡ n / 2
half n f h = omega arith

module _ (file : List ℕ) where
  pub info_holds : (s : Sound) (rate channels bits frames : ℕ) → sound_in file ≡ Ok s
      → info_of file rate channels bits frames ≡ held 0 s.rate s.channels (bits_of s.encoding) s.frames
  unfolding info_of info_from
  info_holds s rate channels bits frames e = ap (λ (f : Result Sound Refusal). info_from f rate channels bits frames) e

  pub info_refused : (r : Refusal) (rate channels bits frames : ℕ) → sound_in file ≡ Err r → info_of file rate channels bits frames ≡ held (refusal_number r) rate channels bits frames
  unfolding info_of info_from
  info_refused r rate channels bits frames e = ap (λ (f : Result Sound Refusal). info_from f rate channels bits frames) e

  -- the same of what was found
  pub holds_told : {f : Result Sound Refusal} {s : Sound} {b : ℕ} (rate channels bits frames : ℕ) → f ≡ sound_in file → f ≡ Ok s → b ≡ bits_of s.encoding
      → held 0 s.rate s.channels b s.frames ≡ info_of file rate channels bits frames
  holds_told {s = s} rate channels bits frames p q e = ap (λ (x : ℕ). held 0 s.rate s.channels x s.frames) e ∙ sym (info_holds s rate channels bits frames (sym p ∙ q))

  pub refused_told : {f : Result Sound Refusal} {r : Refusal} (rate channels bits frames : ℕ) → f ≡ sound_in file → f ≡ Err r → held (refusal_number r) rate channels bits frames ≡ info_of file rate channels bits frames
  refused_told {r = r} rate channels bits frames p q = sym (info_refused r rate channels bits frames (sym p ∙ q))

module _ (order : ByteOrder) (found : Result Sound Refusal) (file : List ℕ) where
  pub read_refused : (r : Refusal) (samples : List Float) (rate : ℕ) → found ≡ Err r → read_from order found file samples rate ≡ reading (refusal_number r) samples rate
  unfolding read_from
  read_refused r samples rate e = ap (λ (f : Result Sound Refusal). read_from order f file samples rate) e

  module _ (s : Sound) (samples : List Float) (rate : ℕ) (e : found ≡ Ok s) where
    sound_read : read_from order found file samples rate ≡ read_from order (Ok s) file samples rate
    sound_read = ap (λ (f : Result Sound Refusal). read_from order f file samples rate) e

    pub read_other_length : (length samples ≡ s.frames * 2 → ⊥) → read_from order found file samples rate ≡ reading 10 samples rate
    unfolding read_from
    read_other_length n = sound_read ∙ cond-false (eqb (length samples) (s.frames * 2)) _ (reading 10 samples rate) (ne_eqb (length samples) (s.frames * 2) n)

    pub read_holds : length samples ≡ s.frames * 2 → read_from order found file samples rate ≡ reading 0 (samples_in s.encoding order s.channels file s.start (length samples / 2)) s.rate
    unfolding read_from samples_of
    read_holds h =
        sound_read
        ∙ cond-true (eqb (length samples) (s.frames * 2)) _ (reading 10 samples rate) (eq-eqb (length samples) (s.frames * 2) h)
        ∙ ap (λ (n : ℕ). reading 0 (samples_in s.encoding order s.channels file s.start n) s.rate) (half (length samples) s.frames h)

    -- where the samples are known
    pub read_all : (all : List Float) → length all ≡ s.frames * 2 → samples_of order file s ≡ all → length samples ≡ length all → read_from order found file samples rate ≡ reading 0 all s.rate
    unfolding read_from
    read_all all h k l =
        sound_read
        ∙ cond-true (eqb (length samples) (s.frames * 2)) _ (reading 10 samples rate) (eq-eqb (length samples) (s.frames * 2) (l ∙ h))
        ∙ ap (λ (x : List Float). reading 0 x s.rate) k

pub read_room : (file : List ℕ) (s : Sound) (samples : List Float) → Inside file s → length samples ≡ s.frames * 2
    → s.start + length samples / 2 * s.channels * width s.encoding ≤ length file
read_room file s samples i h = subst (λ (n : ℕ). s.start + n * s.channels * width s.encoding ≤ length file) (half (length samples) s.frames h) i.room

-- by the routine that reads a WAVE file
pub read_is : (file : List ℕ) (samples : List Float) (rate : ℕ) → read_from Little (sound_in file) file samples rate ≡ read_of file samples rate
unfolding read_of
read_is file samples rate = refl
