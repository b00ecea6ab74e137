-- The reader's questions of a file that the writer made. Assumes nothing.
use mathlib.Core.Path.{◌≡◌, refl, sym, ap, ap₂, ◌∙◌}
use mathlib.Core.Bool.{Bool, true, ◌&&◌}
use mathlib.Core.List.{List, ◌++◌}
use Prim.Native.Nat.{ℕ, ◌+◌, ◌-◌, ◌*◌, ◌^◌, ◌%◌, ◌≤◌, ◌<◌}
use native.Mathlib.Omega.{arith}
use lib.Dec.{eqb}
use lib.ListN.{length, length-append}
use borrow.Author.Tests.{eq-eqb, le-leb}
use Rattle.byte_order.specs.declared.bytes.ByteOrder.TheVariants.{Big}
use Rattle.byte_order.specs.Bytes.{number_at, bytes_of}
use Rattle.byte_order.proofs.laws.Bytes.{number_of_bytes}
use Rattle.iff_chunks.specs.Chunks.{identifier, letters_after, identifier_at, size_at, is_form, found, walk_of}
use Rattle.iff_chunks.proofs.laws.Walk.{Walks, walks_start, walks_on, walks_end, noted_new, noted_kept, noted_none}
use Rattle.pcm.specs.declared.sample.Encoding.TheVariants.{Pcm16}
use Rattle.std.specs.Prelude.{Option, Some, None, Ok, unwrap_or}
use Rattle.wave_sound.specs.Sound.{channels_ok, rate_ok}
use Rattle.wave_sound.proofs.laws.Sound.{channels_are}
use Rattle.aiff_rate.specs.Rate.{unit, least_rate, most_rate, whole_at, shift_of, rate_bytes}
use Rattle.aiff_rate.proofs.laws.Bytes.{digits_short, whole_back}
use Rattle.aiff_sound.specs.Sound.{form_chunk, aiff, common_chunk, sound_chunk, sound_of, sound_at, sound_in}
use Rattle.aiff_sound.proofs.laws.Sound.{sound_by_lem, chunks_whole}
use Rattle.aiff_writer.specs.Write.{form_of, common_start, common_rest, sound_header_of, head_of}
use Rattle.aiff_writer.proofs.laws.Head.{length_head}

-- the two identifiers differ
apart : common_chunk ≡ sound_chunk → ⊥
unfolding common_chunk sound_chunk identifier letters_after
apart e = omega arith

module _ (rate channels frames size : ℕ) (body : List ℕ) where
  -- ---- the fields, each by its bytes

  outer : identifier_at (head_of rate channels frames size ++ body) 0 ≡ form_chunk
  unfolding identifier_at number_at head_of form_of common_start common_rest rate_bytes sound_header_of bytes_of form_chunk identifier letters_after
  outer = refl

  form : identifier_at (head_of rate channels frames size ++ body) 8 ≡ aiff
  unfolding identifier_at number_at head_of form_of common_start common_rest rate_bytes sound_header_of bytes_of aiff identifier letters_after
  form = refl

  common_name : identifier_at (head_of rate channels frames size ++ body) 12 ≡ common_chunk
  unfolding identifier_at number_at head_of form_of common_start common_rest rate_bytes sound_header_of bytes_of common_chunk identifier letters_after
  common_name = refl

  common_size : size_at Big (head_of rate channels frames size ++ body) 12 ≡ 18
  unfolding size_at number_at head_of form_of common_start common_rest rate_bytes sound_header_of bytes_of
  common_size = refl

  sides : channels < 65536 → number_at Big (head_of rate channels frames size ++ body) 20 2 ≡ channels
  unfolding number_at head_of form_of common_start common_rest rate_bytes sound_header_of bytes_of
  sides h = number_of_bytes Big 2 channels h

  frame_count : frames < 4294967296 → number_at Big (head_of rate channels frames size ++ body) 22 4 ≡ frames
  unfolding number_at head_of form_of common_start common_rest rate_bytes sound_header_of bytes_of
  frame_count h = number_of_bytes Big 4 frames h

  bits : number_at Big (head_of rate channels frames size ++ body) 26 2 ≡ 16
  unfolding number_at head_of form_of common_start common_rest rate_bytes sound_header_of bytes_of
  bits = refl

  power : number_at Big (head_of rate channels frames size ++ body) 28 2 ≡ unit - shift_of rate
  unfolding number_at head_of form_of common_start common_rest rate_bytes sound_header_of bytes_of
  power = number_of_bytes Big 2 (unit - shift_of rate) (omega arith)

  digits : rate * 2 ^ shift_of rate < 18446744073709551616 → number_at Big (head_of rate channels frames size ++ body) 30 8 ≡ rate * 2 ^ shift_of rate
  unfolding number_at head_of form_of common_start common_rest rate_bytes sound_header_of bytes_of
  digits h = number_of_bytes Big 8 (rate * 2 ^ shift_of rate) h

  sound_name : identifier_at (head_of rate channels frames size ++ body) 38 ≡ sound_chunk
  unfolding identifier_at number_at head_of form_of common_start common_rest rate_bytes sound_header_of bytes_of sound_chunk identifier letters_after
  sound_name = refl

  sound_size : 8 + size < 4294967296 → size_at Big (head_of rate channels frames size ++ body) 38 ≡ 8 + size
  unfolding size_at number_at head_of form_of common_start common_rest rate_bytes sound_header_of bytes_of
  sound_size h = number_of_bytes Big 4 (8 + size) h

  offset : number_at Big (head_of rate channels frames size ++ body) 46 4 ≡ 0
  unfolding number_at head_of form_of common_start common_rest rate_bytes sound_header_of bytes_of
  offset = refl

  -- ---- the questions

  long : length (head_of rate channels frames size ++ body) ≡ 54 + length body
  long = length-append (head_of rate channels frames size) body ∙ ap (λ (n : ℕ). n + length body) (length_head rate channels frames size)

  is_form_lem : is_form (head_of rate channels frames size ++ body) form_chunk aiff ≡ true
  unfolding is_form
  is_form_lem =
      let f = head_of rate channels frames size ++ body in
      ap (λ (t : Bool). t && (eqb (identifier_at f 0) form_chunk && eqb (identifier_at f 8) aiff)) (le-leb 12 (length f) (omega (arith, long)))
      ∙ ap₂ ◌&&◌ (eq-eqb (identifier_at f 0) form_chunk outer) (eq-eqb (identifier_at f 8) aiff form)

  module _ (sized : length body ≡ size) (small : 46 + size ≤ 4294967295) (even : size % 2 ≡ 0) where
    all_chunks : found (Some 12) (Some 38) true ≡ walk_of Big common_chunk sound_chunk (head_of rate channels frames size ++ body)
    all_chunks =
        let f = head_of rate channels frames size ++ body in
        let end = walk_of Big common_chunk sound_chunk f in
        let one : Walks Big common_chunk sound_chunk f 38 (Some 12) None end = walks_on Big common_chunk sound_chunk f 12 None None end (walks_start Big common_chunk sound_chunk f) (sym common_size)
        (noted_new (identifier_at f 12) common_chunk 12 common_name) (noted_none (identifier_at f 12) sound_chunk 12 (λ e. apart (sym common_name ∙ e))) (omega (arith, long)) refl in
        let two : Walks Big common_chunk sound_chunk f (38 + 8 + (8 + size) + (8 + size) % 2) (Some 12) (Some 38) end = walks_on Big common_chunk sound_chunk f 38 (Some 12) None end one (sym (sound_size (omega arith)))
        (noted_kept (identifier_at f 38) common_chunk 38 12) (noted_new (identifier_at f 38) sound_chunk 38 sound_name) (omega (arith, long)) refl in
        walks_end Big common_chunk sound_chunk f (38 + 8 + (8 + size) + (8 + size) % 2) (Some 12) (Some 38) end two (omega (arith, long))

    pub head_holds : rate_ok rate ≡ true → (least_rate ≤ rate) × (rate ≤ most_rate) → channels_ok channels ≡ true → frames < 4294967296 → size ≡ frames * channels * 2
        → sound_in (head_of rate channels frames size ++ body) ≡ Ok (record { rate = rate; channels = channels; encoding = Pcm16; start = 54; frames = frames })
    unfolding sound_at
    head_holds r l c k z =
        let f = head_of rate channels frames size ++ body in
        let w : whole_at f 28 ≡ Some rate = whole_back rate l.0 l.1 f 28 power (digits (digits_short rate l.0 l.1)) in
        let s : channels < 65536 = omega (arith, (channels_are channels c).1) in
        sym (chunks_whole f (found (Some 12) (Some 38) true) all_chunks refl refl is_form_lem common_size (omega (arith, sound_size (omega arith))) refl)
        ∙ ap₂ (λ (x y : ℕ). sound_of (38 + 16 + x) y x (number_at Big f 20 2) (number_at Big f 22 4) (number_at Big f 26 2) (unwrap_or (whole_at f 28) 0)) offset (sound_size (omega arith))
        ∙ ap₂ (λ (x y : ℕ). sound_of 54 (8 + size) 0 x y (number_at Big f 26 2) (unwrap_or (whole_at f 28) 0)) (sides s) (frame_count k)
        ∙ ap₂ (λ (x y : ℕ). sound_of 54 (8 + size) 0 channels frames x y) bits (ap (λ (x : Option ℕ). unwrap_or x 0) w)
        ∙ sym (sound_by_lem 54 (8 + size) 0 channels frames 16 rate c refl (le-leb (8 + 0 + frames * channels * 2) (8 + size) (omega arith)) r)
