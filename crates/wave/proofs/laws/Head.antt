-- The reader's questions of a file that the writer made. Assumes nothing.
use mathlib.Core.Path.{◌≡◌, refl, sym, ap, ap₂, ◌∙◌}
use mathlib.Core.Bool.{Bool, true, ◌&&◌}
use mathlib.Core.List.{List, ◌++◌}
use Prim.Native.Nat.{ℕ, ◌+◌, ◌*◌, ◌/◌, ◌%◌, ◌≤◌, ◌<◌}
use native.Mathlib.Nat.{mul-div_cancel, mul-mod_left}
use native.Mathlib.Omega.{arith}
use lib.Dec.{eqb}
use lib.ListN.{length, length-append}
use borrow.Author.Tests.{eq-eqb, le-leb}
use Rattle.byte_order.specs.declared.bytes.ByteOrder.TheVariants.{Little}
use Rattle.byte_order.specs.Bytes.{number_at, bytes_of}
use Rattle.byte_order.proofs.laws.Bytes.{number_of_bytes}
use Rattle.iff_chunks.specs.declared.form.Chunks.{Chunks}
use Rattle.iff_chunks.specs.Chunks.{identifier, letters_after, identifier_at, size_at, is_form, found, walk_of}
use Rattle.iff_chunks.proofs.laws.Walk.{Walks, walks_start, walks_on, walks_end, noted_new, noted_kept, noted_none}
use Rattle.pcm.specs.declared.sample.Encoding.{Encoding}
use Rattle.pcm.specs.declared.sample.Encoding.TheVariants.{Pcm16, Float32}
use Rattle.pcm.specs.Sample.{width}
use Rattle.std.specs.Prelude.{Some, None, Ok}
use Rattle.wave_sound.specs.Sound.{riff, wave, format_chunk, data_chunk, channels_ok, kind_of, sound_of, sound_in}
use Rattle.wave_sound.proofs.laws.Sound.{at_known, sound_whole, chunks_whole, width_pos, frame_small, channels_are}
use Rattle.wave_writer.specs.Write.{tag_of, riff_of, format_start, format_rest, data_header_of, head_of}
use Rattle.wave_writer.proofs.laws.Head.{length_head}

tag_small : (e : Encoding) → tag_of e < 65536
unfolding tag_of
tag_small Pcm16 = omega arith
tag_small Float32 = omega arith

kind_own : (e : Encoding) → kind_of (tag_of e) (width e * 8) ≡ Some e
unfolding kind_of tag_of width
kind_own Pcm16 = refl
kind_own Float32 = refl

-- the two identifiers differ
apart : format_chunk ≡ data_chunk → ⊥
unfolding format_chunk data_chunk identifier letters_after
apart e = omega arith

module _ (rate channels : ℕ) (encoding : Encoding) (size : ℕ) (body : List ℕ) where
  abbrev file : List ℕ
  file = head_of rate channels encoding size ++ body

  -- ---- the fields, each by its bytes

  outer : identifier_at (head_of rate channels encoding size ++ body) 0 ≡ riff
  unfolding identifier_at number_at head_of riff_of format_start format_rest data_header_of bytes_of riff identifier letters_after
  outer = refl

  form : identifier_at (head_of rate channels encoding size ++ body) 8 ≡ wave
  unfolding identifier_at number_at head_of riff_of format_start format_rest data_header_of bytes_of wave identifier letters_after
  form = refl

  format_name : identifier_at (head_of rate channels encoding size ++ body) 12 ≡ format_chunk
  unfolding identifier_at number_at head_of riff_of format_start format_rest data_header_of bytes_of format_chunk identifier letters_after
  format_name = refl

  format_size : size_at Little (head_of rate channels encoding size ++ body) 12 ≡ 16
  unfolding size_at number_at head_of riff_of format_start format_rest data_header_of bytes_of
  format_size = refl

  data_name : identifier_at (head_of rate channels encoding size ++ body) 36 ≡ data_chunk
  unfolding identifier_at number_at head_of riff_of format_start format_rest data_header_of bytes_of data_chunk identifier letters_after
  data_name = refl

  data_size : size < 4294967296 → size_at Little (head_of rate channels encoding size ++ body) 36 ≡ size
  unfolding size_at number_at head_of riff_of format_start format_rest data_header_of bytes_of
  data_size h = number_of_bytes Little 4 size h

  data_field : size < 4294967296 → number_at Little (head_of rate channels encoding size ++ body) 40 4 ≡ size
  unfolding number_at head_of riff_of format_start format_rest data_header_of bytes_of
  data_field h = number_of_bytes Little 4 size h

  tag : number_at Little (head_of rate channels encoding size ++ body) 20 2 ≡ tag_of encoding
  unfolding number_at head_of riff_of format_start format_rest data_header_of bytes_of
  tag = number_of_bytes Little 2 (tag_of encoding) (tag_small encoding)

  sides : channels < 65536 → number_at Little (head_of rate channels encoding size ++ body) 22 2 ≡ channels
  unfolding number_at head_of riff_of format_start format_rest data_header_of bytes_of
  sides h = number_of_bytes Little 2 channels h

  rates : rate < 4294967296 → number_at Little (head_of rate channels encoding size ++ body) 24 4 ≡ rate
  unfolding number_at head_of riff_of format_start format_rest data_header_of bytes_of
  rates h = number_of_bytes Little 4 rate h

  bits : number_at Little (head_of rate channels encoding size ++ body) 34 2 ≡ width encoding * 8
  unfolding number_at head_of riff_of format_start format_rest data_header_of bytes_of
  bits = number_of_bytes Little 2 (width encoding * 8) (omega (arith, (width_pos encoding).1))

  -- ---- the questions

  long : length (head_of rate channels encoding size ++ body) ≡ 44 + length body
  long = length-append (head_of rate channels encoding size) body ∙ ap (λ (n : ℕ). n + length body) (length_head rate channels encoding size)

  is_form_lem : is_form (head_of rate channels encoding size ++ body) riff wave ≡ true
  unfolding is_form
  is_form_lem =
      let f = head_of rate channels encoding size ++ body in
      ap (λ (t : Bool). t && (eqb (identifier_at f 0) riff && eqb (identifier_at f 8) wave)) (le-leb 12 (length f) (omega (arith, long)))
      ∙ ap₂ ◌&&◌ (eq-eqb (identifier_at f 0) riff outer) (eq-eqb (identifier_at f 8) wave form)

  module _ (sized : length body ≡ size) (small : 36 + size ≤ 4294967295) (even : size % 2 ≡ 0) where
    abbrev walked : Chunks
    walked = walk_of Little format_chunk data_chunk (head_of rate channels encoding size ++ body)

    all_chunks : found (Some 12) (Some 36) true ≡ walk_of Little format_chunk data_chunk (head_of rate channels encoding size ++ body)
    all_chunks =
        let f = head_of rate channels encoding size ++ body in
        let end = walk_of Little format_chunk data_chunk f in
        let one : Walks Little format_chunk data_chunk f 36 (Some 12) None end = walks_on Little format_chunk data_chunk f 12 None None end (walks_start Little format_chunk data_chunk f) (sym format_size)
        (noted_new (identifier_at f 12) format_chunk 12 format_name) (noted_none (identifier_at f 12) data_chunk 12 (λ e. apart (sym format_name ∙ e))) (omega (arith, long)) refl in
        let two : Walks Little format_chunk data_chunk f (36 + 8 + size + size % 2) (Some 12) (Some 36) end = walks_on Little format_chunk data_chunk f 36 (Some 12) None end one (sym (data_size (omega arith)))
        (noted_kept (identifier_at f 36) format_chunk 36 12) (noted_new (identifier_at f 36) data_chunk 36 data_name) (omega (arith, long)) refl in
        walks_end Little format_chunk data_chunk f (36 + 8 + size + size % 2) (Some 12) (Some 36) end two (omega (arith, long))

    pub head_holds : (frames : ℕ) → rate < 4294967296 → channels_ok channels ≡ true → size ≡ frames * (channels * width encoding)
        → sound_in (head_of rate channels encoding size ++ body) ≡ Ok (record { rate = rate; channels = channels; encoding = encoding; start = 44; frames = frames })
    head_holds frames r c z =
        let f = head_of rate channels encoding size ++ body in
        let frame : 0 < channels * width encoding = (frame_small channels (width encoding) (channels_are channels c) (width_pos encoding)).0 in
        let q : size / (channels * width encoding) ≡ frames = ap (λ (n : ℕ). n / (channels * width encoding)) z ∙ mul-div_cancel frames frame in
        let w : size % (channels * width encoding) ≡ 0 = ap (λ (n : ℕ). n % (channels * width encoding)) z ∙ mul-mod_left frames (channels * width encoding) in
        sym (chunks_whole f (found (Some 12) (Some 36) true) all_chunks is_form_lem refl refl format_size refl)
        ∙ at_known f 12 36 encoding (ap₂ kind_of tag bits ∙ kind_own encoding)
        ∙ fields f r c
        ∙ sym (sound_whole encoding channels rate 44 size (width encoding) refl c w)
        ∙ ap (λ (n : ℕ). Ok (record { rate = rate; channels = channels; encoding = encoding; start = 44; frames = n })) q
      where
        fields : (f : List ℕ) → rate < 4294967296 → channels_ok channels ≡ true
            → sound_of encoding (number_at Little (head_of rate channels encoding size ++ body) (12 + 10) 2) (number_at Little (head_of rate channels encoding size ++ body) (12 + 12) 4) (36 + 8) (number_at Little (head_of rate channels encoding size ++ body) (36 + 4) 4)
            ≡ sound_of encoding channels rate 44 size
        fields f r c =
            ap (λ (n : ℕ). sound_of encoding n (number_at Little (head_of rate channels encoding size ++ body) (12 + 12) 4) 44 (number_at Little (head_of rate channels encoding size ++ body) (36 + 4) 4)) (sides (omega (arith, (channels_are channels c).1)))
            ∙ ap₂ (λ (n m : ℕ). sound_of encoding channels n 44 m) (rates r) (data_field (omega arith))
