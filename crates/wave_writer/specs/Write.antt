-- What the writer answers, and the file that it leaves. A refusal leaves the file as it was.
use Rattle.std.specs.Prelude.{Option, Some, None, unwrap_or, option_and_then, Bool, cond, ◌&&◌, List, ◌++◌, ℕ, ◌+◌, ◌*◌, ◌/◌, ◌%◌, eqb, leb, length, Float}
use Rattle.byte_order.specs.declared.bytes.ByteOrder.TheVariants.{Little, Big}
use Rattle.byte_order.specs.Bytes.{bytes_of}
use Rattle.pcm.specs.declared.sample.Encoding.{Encoding}
use Rattle.pcm.specs.declared.sample.Encoding.TheVariants.{Pcm16, Float32}
use Rattle.pcm.specs.Sample.{width}
use Rattle.scene_questions.specs.Questions.{samples_ok}
use Rattle.sound_data.specs.Data.{data_of}
use Rattle.wave_sound.specs.Sound.{riff, wave, format_chunk, data_chunk, channels_ok, rate_ok}

-- ---- the file

-- The sample kind's number in the format chunk.
unfoldable pub tag_of : Encoding → ℕ
tag_of Pcm16 = 1
tag_of Float32 = 3

-- RIFF, the size of what follows, WAVE
unfoldable pub riff_of : ℕ → List ℕ
riff_of size = bytes_of Big 4 riff ++ (bytes_of Little 4 (36 + size) ++ bytes_of Big 4 wave)

-- the format chunk: its header, kind and channels, then the rate, bytes a second, bytes a frame and bits a sample
unfoldable pub format_start : ℕ → Encoding → List ℕ
format_start channels encoding = bytes_of Big 4 format_chunk ++ (bytes_of Little 4 16 ++ (bytes_of Little 2 (tag_of encoding) ++ bytes_of Little 2 channels))

unfoldable pub format_rest : ℕ → ℕ → ℕ → List ℕ
format_rest rate frame bits = bytes_of Little 4 rate ++ (bytes_of Little 4 (rate * frame) ++ (bytes_of Little 2 frame ++ bytes_of Little 2 bits))

-- the data chunk's header
unfoldable pub data_header_of : ℕ → List ℕ
data_header_of size = bytes_of Big 4 data_chunk ++ bytes_of Little 4 size

-- 44 bytes
abbrev pub head_length : ℕ
head_length = 44

unfoldable pub head_of : ℕ → ℕ → Encoding → ℕ → List ℕ
head_of rate channels encoding size = riff_of size ++ (format_start channels encoding ++ (format_rest rate (channels * width encoding) (width encoding * 8) ++ data_header_of size))

-- the data's bytes
unfoldable pub data_length : ℕ → ℕ → Encoding → ℕ
data_length samples channels encoding = samples / 2 * channels * width encoding

unfoldable pub file_of : ℕ → ℕ → Encoding → List Float → List ℕ
file_of rate channels encoding samples = head_of rate channels encoding (data_length (length samples) channels encoding) ++ data_of encoding Little channels samples

-- ---- the answer: the number and the file

pub data Writing : Type 0 where
  writing : ℕ → List ℕ → Writing

-- The most bytes of a file: the size of all but the first 8 has 32 bits.
abbrev pub file_most : ℕ
file_most = 8 + 4294967295

-- 10: the file buffer's length is the file's, which has `head` bytes in front of its data.
unfoldable pub length_ok : ℕ → ℕ → ℕ → Bool
length_ok head size room = leb (head + size) file_most && eqb room (head + size)

-- 4, 15, 8, 9 and 10, of such a file; 0 where nothing is refused.
unfoldable pub asked : ℕ → ℕ → ℕ → Encoding → List Float → ℕ → ℕ
asked head rate channels encoding samples room =
    cond (rate_ok rate)
    (cond (channels_ok channels)
    (cond (eqb (length samples % 2) 0)
    (cond (samples_ok samples)
    (cond (length_ok head (data_length (length samples) channels encoding) room) 0 10)
    9)
    8)
    15)
    4

-- The file is written where nothing is refused.
unfoldable pub answered : ℕ → List ℕ → List ℕ → Writing
answered number written file = cond (eqb number 0) (writing 0 written) (writing number file)

-- 16 bits are whole numbers, 32 are floats.
unfoldable pub kind_of_bits : ℕ → Option Encoding
kind_of_bits bits = cond (eqb bits 16) (Some Pcm16) (cond (eqb bits 32) (Some Float32) None)

-- 4, then 15, of the bits
unfoldable pub write_kind : Option Encoding → ℕ → ℕ → List Float → List ℕ → Writing
write_kind (Some encoding) rate channels samples file =
    answered (asked head_length rate channels encoding samples (length file)) (file_of rate channels encoding samples) file
write_kind None rate channels samples file = writing (cond (rate_ok rate) 15 4) file

unfoldable pub write_of : ℕ → ℕ → ℕ → List Float → List ℕ → Writing
write_of rate channels bits samples file = write_kind (kind_of_bits bits) rate channels samples file

-- ---- the length that the file of so many samples needs, where there is such a file; as a number, 0 where there is none

unfoldable pub bytes_with : ℕ → ℕ → ℕ → Encoding → Option ℕ
bytes_with head samples channels encoding =
    let size = data_length samples channels encoding in
    cond (channels_ok channels) (cond (leb (head + size) file_most) (Some (head + size)) None) None

abbrev pub length_with : ℕ → ℕ → ℕ → Encoding → ℕ
length_with head samples channels encoding = unwrap_or (bytes_with head samples channels encoding) 0

unfoldable pub bytes_for : ℕ → ℕ → ℕ → Option ℕ
bytes_for samples channels bits = option_and_then (bytes_with head_length samples channels) (kind_of_bits bits)

abbrev pub length_for : ℕ → ℕ → ℕ → ℕ
length_for samples channels bits = unwrap_or (bytes_for samples channels bits) 0
