-- What the AIFF writer answers, and the file that it leaves. A refusal leaves the file as it was.
use Rattle.std.specs.Prelude.{Option, List, ◌++◌, ℕ, ◌+◌, ◌/◌, length, Float}
use Rattle.byte_order.specs.declared.bytes.ByteOrder.TheVariants.{Big}
use Rattle.byte_order.specs.Bytes.{bytes_of}
use Rattle.pcm.specs.declared.sample.Encoding.TheVariants.{Pcm16}
use Rattle.sound_data.specs.Data.{data_of}
use Rattle.wave_writer.specs.Write.{Writing, data_length, asked, answered, bytes_with, length_with}
use Rattle.aiff_rate.specs.Rate.{rate_bytes}
use Rattle.aiff_sound.specs.Sound.{form_chunk, aiff, common_chunk, sound_chunk}

-- ---- the file

-- FORM, the size of what follows, AIFF
unfoldable pub form_of : ℕ → List ℕ
form_of size = bytes_of Big 4 form_chunk ++ (bytes_of Big 4 (46 + size) ++ bytes_of Big 4 aiff)

-- the common chunk: its header, channels and frames, then the bits of a sample and the rate
unfoldable pub common_start : ℕ → ℕ → List ℕ
common_start channels frames = bytes_of Big 4 common_chunk ++ (bytes_of Big 4 18 ++ (bytes_of Big 2 channels ++ bytes_of Big 4 frames))

unfoldable pub common_rest : ℕ → List ℕ
common_rest rate = bytes_of Big 2 16 ++ rate_bytes rate

-- the sound chunk's header, offset and block size
unfoldable pub sound_header_of : ℕ → List ℕ
sound_header_of size = bytes_of Big 4 sound_chunk ++ (bytes_of Big 4 (8 + size) ++ (bytes_of Big 4 0 ++ bytes_of Big 4 0))

-- 54 bytes
abbrev pub head_length : ℕ
head_length = 54

unfoldable pub head_of : ℕ → ℕ → ℕ → ℕ → List ℕ
head_of rate channels frames size = form_of size ++ (common_start channels frames ++ (common_rest rate ++ sound_header_of size))

unfoldable pub file_of : ℕ → ℕ → List Float → List ℕ
file_of rate channels samples = head_of rate channels (length samples / 2) (data_length (length samples) channels Pcm16) ++ data_of Pcm16 Big channels samples

-- ---- the answer: the number (4, 15, 8, 9, 10) and the file

unfoldable pub write_of : ℕ → ℕ → List Float → List ℕ → Writing
write_of rate channels samples file = answered (asked head_length rate channels Pcm16 samples (length file)) (file_of rate channels samples) file

-- the length that the file of so many samples needs, where there is such a file; as a number, 0 where there is none
abbrev pub bytes_for : ℕ → ℕ → Option ℕ
bytes_for samples channels = bytes_with head_length samples channels Pcm16

abbrev pub length_for : ℕ → ℕ → ℕ
length_for samples channels = length_with head_length samples channels Pcm16
