-- The two samples that a 16-bit file does not give back: -0.0 comes back as 0.0, and 1.0 as 32767 / 32768. Assumes nothing.
use mathlib.Core.Path.{◌≡◌, refl}
use mathlib.Core.List.{[], ◌∷◌}
use lib.IntN.{negsuc}
use lib.Ieee.{nan, fin, div, of_int}
use mathlib.Core.Bool.{false}
use Rattle.laws.specs.Float.{pos_zero, neg_zero, one}
use Rattle.laws.specs.Loop.{upto}
use Rattle.laws.specs.Pieces.{pieces}
use Rattle.rounding.specs.Nearest.{nearest_quotient}
use Rattle.byte_order.specs.Bytes.{number_at, bytes_of}
use Rattle.iff_chunks.specs.Chunks.{identifier, letters_after, identifier_at, size_at, is_form, noted, walk_from, walk_of}
use Rattle.pcm.specs.declared.sample.Encoding.TheVariants.{Pcm16}
use Rattle.pcm.specs.Sample.{signed16, bits16, sample_of16, nearest16, width, sample_of, pattern_of, sample_at}
use Rattle.sound_data.specs.Data.{value_at, samples_in, encoded_at, data_of}
use Rattle.wave_sound.specs.Sound.{riff, wave, format_chunk, data_chunk, channels_ok, kind_of, sound_of, sound_kind, sound_at, has_chunks, sound_among, sound_in}
use Rattle.wave_reader.specs.Read.{reading, samples_of, read_from, read_of}
use Rattle.wave_writer.specs.Write.{tag_of, riff_of, format_start, format_rest, data_header_of, head_of, data_length, file_of}

pub minus_zero_lost : read_of (file_of 44100 2 Pcm16 (neg_zero ∷ neg_zero ∷ [])) (nan ∷ nan ∷ []) 0 ≡ reading 0 (pos_zero ∷ pos_zero ∷ []) 44100
unfolding read_of read_from samples_of sound_in sound_among sound_at sound_kind sound_of kind_of has_chunks channels_ok is_form walk_of walk_from noted identifier_at size_at identifier letters_after riff wave format_chunk data_chunk file_of head_of riff_of format_start format_rest data_header_of data_length tag_of data_of encoded_at pieces upto samples_in value_at width sample_at sample_of pattern_of sample_of16 signed16 bits16 nearest16 nearest_quotient number_at bytes_of div of_int
minus_zero_lost = refl

pub one_lost : read_of (file_of 44100 2 Pcm16 (one ∷ one ∷ [])) (nan ∷ nan ∷ []) 0 ≡ reading 0 (fin false 32767 (negsuc 14) ∷ fin false 32767 (negsuc 14) ∷ []) 44100
unfolding read_of read_from samples_of sound_in sound_among sound_at sound_kind sound_of kind_of has_chunks channels_ok is_form walk_of walk_from noted identifier_at size_at identifier letters_after riff wave format_chunk data_chunk file_of head_of riff_of format_start format_rest data_header_of data_length tag_of data_of encoded_at pieces upto samples_in value_at width sample_at sample_of pattern_of sample_of16 signed16 bits16 nearest16 nearest_quotient number_at bytes_of div of_int
one_lost = refl
