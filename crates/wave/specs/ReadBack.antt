-- Which samples come back from a file that is written with so many bits and channels.
use Rattle.std.specs.Prelude.{◌≡◌, Some, List, ℕ, Float}
use Rattle.pcm.specs.declared.sample.Encoding.{Encoding}
use Rattle.sound_data.specs.Data.{ComesBack}
use Rattle.wave_writer.specs.Write.{kind_of_bits}

pub record ReadsBack (bits channels : ℕ) (samples : List Float) : Type 0 where
  pub by : (encoding : Encoding) → kind_of_bits bits ≡ Some encoding → ComesBack encoding channels samples
