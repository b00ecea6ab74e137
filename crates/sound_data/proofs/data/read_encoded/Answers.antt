-- `read_encoded` meets its contract. Assumes nothing.
use Prim.Native.Nat.{◌/◌}
use lib.ListN.{length}
use Rattle.pcm.specs.Sample.{width}
use Rattle.sound_data.proofs.laws.Frames.{two_channels, mono_room, stereo_room, sides_read}
use borrow.Author.Rules.{rules}
use Rattle.sound_data.proofs.data.read_encoded.Goals as goal

pub read_mono-requires : goal.read_mono-requires
read_mono-requires c = record { samples_in_pairs = c.requires.samples_in_pairs; values_in_bytes = mono_room c.args.start (length c.args.samples.now / 2) c.args.channels (width c.args.encoding) (length c.args.bytes.now) (search rules) c.requires.values_in_bytes }

pub read_stereo-requires : goal.read_stereo-requires
read_stereo-requires c = record { samples_in_pairs = c.requires.samples_in_pairs; values_in_bytes = stereo_room c.args.start (length c.args.samples.now) c.args.channels (width c.args.encoding) (length c.args.bytes.now) (two_channels c.args.channels c.requires.one_or_two_channels (search rules)) c.requires.samples_in_pairs c.requires.values_in_bytes }

pub returns-then-channels-eq1 : goal.returns-then-channels-eq1
returns-then-channels-eq1 c = sides_read c.args.order c.args.bytes.now c.args.start (length c.args.samples.now / 2) c.args.encoding (search rules) c.read_mono.ensures

pub returns-else-channels-eq1 : goal.returns-else-channels-eq1
returns-else-channels-eq1 c = sides_read c.args.order c.args.bytes.now c.args.start (length c.args.samples.now / 2) c.args.encoding (two_channels c.args.channels c.requires.one_or_two_channels (search rules)) c.read_stereo.ensures
