-- `read_samples` meets its contract. Assumes nothing.
use Prim.Native.Nat.{◌/◌, ◌*◌}
use lib.ListN.{length}
use Rattle.sound_data.proofs.laws.Frames.{known_room, known_read}
use borrow.Author.Rules.{rules}
use Rattle.sound_data.proofs.data.read_samples.Goals as goal

pub read_encoded-requires : goal.read_encoded-requires
read_encoded-requires c = record { one_or_two_channels = c.requires.one_or_two_channels; samples_in_pairs = c.requires.samples_in_pairs; values_in_bytes = known_room c.args.encoding c.args.start (length c.args.samples.now / 2 * c.args.channels) (length c.args.bytes.now) (search rules) c.requires.values_in_bytes }

pub read_encoded-requires-in-Float32 : goal.read_encoded-requires-in-Float32
read_encoded-requires-in-Float32 c = record { one_or_two_channels = c.requires.one_or_two_channels; samples_in_pairs = c.requires.samples_in_pairs; values_in_bytes = known_room c.args.encoding c.args.start (length c.args.samples.now / 2 * c.args.channels) (length c.args.bytes.now) (search rules) c.requires.values_in_bytes }

pub returns-in-Pcm16 : goal.returns-in-Pcm16
returns-in-Pcm16 c = known_read c.args.order c.args.bytes.now c.args.start (length c.args.samples.now / 2) c.args.channels c.in-Pcm16.is c.read_encoded.ensures

pub returns-in-Float32 : goal.returns-in-Float32
returns-in-Float32 c = known_read c.args.order c.args.bytes.now c.args.start (length c.args.samples.now / 2) c.args.channels c.in-Float32.is c.read_encoded-in-Float32.ensures
