-- `write_samples` meets its contract. Assumes nothing.
use Prim.Native.Nat.{◌/◌, ◌*◌}
use lib.ListN.{length}
use Rattle.sound_data.proofs.laws.Frames.{known_room}
use Rattle.sound_data.proofs.laws.Written.{known_written}
use borrow.Author.Rules.{rules}
use Rattle.sound_data.proofs.data.write_samples.Goals as goal

pub write_encoded-requires : goal.write_encoded-requires
write_encoded-requires c = record { samples_in_range = c.requires.samples_in_range; one_or_two_channels = c.requires.one_or_two_channels; samples_in_pairs = c.requires.samples_in_pairs; room_for_values = known_room c.args.encoding c.args.start (length c.args.samples.now / 2 * c.args.channels) (length c.args.bytes.now) (search rules) c.requires.room_for_values }

pub write_encoded-requires-in-Float32 : goal.write_encoded-requires-in-Float32
write_encoded-requires-in-Float32 c = record { samples_in_range = c.requires.samples_in_range; one_or_two_channels = c.requires.one_or_two_channels; samples_in_pairs = c.requires.samples_in_pairs; room_for_values = known_room c.args.encoding c.args.start (length c.args.samples.now / 2 * c.args.channels) (length c.args.bytes.now) (search rules) c.requires.room_for_values }

pub returns-in-Pcm16 : goal.returns-in-Pcm16
returns-in-Pcm16 c = known_written c.args.order c.args.samples.now c.args.start c.args.bytes.now c.args.channels c.in-Pcm16.is c.write_encoded.ensures

pub returns-in-Float32 : goal.returns-in-Float32
returns-in-Float32 c = known_written c.args.order c.args.samples.now c.args.start c.args.bytes.now c.args.channels c.in-Float32.is c.write_encoded-in-Float32.ensures
