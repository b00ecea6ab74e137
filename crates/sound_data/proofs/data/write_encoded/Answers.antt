-- `write_encoded` meets its contract. Assumes nothing.
use Prim.Native.Nat.{◌/◌}
use lib.ListN.{length}
use Rattle.pcm.specs.Sample.{width}
use Rattle.sound_data.proofs.laws.Frames.{two_channels, mono_room, stereo_room}
use Rattle.sound_data.proofs.laws.Written.{left_steps, all_steps, mono_data, stereo_data, sides_written}
use borrow.Author.Rules.{rules}
use Rattle.sound_data.proofs.data.write_encoded.Goals as goal

pub write_values-requires : goal.write_values-requires
write_values-requires c = record { samples_in_range = c.requires.samples_in_range; values_among_samples = left_steps (length c.args.samples.now); room_for_values = mono_room c.args.start (length c.args.samples.now / 2) c.args.channels (width c.args.encoding) (length c.args.bytes.now) (search rules) c.requires.room_for_values }

pub write_values-requires-else-channels-eq1 : goal.write_values-requires-else-channels-eq1
write_values-requires-else-channels-eq1 c = record { samples_in_range = c.requires.samples_in_range; values_among_samples = all_steps (length c.args.samples.now); room_for_values = stereo_room c.args.start (length c.args.samples.now) c.args.channels (width c.args.encoding) (length c.args.bytes.now) (two_channels c.args.channels c.requires.one_or_two_channels (search rules)) c.requires.samples_in_pairs c.requires.room_for_values }

pub returns-then-channels-eq1 : goal.returns-then-channels-eq1
returns-then-channels-eq1 c = sides_written c.args.order c.args.samples.now c.args.start c.args.bytes.now c.args.encoding (search rules) (mono_data c.args.encoding c.args.order c.args.samples.now) c.write_values.ensures

pub returns-else-channels-eq1 : goal.returns-else-channels-eq1
returns-else-channels-eq1 c = sides_written c.args.order c.args.samples.now c.args.start c.args.bytes.now c.args.encoding (two_channels c.args.channels c.requires.one_or_two_channels (search rules)) (stereo_data c.args.encoding c.args.order c.args.samples.now c.requires.samples_in_pairs) c.write_values-else-channels-eq1.ensures
