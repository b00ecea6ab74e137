-- `write_file` meets its contract. Assumes nothing.
use native.Mathlib.Omega.{arith}
use lib.ListN.{length}
use Rattle.wave_sound.proofs.laws.Sound.{channels_are, one_or_two, rate_is}
use Rattle.wave_writer.specs.Write.{head_length}
use Rattle.wave_writer.proofs.laws.Write.{none_asked, file_written, data_room}
use borrow.Author.Rules.{rules}
use Rattle.wave_writer.proofs.file.write_file.Goals as goal

pub data_length-size-requires : goal.data_length-size-requires
data_length-size-requires c =
    let w = none_asked head_length c.args.rate c.args.channels c.args.encoding c.args.samples.now (length c.args.file.now) c.requires in
    record { sample_count_in_range = search rules; one_or_two_channels = w.sided }

pub overflow_cast-size : goal.overflow_cast-size
overflow_cast-size c =
    let w = none_asked head_length c.args.rate c.args.channels c.args.encoding c.args.samples.now (length c.args.file.now) c.requires in
    omega (arith, w.small, c.data_length-size.ensures)

pub put_head-requires : goal.put_head-requires
put_head-requires c =
    let w = none_asked head_length c.args.rate c.args.channels c.args.encoding c.args.samples.now (length c.args.file.now) c.requires in
    record { room_for_head = omega (arith, w.roomy); size_fits = omega (arith, w.small, c.data_length-size.ensures); rate_in_range = (rate_is c.args.rate w.rated).1; at_most_two_channels = (channels_are c.args.channels w.sided).1 }

pub write_samples-requires : goal.write_samples-requires
write_samples-requires c =
    let w = none_asked head_length c.args.rate c.args.channels c.args.encoding c.args.samples.now (length c.args.file.now) c.requires in
    record { samples_in_range = w.in_range; one_or_two_channels = one_or_two c.args.channels w.sided; samples_in_pairs = w.even; room_for_values = omega (arith, data_room c.args.rate c.args.channels c.args.encoding c.args.samples.now c.args.file.now w) }

pub returns : goal.returns
returns c =
    let w = none_asked head_length c.args.rate c.args.channels c.args.encoding c.args.samples.now (length c.args.file.now) c.requires in
    file_written c.args.rate c.args.channels c.args.encoding c.args.samples.now c.args.file.now w c.data_length-size.ensures c.put_head.ensures c.write_samples.ensures
