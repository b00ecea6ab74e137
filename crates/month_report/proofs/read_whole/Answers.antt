-- `read_whole` meets its contract. Assumes nothing.
use Rattle.month_files.proofs.laws.Read.{ended_reached, ended_next, still_reached}
use Rattle.month_report.proofs.read_whole.Goals as goal

pub read_mix-read-requires : goal.read_mix-read-requires
read_mix-read-requires g c = ended_reached c.args.head.now c.args.i c.args.stream c.requires.earlier_mixes_read.1 c.requires.earlier_mixes_read.0

pub with_end-requires : goal.with_end-requires
with_end-requires g c =
    let R = ended_reached c.args.head.now c.args.i c.args.stream c.requires.earlier_mixes_read.1 c.requires.earlier_mixes_read.0 in
    record { stream_reachable = still_reached c.args.stream c.read_mix-read.result R c.read_mix-read.ensures; at_least_one_channel = c.channels_at-channels.ensures.0 }

pub returns : goal.returns
returns g c = ended_next c.args.head.now c.args.i c.args.stream c.requires.earlier_mixes_read.1 c.requires.earlier_mixes_read.0 c.read_mix-read.result c.with_end.result c.channels_at-channels.result c.requires.head_holds_line.1 c.read_mix-read.ensures c.channels_at-channels.ensures.1 c.with_end.ensures
