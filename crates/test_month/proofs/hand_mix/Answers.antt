-- `hand_mix` meets its contract. Assumes nothing.
use borrow.Author.Rules.{rules}
use Rattle.month_files.proofs.laws.Read.{further_none, further_then, still_reached, ended_reached, ended_next}
use Rattle.test_month.proofs.hand_mix.Goals as goal

pub hand_over-whole-requires : goal.hand_over-whole-requires
hand_over-whole-requires c = ended_reached c.args.head.now c.args.i c.args.stream.now c.requires.earlier_mixes_read.1 c.requires.earlier_mixes_read.0

pub with_end-requires : goal.with_end-requires
with_end-requires c =
    let R = ended_reached c.args.head.now c.args.i c.args.stream.now c.requires.earlier_mixes_read.1 c.requires.earlier_mixes_read.0 in
    let F = further_then c.args.stream.now c.args.stream.now c.hand_over-whole.result _ (further_none c.args.stream.now) c.hand_over-whole.ensures in
    record { stream_reachable = still_reached c.args.stream.now c.hand_over-whole.result R F; at_least_one_channel = c.channels_at-channels.ensures.0 }

pub returns : goal.returns
returns c =
    let F = further_then c.args.stream.now c.args.stream.now c.hand_over-whole.result _ (further_none c.args.stream.now) c.hand_over-whole.ensures in
    (search rules, ended_next c.args.head.now c.args.i c.args.stream.now c.requires.earlier_mixes_read.1 c.requires.earlier_mixes_read.0 c.hand_over-whole.result c.with_end.result c.channels_at-channels.result c.requires.head_holds_line.1 F c.channels_at-channels.ensures.1 c.with_end.ensures)
