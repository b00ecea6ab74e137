-- `read_pieces` meets its contract: all that was read is of this mix. Assumes nothing.
use Rattle.month_files.proofs.laws.Read.{further_none, further_then, still_reached}
use Rattle.month_report.proofs.read_pieces.Goals as goal

pub loop-init : goal.loop-init
loop-init g c = further_none _

pub read_piece-requires : goal.read_piece-requires
read_piece-requires g c = still_reached c.args.stream c.loop.all c.requires c.loop.invariant

pub returns-then-read_piece-eq0 : goal.returns-then-read_piece-eq0
returns-then-read_piece-eq0 g c = further_then c.args.stream c.loop.all c.read_piece.new.stream _ c.loop.invariant c.read_piece.ensures

pub loop-preserved : goal.loop-preserved
loop-preserved g c = further_then c.args.stream c.loop.all c.read_piece.new.stream _ c.loop.invariant c.read_piece.ensures

pub returns-after-loop : goal.returns-after-loop
returns-after-loop g c = c.loop.invariant
