-- `rest_lines` meets its contract: the lines so far are those of some bytes more. Assumes nothing.
use lib.ListN.{take}
use Rattle.month_files.proofs.laws.Read.{more_none, more_then}
use Rattle.month_report.proofs.rest_lines.Goals as goal

pub loop-init : goal.loop-init
loop-init g c = more_none _

pub returns-then-read_lines-eq0 : goal.returns-then-read_lines-eq0
returns-then-read_lines-eq0 g c = more_then c.args.lines c.loop.all c.read_lines.new.lines (take c.read_lines.result c.read_lines.new.buffer) c.loop.invariant c.read_lines.ensures

pub loop-preserved : goal.loop-preserved
loop-preserved g c = more_then c.args.lines c.loop.all c.read_lines.new.lines (take c.read_lines.result c.read_lines.new.buffer) c.loop.invariant c.read_lines.ensures

pub returns-after-loop : goal.returns-after-loop
returns-after-loop g c = c.loop.invariant
