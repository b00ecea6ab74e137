-- `chunk_parts` meets its contract: every chunk but the last is full. Assumes nothing.
use Rattle.std.proofs.Common.{sym, ◌∙◌, arith}
use Rattle.renderer.proofs.laws.Lengths.{count_most}
use Rattle.chunk_render.proofs.laws.Turn.{parts_full}
use Rattle.chunk_render.proofs.chunks.chunk_parts.Goals as goal

pub overflow_add-k : goal.overflow_add-k
overflow_add-k c = omega (arith, c.requires.inside, count_most c.args.head c.requires.head_ok.0, c.requires.head_ok.2)

pub returns-else-k-chunk_count : goal.returns-else-k-chunk_count
returns-else-k-chunk_count c = parts_full c.args.k c.requires.parts_of_the_block c.requires.head_ok.0 c.requires.inside (λ e. c.if-k-chunk_count.false (e ∙ sym c.chunk_count.ensures))
