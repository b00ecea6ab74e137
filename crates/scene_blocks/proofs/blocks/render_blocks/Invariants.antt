use Rattle.std.proofs.Common.{◌≡◌}
use Rattle.recordings.specs.Recordings.{recordings}
use Rattle.laws.specs.Pieces.{pieces, begun}
use Rattle.renderer.specs.Renderer.{mixer_at}
use Rattle.scene_blocks.proofs.laws.Blocks.{show_piece}
use Rattle.scene_blocks.proofs.blocks.render_blocks.Given as goal

abbrev pub invariant-loop-b : goal.invariant-loop-b
invariant-loop-b l =
    (l.mixer ≡ mixer_at l.scene l.b)
    × (l.output ≡ begun (pieces (show_piece l.scene (recordings l.samples l.visitor)) l.b) l.initial.output)
