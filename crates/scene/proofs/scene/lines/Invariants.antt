use Rattle.std.proofs.Common.{◌≡◌, take}
use Rattle.scene.specs.Scene.{filled}
use Rattle.scene_questions.specs.Places.{rows_in}
use Rattle.scene.proofs.scene.lines.Given as goal

abbrev pub invariant-loop-i : goal.invariant-loop-i
invariant-loop-i g l = l.out ≡ filled g.row.N g.T.Line.of (take l.i (rows_in l.values l.start g.T.Line.columns l.lines))
