use mathlib.Core.Path.{◌≡◌}
use mathlib.Core.Bool.{true}
use Prim.Native.Nat.{◌+◌, ◌*◌}
use Rattle.scene_questions.specs.Places.{count_at, table_passes}
use Rattle.scene_rules.proofs.lines.table_passes.Given as goal

abbrev pub invariant-loop-i : goal.invariant-loop-i
invariant-loop-i l = (l.a ≡ l.start + l.i * l.width) × (table_passes l.references (count_at l.counts) l.blocks l.rule l.first l.width l.values l.start l.i ≡ true)
