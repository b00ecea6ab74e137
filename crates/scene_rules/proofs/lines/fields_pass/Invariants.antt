use mathlib.Core.Path.{◌≡◌}
use mathlib.Core.Bool.{true}
use Rattle.scene_questions.specs.Places.{count_at, fields_pass}
use Rattle.scene_rules.proofs.lines.fields_pass.Given as goal

abbrev pub invariant-loop-j : goal.invariant-loop-j
invariant-loop-j l = fields_pass l.references (count_at l.counts) l.first l.j l.own l.values l.a ≡ true
