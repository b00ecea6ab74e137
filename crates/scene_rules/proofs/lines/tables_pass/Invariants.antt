use mathlib.Core.Path.{◌≡◌}
use mathlib.Core.Bool.{true}
use lib.ListN.{length, take}
use Rattle.scene_tables.specs.Bytes.{every}
use Rattle.scene_tables.specs.Tables.{tables}
use Rattle.scene_tables.specs.InCode.{all_fields}
use Rattle.scene_questions.specs.Places.{count_at}
use Rattle.scene_rules.proofs.laws.Passes.{table_test}
use Rattle.scene_rules.proofs.lines.tables_pass.Given as goal

abbrev pub invariant-loop-t : goal.invariant-loop-t
invariant-loop-t l = (l.first ≡ length (all_fields (take l.t tables))) × (every l.t (table_test l.references (count_at l.counts) l.blocks l.starts l.counts l.values) ≡ true)
