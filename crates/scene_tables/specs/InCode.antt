-- The list of tables as the code has it: the names lines with their line feeds, the rules, the fields of all tables.
use Rattle.std.specs.Prelude.{List, [], ◌∷◌, ◌++◌, ℕ}
use Rattle.scene_tables.specs.declared.tables.TableRule.{TableRule}
use Rattle.scene_tables.specs.declared.tables.Field.{Field}
use Rattle.scene_tables.specs.Bytes.{bytes_of}
use Rattle.scene_tables.specs.Tables.{Table, width}

unfoldable pub names_text : List Table → List ℕ
names_text [] = []
names_text (t ∷ ts) = bytes_of t.names ++ 10 ∷ names_text ts

unfoldable pub rule_of : Table → TableRule
rule_of t = record { least = t.least; most = t.most; fields = width t; rule = t.rule }

unfoldable pub all_fields : List Table → List Field
all_fields [] = []
all_fields (t ∷ ts) = t.fields ++ all_fields ts
