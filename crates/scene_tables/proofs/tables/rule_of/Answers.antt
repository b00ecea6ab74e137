-- `rule_of` gives the rule of a table: the code's list is that of Tables.antt. Assumes nothing.
use lib.ListN.{get_or-map}
use Rattle.scene_tables.specs.Tables.{tables, no_table}
use Rattle.scene_tables.specs.InCode.{rule_of}
use Rattle.scene_tables.proofs.tables.rule_of.Goals as goal

pub returns : goal.returns
unfolding rule_of
returns c = get_or-map rule_of tables c.args.t no_table
