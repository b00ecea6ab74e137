-- `field_of` gives the rule of a field: the code's list is that of Tables.antt. Assumes nothing.
use mathlib.Core.Path.{refl}
use borrow.Author.Rules.{rules}
use Rattle.scene_tables.specs.InCode.{all_fields}
use Rattle.scene_tables.proofs.tables.field_of.Goals as goal

pub offset_bounds-k : goal.offset_bounds-k
unfolding all_fields
offset_bounds-k c = search rules

pub bounds-k-k : goal.bounds-k-k
unfolding all_fields
bounds-k-k c = search rules

pub returns : goal.returns
unfolding all_fields
returns c = refl
