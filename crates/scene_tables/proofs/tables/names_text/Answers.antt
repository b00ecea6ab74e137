-- `names_text` gives the names lines of the list of tables: both are the same bytes. Assumes nothing.
use mathlib.Core.Path.{refl}
use Rattle.scene_tables.specs.Bytes.{bytes_of}
use Rattle.scene_tables.specs.InCode.{names_text}
use Rattle.scene_tables.proofs.tables.names_text.Goals as goal

pub returns : goal.returns
unfolding names_text bytes_of
returns c = refl
