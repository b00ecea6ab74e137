use mathlib.Core.Path.{refl}
use lib.Ieee.{eq}
use Rattle.chunk.specs.Chunk.{is_steady}
use Rattle.chunk.proofs.chunk.Level.is_steady.Goals as goal

pub returns : goal.returns
unfolding eq is_steady
returns c = refl
