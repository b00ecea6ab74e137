use mathlib.Core.Path.{refl}
use Rattle.renderer.specs.Renderer.{chunk_count}
use Rattle.renderer.proofs.renderer.chunk_count.Goals as goal

pub returns : goal.returns
unfolding chunk_count
returns c = refl
