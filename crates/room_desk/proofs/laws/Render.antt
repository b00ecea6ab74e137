-- What a refusal leaves of the output. Assumes nothing.
use mathlib.Core.Path.{◌≡◌, refl}
use mathlib.Core.Bool.{Bool, true, false, cond}
use mathlib.Core.List.{List}
use Prim.Native.Nat.{ℕ}
use borrow.Author.Tests.{eqb-true}
use lib.Dec.{eqb}
use lib.ListN.{length}
use lib.Ieee.{Float}
use Rattle.recordings.specs.Recordings.{Recordings}
use Rattle.scene_file.specs.Grammar.{tables_of}
use Rattle.scene_questions.specs.Questions.{answer}
use Rattle.scene.specs.Scene.{scene_of}
use Rattle.renderer.specs.Renderer.{rendered}
use Rattle.room_desk.specs.Render.{output_of}

pub output_refused : (file : List ℕ) (samples : Recordings) (output : List Float) → (answer file samples (length output) ≡ 0 → ⊥) → output ≡ output_of file samples output
unfolding output_of
output_refused file samples output h = go (eqb (answer file samples (length output)) 0) refl
  where
    go : (b : Bool) → eqb (answer file samples (length output)) 0 ≡ b → output ≡ cond b (rendered (scene_of (tables_of file)) samples) output
    go true t = absurd (h (eqb-true (answer file samples (length output)) 0 t))
    go false t = refl
