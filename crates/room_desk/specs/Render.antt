-- What rendering a scene file with its samples comes to: the whole meaning of a scene, from bytes to samples.
use Rattle.std.specs.Prelude.{◌≡◌, true, cond, List, ℕ, eqb, length, Float}
use Rattle.recordings.specs.Recordings.{Recordings}
use Rattle.scene_file.specs.Grammar.{tables_of}
use Rattle.scene_questions.specs.Questions.{answer}
use Rattle.scene.specs.Scene.{scene_of}
use Rattle.renderer.specs.Renderer.{rendered}
use Rattle.noninterference.specs.Removed.{Choice}
use Rattle.noninterference.specs.Alike.{AreSamples, alike}

-- The output after the call: the render where the questions accept, and what it held where they don't.
unfoldable pub output_of : List ℕ → Recordings → List Float → List Float
output_of file samples output = cond (eqb (answer file samples (length output)) 0) (rendered (scene_of (tables_of file)) samples) output

-- What lies inside silent tracks is not heard. `written` is what a call with this file, these samples and this output left in the output: every other
-- accepted scene that is alike but for what lies inside the chosen tracks has the same one, for every choice of tracks in either.
abbrev pub InsideUnheard : List ℕ → Recordings → List Float → List Float → Type 0
InsideUnheard file samples output written =
    (other : List ℕ) (heard : Recordings) (there : List Float) (chosen others : Choice)
    → AreSamples heard
    → answer file samples (length output) ≡ 0
    → answer other heard (length there) ≡ 0
    → alike (tables_of file) samples chosen (tables_of other) heard others ≡ true
    → written ≡ output_of other heard there
