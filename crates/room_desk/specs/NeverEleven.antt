-- Number 11 is never met inside a render, in the amplitude routine's own words.
use Rattle.std.specs.Prelude.{◌≡◌, ℕ, ◌<◌}
use Rattle.tween.specs.Tweenable.{interpolated}
use Rattle.decibels.specs.Answer.{amplitude_answer}
use Rattle.spatial.specs.declared.placing.Placing.{Placing}
use Rattle.spatial.specs.declared.placing.Placing.TheVariants.{Plain, Unheard, Spatial}
use Rattle.scene.specs.declared.scene.Scene.{Scene}
use Rattle.chunk.specs.declared.chunk.Level.{Level}
use Rattle.chunk.specs.Chunk.{amount_at, track_row, send_row}
use Rattle.mixer.specs.Mixer.{parameter_of}
use Rattle.renderer.specs.Renderer.{chunk_frames, mixer_in, chunk_in}

abbrev pub GivenAt : ℕ → Level → Type 0
GivenAt n l = (i : ℕ) → i < n → (amplitude_answer (interpolated l.before l.now (amount_at i n)).0).number ≡ 0

-- a placing has a level, or none is read
abbrev pub GivenOf : Placing → Type 0
GivenOf Plain = Unit {0}
GivenOf Unheard = Unit {0}
GivenOf (Spatial level) = (amplitude_answer level.0).number ≡ 0

pub record NeverEleven (s : Scene) (b k : ℕ) : Type 0 where
  pub volumes : (t : ℕ) → t < s.track_count → GivenAt (chunk_frames s.head k) (track_row (chunk_in s b k) t).volume
  pub fades : (t : ℕ) → t < s.track_count → GivenAt (chunk_frames s.head k) (track_row (chunk_in s b k) t).fade
  pub placings : (t : ℕ) → t < s.track_count → GivenOf (track_row (chunk_in s b k) t).placing
  pub sends : (i : ℕ) → i < s.send_count → GivenAt (chunk_frames s.head k) (send_row (chunk_in s b k) i)
  pub routes : (r : ℕ) → r < s.route_count → (amplitude_answer (parameter_of (mixer_in s b k).routes r).raw_value.0).number ≡ 0
  pub main : GivenAt (chunk_frames s.head k) (chunk_in s b k).main
