-- Which blocks stand still, and what becomes of one that does.
use Rattle.std.specs.Prelude.{◌≡◌, Bool, true, false, Some, ℕ, ◌+◌, ◌^◌, ◌≤◌, Float}
use Rattle.recordings.specs.Recordings.{Recordings}
use Rattle.rounding.specs.Duration.{InAnHour, nanos_from_secs}
use Rattle.scene.specs.declared.scene.Head.{Head}
use Rattle.scene.specs.declared.scene.Scene.{Scene}
use Rattle.accepted.specs.SceneOk.{SamplesOk}
use Rattle.mixer.specs.declared.mixer.Mixer.{Mixer}
use Rattle.mixer.specs.Mixer.{mixer_of}
use Rattle.mixer.specs.Sounds.{sounds_played}
use Rattle.mixer.specs.MixerOk.{MixerOk}
use Rattle.steady_mixer.specs.Steady.{ahead}
use Rattle.steady_mixer.specs.MixerSteady.{mixer_steady}
use Rattle.steady_mixer.specs.Settled.{SettledMixer}
use Rattle.renderer.specs.Renderer.{chunk_count, chunks_done, block_samples}
use Rattle.chunk_render.specs.Block.{chunk_clocks, end_ticks, block_nanos, still_samples}
use Rattle.block_render.specs.declared.block.BlockLength.{BlockLength}

-- something waits in a block, and for longer than its nanoseconds, of which `step` is the seconds, and nothing moves
pub record Waits (s : Scene) (step : Float) (m : Mixer) : Type 0 where
  pub steady : mixer_steady (ahead true (block_nanos s.head) (end_ticks s.head m.clocks)) s m ≡ true
  pub seconds : nanos_from_secs step ≡ block_nanos s.head

-- after a block of which nothing moves but the sounds: they have played its frames, and its clocks have moved by the scene's own chunks
unfoldable pub still_done : Scene → Mixer → Mixer
still_done s m =
    let x = sounds_played s s.head.block m in
    mixer_of (chunk_clocks s.head (chunk_count s.head) m.clocks) x.main_volume x.tracks x.sends x.routes x.played

-- a block of the mixer m is one of the mixer x of which nothing moves but the sounds
pub record StandsStill (s : Scene) (m x : Mixer) : Type 0 where
  pub chunks : ℕ
  pub inside : MixerOk s chunks x
  pub clocks : x.clocks ≡ m.clocks
  pub done : still_done s x ≡ chunks_done s (chunk_count s.head) m
  pub heard : (samples : Recordings) → SamplesOk s samples → still_samples s samples x ≡ block_samples s samples m

-- ---- what the code of a block asks

-- The mixer is in its ranges, its clocks can count the block's chunks, and what moves in it has a value by now, unless orders were read just before.
pub record Rendering (ordered : Bool) (s : Scene) (m : Mixer) : Type 0 where
  pub chunks : ℕ
  pub inside : MixerOk s chunks m
  pub few : chunks + chunk_count s.head ≤ 2 ^ 20
  pub settled : ordered ≡ false → SettledMixer s m

pub record LengthOf (h : Head) (l : BlockLength) : Type 0 where
  pub nanos : (n : ℕ) → l.nanos ≡ Some n → n ≡ block_nanos h
  pub hour : InAnHour l.step
