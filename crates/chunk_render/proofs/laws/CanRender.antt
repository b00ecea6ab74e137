-- A mixer that keeps to what an accepted scene's mixers keep to can be moved through a block and mixed. Assumes nothing.
use Rattle.std.proofs.Common.{ℕ, suc, ◌+◌, ◌^◌, ◌≤◌, arith}
use Rattle.recordings.specs.Recordings.{Recordings}
use Rattle.recordings.proofs.laws.Recordings.{Lent}
use Rattle.scene.specs.declared.scene.Scene.{Scene}
use Rattle.accepted.specs.SceneOk.{SceneOk, SamplesOk}
use Rattle.mixer.specs.declared.mixer.Mixer.{Mixer}
use Rattle.mixer.specs.Sounds.{sounds_played}
use Rattle.mixer.specs.MixerOk.{MixerOk}
use Rattle.mixer_laws.proofs.laws.Mixes.{mixes, chunk_ok}
use Rattle.mixer_laws.proofs.laws.Moved.{can_move, played_ok}
use Rattle.renderer.specs.Renderer.{chunk_count, in_chunk, chunks_done}
use Rattle.renderer.proofs.laws.Renderer.{chunk_seconds, seconds_step, in_chunk_ok, chunks_ok}
use Rattle.chunk_render.specs.Block.{CanMix, CanRender, CanPlay}

module _ (s : Scene) (samples : Recordings) (ok : SceneOk s) (there : SamplesOk s samples) (short : Lent samples) where
  pub can_mix : (c : ℕ) (m : Mixer) → MixerOk s c m → CanMix s samples m
  can_mix c m within = record { mixes = mixes s samples c m ok there short within; chunks = λ n b. chunk_ok s samples c n m ok there within b }

  pub can_render : (c : ℕ) (m : Mixer) → MixerOk s c m → c + chunk_count s.head ≤ 2 ^ 20 → CanRender s samples m
  can_render c m within few =
      record {
        clocks = λ k b. can_move s (c + k) (chunk_seconds s k) (chunks_done s k m) (chunks_ok s ok k c m within) (omega (arith, few, b)) (seconds_step s k ok);
        mixed = λ k b. can_mix (suc (c + k)) (in_chunk s k (chunks_done s k m)) (in_chunk_ok s ok k (c + k) (chunks_done s k m) (chunks_ok s ok k c m within));
      }

  pub can_play : (c : ℕ) (m : Mixer) → MixerOk s c m → CanPlay s samples m
  can_play c m within = record { mixed = λ n. can_mix c (sounds_played s n m) (played_ok s c n m ok within) }
