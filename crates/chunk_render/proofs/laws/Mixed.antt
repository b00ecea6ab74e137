-- What mixing asks of a chunk that was laid from a mixer, and what goes out. Assumes nothing.
use Rattle.std.proofs.Common.{◌≡◌, ℕ, ◌*◌, ◌≤◌, List, length, refl, sym, ap, ◌∙◌, subst}
use lib.Ieee.{Float}
use Rattle.recordings.specs.Recordings.{Recordings}
use Rattle.limits.specs.Limits.{chunk_frames_most}
use Rattle.laws.specs.Pieces.{pieces}
use Rattle.scene.specs.declared.scene.Scene.{Scene}
use Rattle.accepted.specs.SceneOk.{SceneOk}
use Rattle.chunk.specs.declared.chunk.Chunk.{Chunk}
use Rattle.chunk.specs.Chunk.{ChunkOk, parts_of}
use Rattle.frame.specs.Layout.{scratch, frame_at, with_frames}
use Rattle.track.specs.Mix.{mixed_set}
use Rattle.track_sounds.specs.Owners.{LinksOf}
use Rattle.mixer.specs.declared.mixer.Mixer.{Mixer}
use Rattle.mixer.specs.Mixer.{mixer_new}
use Rattle.mixer.specs.Sounds.{sounds_played}
use Rattle.mixer_chunk.specs.ChunkOf.{chunk_of, chunk_played}
use Rattle.renderer.proofs.laws.Lengths.{frame_piece}
use Rattle.renderer.proofs.laws.Renderer.{mix_written}
use Rattle.chunk_render.specs.Block.{CanMix, mixed_samples}
use Rattle.chunk_render.proofs.laws.Linked.{links_same}

pub laid_mixes : {s : Scene} {samples : Recordings} {m : Mixer} {n : ℕ} {x : Chunk} → CanMix s samples m → n ≤ chunk_frames_most → x ≡ chunk_of s n m → ChunkOk x samples
laid_mixes {s} {samples} {m} {n} ok few e = subst (λ (c : Chunk). ChunkOk c samples) (sym e) (ok.chunks n few)

module _ (s : Scene) (n : ℕ) (m : Mixer) {x : Chunk} (e : x ≡ chunk_of s n m) where
  pub laid_frames : x.frames ≡ n
  unfolding chunk_of
  laid_frames = ap (λ (c : Chunk). c.frames) e

  pub laid_parts : {parts : List Float} → parts ≡ parts_of n → parts ≡ parts_of x.frames
  laid_parts q = q ∙ sym (ap parts_of laid_frames)

  pub laid_links : SceneOk s → {a b d : List ℕ} → LinksOf (chunk_of s s.head.buffer (mixer_new s)) a b d → LinksOf x a b d
  laid_links accepted {a} {b} {d} h = subst (λ (c : Chunk). LinksOf c a b d) (sym e) (links_same s accepted s.head.buffer n (mixer_new s) m h)

  pub laid_samples : (samples : Recordings) (channels : ℕ) (mix₀ : List Float) {mix : List Float} → 2 * n ≤ length mix₀ → mix ≡ with_frames (scratch 0 x.frames) (mixed_set x samples) mix₀
      → pieces (frame_piece channels (frame_at (scratch 0 n) mix)) n ≡ mixed_samples channels n (chunk_of s n m) samples
  unfolding mixed_samples
  laid_samples samples channels mix₀ long q = mix_written channels n x samples mix₀ laid_frames long q ∙ ap (λ (c : Chunk). mixed_samples channels n c samples) e

-- ---- a chunk of which nothing moves but the sounds

-- Its other lines are those of mixer m: laid anew for what the sounds have played, it is the mixer's.
abbrev pub Rests : Scene → Mixer → Chunk → Type 0
Rests s m c = (n frames : ℕ) → chunk_played s n (sounds_played s frames m) c ≡ chunk_of s n (sounds_played s frames m)

pub rests_laid : (s : Scene) (n : ℕ) (m : Mixer) {c : Chunk} → c ≡ chunk_of s n m → Rests s m c
unfolding chunk_played chunk_of sounds_played
rests_laid s n m e k frames = rw e refl

pub rests_on : (s : Scene) (n frames : ℕ) (m : Mixer) {c : Chunk} → c ≡ chunk_of s n (sounds_played s frames m) → Rests s m c
unfolding chunk_played chunk_of sounds_played
rests_on s n frames m e k more = rw e refl
