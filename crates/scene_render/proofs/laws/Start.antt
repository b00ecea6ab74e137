-- What is made of a scene's new mixer: its chunk, and the chunk's links. Assumes nothing.
use Rattle.std.proofs.Common.{◌≡◌, ℕ, ◌-◌, ◌<◌, ◌≤◌, sym, ap, subst, le_trans, le_of_eq}
use Rattle.limits.specs.Limits.{chunk_frames_most}
use Rattle.scene.specs.declared.scene.Head.{Head}
use Rattle.scene.specs.declared.scene.Scene.{Scene}
use Rattle.accepted.specs.SceneOk.{SceneOk}
use Rattle.chunk.specs.declared.chunk.Chunk.{Chunk}
use Rattle.chunk.specs.declared.chunk.ChunkTrack.{ChunkTrack}
use Rattle.chunk.specs.Chunk.{track_row}
use Rattle.mixer.specs.declared.mixer.Mixer.{Mixer}
use Rattle.mixer.specs.Mixer.{mixer_new}
use Rattle.mixer.specs.MixerOk.{MixerOk}
use Rattle.mixer_laws.proofs.laws.Made.{new_ok}
use Rattle.mixer_chunk.specs.ChunkOf.{chunk_track, chunk_of}
use Rattle.mixer_chunk.proofs.laws.Rows.{track_here}
use Rattle.renderer.specs.Renderer.{chunk_count, chunk_frames}
use Rattle.renderer.proofs.laws.Lengths.{frames_most}

-- a block's last chunk is a chunk
pub last_fits : (h : Head) (n : ℕ) → h.buffer ≤ chunk_frames_most → n ≡ chunk_frames h (chunk_count h - 1) → n ≤ chunk_frames_most
last_fits h n few e = le_trans (le_of_eq e) (le_trans (frames_most h (chunk_count h - 1)) few)

pub new_made : (s : Scene) {mixer : Mixer} → SceneOk s → mixer ≡ mixer_new s → MixerOk s 0 mixer
new_made s ok e = subst (MixerOk s 0) (sym e) (new_ok s ok)

-- a track's parent stands on an earlier line
abbrev ParentsEarlier : Chunk → Type 0
ParentsEarlier c = (j : ℕ) → j < c.track_count → (track_row c j).parent ≤ j

first_earlier : (s : Scene) (n : ℕ) (m : Mixer) → SceneOk s → (j : ℕ) → j < s.track_count → (track_row (chunk_of s n m) j).parent ≤ j
unfolding chunk_track
first_earlier s n m ok j b = le_trans (le_of_eq (sym (ap (λ (t : ChunkTrack). t.parent) (track_here s n m ok j b)))) (ok.parents j b)

first_parents : (s : Scene) (n : ℕ) (m : Mixer) → SceneOk s → ParentsEarlier (chunk_of s n m)
unfolding chunk_of
first_parents s n m ok = first_earlier s n m ok

pub parents_earlier : (s : Scene) (n : ℕ) (m : Mixer) {c : Chunk} → SceneOk s → c ≡ chunk_of s n m → (j : ℕ) → j < c.track_count → (track_row c j).parent ≤ j
parents_earlier s n m ok e = subst ParentsEarlier (sym e) (first_parents s n m ok)
