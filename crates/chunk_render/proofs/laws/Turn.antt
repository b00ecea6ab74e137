-- The loops over the chunks of a block: what a turn asks, and what it gives. Assumes nothing.
use Rattle.std.proofs.Common.{◌≡◌, ℕ, ◌+◌, ◌-◌, ◌*◌, ◌<◌, ◌≤◌, List, ◌++◌, length, take, drop, sym, ap, ◌∙◌, subst, ap₂, le_refl, le_trans, mul-le-mul, arith, lit≤}
use lib.Ieee.{Float}
use Rattle.recordings.specs.Recordings.{Recordings}
use Rattle.limits.specs.Limits.{chunk_frames_most, block_frames_most, channels_most}
use Rattle.laws.specs.Pieces.{pieces, begun}
use Rattle.laws.proofs.laws.Loop.{upto_zero, upto_turn}
use Rattle.laws.proofs.laws.Pieces.{length-pieces, begun_zero, begun_end}
use Rattle.rounding.specs.Duration.{InAnHour}
use Rattle.clock.specs.WhenToStart.{CanMoveAll}
use Rattle.clock.specs.ChunkTime.{chunk_time}
use Rattle.scene.specs.declared.scene.Head.{Head}
use Rattle.scene.specs.declared.scene.Scene.{Scene}
use Rattle.accepted.specs.SceneOk.{SceneOk}
use Rattle.chunk.specs.declared.chunk.Chunk.{Chunk}
use Rattle.chunk.specs.Chunk.{parts_of}
use Rattle.frame.specs.Frame.{clamped}
use Rattle.track.specs.Mix.{mixed_frame}
use Rattle.mixer.specs.declared.mixer.Mixer.{Mixer}
use Rattle.mixer.specs.Mixer.{mixer_of, mixer_update}
use Rattle.mixer.specs.Sounds.{sounds_played}
use Rattle.mixer_chunk.specs.ChunkOf.{chunk_of}
use Rattle.renderer.specs.Renderer.{chunk_count, chunk_frames, channels_of, in_chunk, chunk_done, chunks_done, chunk_samples, block_samples}
use Rattle.renderer.proofs.laws.Lengths.{chunk_starts, frames_most, place_ends, frames_full, length_channels, length_chunk, length_all, piece_turn, block_piece, block_pieces}
use Rattle.renderer.proofs.laws.Renderer.{seconds_in_an_hour}
use Rattle.still_blocks.proofs.laws.Played.{frames_before, before_first, before_next, before_chunk, before_all, played_none, played_twice}
use Rattle.chunk_render.specs.declared.chunks.BlockParts.{BlockParts}
use Rattle.chunk_render.specs.Block.{PartsOf, CanMix, CanRender, seconds, mixed_samples, still_head, still_chunk, still_samples}

-- ---- by a head

pub inside : (h : Head) {k count : ℕ} → k < count → count ≡ chunk_count h → k < chunk_count h
inside h {k} b e = subst (λ (n : ℕ). k < n) e b

module _ (h : Head) (some : 1 ≤ h.buffer) (k : ℕ) (inside : k < chunk_count h) where
  pub starts_before : k * h.buffer ≤ h.block
  starts_before = let l : k * h.buffer < h.block = chunk_starts h some k inside in omega (arith, l)

  module _ {n : ℕ} (is : n ≡ chunk_frames h k) where
    pub turn_ends : k * h.buffer * h.channels + n * h.channels ≤ h.block * h.channels
    turn_ends = place_ends h k n h.channels some inside is

    pub turn_fits : h.block ≤ block_frames_most → h.channels ≤ channels_most → k * h.buffer * h.channels + n * h.channels ≤ block_frames_most * channels_most
    turn_fits few narrow = le_trans turn_ends (mul-le-mul few narrow)

    pub turn_short : h.buffer ≤ chunk_frames_most → n ≤ chunk_frames_most
    turn_short few = le_trans (subst (λ (i : ℕ). i ≤ h.buffer) (sym is) (frames_most h k)) few

-- the parts of chunk k
pub parts_last : {h : Head} {p : BlockParts} (k : ℕ) → PartsOf h p → k + 1 ≡ chunk_count h → p.last ≡ parts_of (chunk_frames h k)
parts_last {h} k ok e = ok.last ∙ ap (λ (i : ℕ). parts_of (chunk_frames h i)) (omega (arith, e))

pub parts_full : {h : Head} {p : BlockParts} (k : ℕ) → PartsOf h p → 1 ≤ h.buffer → k < chunk_count h → (k + 1 ≡ chunk_count h → ⊥) → p.full ≡ parts_of (chunk_frames h k)
parts_full {h} k ok some inside more = ok.full ∙ ap parts_of (sym (frames_full h k some (omega arith)))

-- ---- a chunk that moves

module _ (s : Scene) (k : ℕ) (m : Mixer) {n : ℕ} (is : n ≡ chunk_frames s.head k) {dt : Float} (time : dt ≡ chunk_time s.head.rate n) where
  moved_time : dt ≡ seconds s.head k
  moved_time = time ∙ ap (chunk_time s.head.rate) is

  pub moved_hour : SceneOk s → InAnHour dt
  moved_hour ok = subst InAnHour (sym moved_time) (seconds_in_an_hour s k ok)

  module _ {next : Mixer} (e : next ≡ mixer_update s dt m) where
    pub moved_is : next ≡ in_chunk s k m
    unfolding in_chunk
    moved_is = e ∙ ap (λ (d : Float). mixer_update s d m) moved_time

    pub moved_done : {last : Mixer} → last ≡ sounds_played s n next → last ≡ chunk_done s k m
    unfolding chunk_done
    moved_done q = q ∙ ap₂ (sounds_played s) is moved_is

    pub moved_samples : (samples : Recordings) {out : List Float} → out ≡ mixed_samples s.head.channels n (chunk_of s n next) samples → out ≡ chunk_samples s samples k (in_chunk s k m)
    unfolding mixed_samples chunk_samples
    moved_samples samples q = q ∙ ap₂ (λ (i : ℕ) (x : Mixer). mixed_samples s.head.channels i (chunk_of s i x) samples) is moved_is

-- ---- a block that moves

module _ (s : Scene) (samples : Recordings) (m : Mixer) where
  pub done_begin : m ≡ chunks_done s 0 m
  unfolding chunks_done
  done_begin = sym (upto_zero (chunk_done s) m)

  pub samples_begin : (out : List Float) → out ≡ begun (pieces (block_piece s samples m) 0) out
  samples_begin out = begun_zero (block_piece s samples m) out

  module _ (k : ℕ) {now : Mixer} (e : now ≡ chunks_done s k m) where
    pub done_turn : {next : Mixer} → next ≡ chunk_done s k now → next ≡ chunks_done s (k + 1) m
    unfolding chunks_done
    done_turn q = q ∙ upto_turn (chunk_done s) k m e

    pub turn_mixes : CanRender s samples m → k < chunk_count s.head → CanMix s samples (in_chunk s k now)
    turn_mixes ok inside = subst (λ (x : Mixer). CanMix s samples (in_chunk s k x)) (sym e) (ok.mixed k inside)

    pub turn_moves : CanRender s samples m → k < chunk_count s.head → CanMoveAll now.clocks (seconds s.head k)
    turn_moves ok inside = subst (λ (x : Mixer). CanMoveAll x.clocks (seconds s.head k)) (sym e) (ok.clocks k inside)

    pub samples_turn : 1 ≤ s.head.buffer → k < chunk_count s.head → {n : ℕ} → n ≡ chunk_frames s.head k → (out₀ : List Float) {out last : List Float} → out ≡ begun (pieces (block_piece s samples m) k) out₀ → last ≡ chunk_samples s samples k (in_chunk s k now)
        → take (k * s.head.buffer * s.head.channels) out ++ (last ++ drop (k * s.head.buffer * s.head.channels + n * s.head.channels - k * s.head.buffer * s.head.channels) (drop (k * s.head.buffer * s.head.channels) out))
        ≡ begun (pieces (block_piece s samples m) (k + 1)) out₀
    samples_turn some inside {n} is out₀ q r =
        piece_turn s.head some (block_piece s samples m) (λ j. length_chunk s samples j (in_chunk s j (chunks_done s j m))) k n inside is out₀ q (r ∙ ap (λ (x : Mixer). chunk_samples s samples k (in_chunk s k x)) e)

  pub samples_end : 1 ≤ s.head.buffer → (out₀ : List Float) {k : ℕ} {out : List Float} → length out₀ ≡ s.head.block * s.head.channels → k ≡ chunk_count s.head → out ≡ begun (pieces (block_piece s samples m) k) out₀ → out ≡ block_samples s samples m
  samples_end some out₀ long last q =
      begun_end (block_piece s samples m) out₀ last (length_all s.head some (block_piece s samples m) (λ j. length_chunk s samples j (in_chunk s j (chunks_done s j m))) ∙ sym long) q ∙ sym (block_pieces s samples m)

-- ---- a block of which nothing moves but the sounds

with_sounds : Mixer → List ℕ → Mixer
with_sounds m played = mixer_of m.clocks m.main_volume m.tracks m.sends m.routes played

sounds_none : (s : Scene) (m : Mixer) → sounds_played s 0 m ≡ m
unfolding sounds_played with_sounds
sounds_none s m = ap (with_sounds m) (played_none s.sounds s.sound_count m.tracks m.played)

sounds_on : (s : Scene) (m : Mixer) (a b : ℕ) → sounds_played s b (sounds_played s a m) ≡ sounds_played s (a + b) m
unfolding sounds_played with_sounds
sounds_on s m a b = ap (with_sounds m) (played_twice s.sounds s.sound_count m.tracks m.played a b)

length_mixed : (channels n : ℕ) (c : Chunk) (samples : Recordings) → length (mixed_samples channels n c samples) ≡ n * channels
unfolding mixed_samples
length_mixed channels n c samples = length-pieces (λ i. channels_of channels (clamped (mixed_frame c samples i))) channels n (λ i l. length_channels channels (clamped (mixed_frame c samples i)))

-- before chunk k of a head
abbrev pub played_before : Scene → Head → Mixer → ℕ → Mixer
played_before s g m k = sounds_played s (frames_before g k) m

-- what the head of longer chunks is
module _ (h : Head) {g : Head} (e : g ≡ still_head h) where
  pub still_some : 1 ≤ g.buffer
  unfolding still_head
  still_some = subst (λ (x : Head). 1 ≤ x.buffer) (sym e) (lit≤ tt)

  pub still_few : g.buffer ≤ chunk_frames_most
  unfolding still_head
  still_few = subst (λ (x : Head). x.buffer ≤ chunk_frames_most) (sym e) (le_refl chunk_frames_most)

  pub still_block : g.block ≡ h.block
  unfolding still_head
  still_block = ap (λ (x : Head). x.block) e

  pub still_channels : g.channels ≡ h.channels
  unfolding still_head
  still_channels = ap (λ (x : Head). x.channels) e

module _ (s : Scene) (samples : Recordings) (m : Mixer) {g : Head} (e : g ≡ still_head s.head) where
  pub played_begin : m ≡ played_before s g m 0
  played_begin = sym (ap (λ (n : ℕ). sounds_played s n m) (before_first g) ∙ sounds_none s m)

  pub still_begin : (out : List Float) → out ≡ begun (pieces (still_chunk s samples m) 0) out
  still_begin out = begun_zero (still_chunk s samples m) out

  -- chunk k by that head
  chunk_is : (k : ℕ) → still_chunk s samples m k ≡ mixed_samples s.head.channels (chunk_frames g k) (chunk_of s (chunk_frames g k) (sounds_played s (k * g.buffer) m)) samples
  unfolding still_chunk still_head
  chunk_is k = ap (λ (x : Head). mixed_samples s.head.channels (chunk_frames x k) (chunk_of s (chunk_frames x k) (sounds_played s (k * x.buffer) m)) samples) (sym e)

  still_length : (k : ℕ) → length (still_chunk s samples m k) ≡ chunk_frames g k * g.channels
  still_length k =
      ap length (chunk_is k) ∙ length_mixed s.head.channels (chunk_frames g k) (chunk_of s (chunk_frames g k) (sounds_played s (k * g.buffer) m)) samples
      ∙ ap (λ (c : ℕ). chunk_frames g k * c) (sym (still_channels s.head e))

  module _ (k : ℕ) {n : ℕ} (is : n ≡ chunk_frames g k) {now : Mixer} (p : now ≡ played_before s g m k) where
    pub played_turn : {next : Mixer} → next ≡ sounds_played s n now → next ≡ played_before s g m (k + 1)
    played_turn q =
        q ∙ ap₂ (sounds_played s) is p ∙ sounds_on s m (frames_before g k) (chunk_frames g k)
        ∙ ap (λ (i : ℕ). sounds_played s i m) (before_next g k ∙ ap (frames_before g) (omega arith))

    pub still_turn : k < chunk_count g → (out₀ : List Float) {out last : List Float} → out ≡ begun (pieces (still_chunk s samples m) k) out₀ → last ≡ mixed_samples s.head.channels n (chunk_of s n now) samples
        → take (k * g.buffer * g.channels) out ++ (last ++ drop (k * g.buffer * g.channels + n * g.channels - k * g.buffer * g.channels) (drop (k * g.buffer * g.channels) out))
        ≡ begun (pieces (still_chunk s samples m) (k + 1)) out₀
    still_turn inside out₀ q r =
        piece_turn g (still_some s.head e) (still_chunk s samples m) still_length k n inside is out₀ q
        (r ∙ ap₂ (λ (i : ℕ) (x : Mixer). mixed_samples s.head.channels i (chunk_of s i x) samples) is (p ∙ ap (λ (i : ℕ). sounds_played s i m) (before_chunk g (still_some s.head e) k inside)) ∙ sym (chunk_is k))

  module _ {k : ℕ} (last : k ≡ chunk_count g) where
    pub played_end : {now : Mixer} → now ≡ played_before s g m k → now ≡ sounds_played s s.head.block m
    played_end p = p ∙ ap (λ (i : ℕ). sounds_played s i m) (ap (frames_before g) last ∙ before_all g (still_some s.head e) ∙ still_block s.head e)

    pub still_end : (out₀ : List Float) {out : List Float} → length out₀ ≡ s.head.block * s.head.channels → out ≡ begun (pieces (still_chunk s samples m) k) out₀ → out ≡ still_samples s samples m
    unfolding still_samples
    still_end out₀ long q =
        begun_end (still_chunk s samples m) out₀ last (length_all g (still_some s.head e) (still_chunk s samples m) still_length ∙ ap₂ ◌*◌ (still_block s.head e) (still_channels s.head e) ∙ sym long) q
        ∙ ap (λ (x : Head). pieces (still_chunk s samples m) (chunk_count x)) e
