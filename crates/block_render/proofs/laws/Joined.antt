-- A block of a mixer that stands still for it: it has waited for the whole block at once, is cut in longer chunks, and what is heard, and what the mixer
-- comes to, is the same. Assumes nothing.
use mathlib.Core.Path.{◌≡◌, refl, sym, ap, ◌∙◌, subst}
use mathlib.Core.Bool.{Bool, true, false, false≢true}
use mathlib.Core.List.{List, []}
use Prim.Native.Nat.{ℕ, suc, ◌+◌, ◌*◌, ◌≤◌, ◌<◌}
use native.Mathlib.Nat.{le_trans, le_of_eq}
use native.Mathlib.Omega.{arith}
use lib.Dec.{lit≤}
use lib.Ieee.{Float}
use Rattle.recordings.specs.Recordings.{Recordings}
use Rattle.limits.specs.Limits.{chunk_frames_most}
use Rattle.laws.specs.Pieces.{pieces}
use Rattle.laws.proofs.laws.Pieces.{pieces_cong}
use Rattle.rounding.specs.Duration.{nanos_from_secs}
use Rattle.clock.specs.declared.when_to_start.Clocks.{Clocks}
use Rattle.clock.specs.WhenToStart.{clocks_updated}
use Rattle.scene.specs.declared.scene.Scene.{Scene}
use Rattle.accepted.specs.SceneOk.{SceneOk, SamplesOk}
use Rattle.mixer.specs.declared.mixer.Mixer.{Mixer}
use Rattle.mixer.specs.Sounds.{sounds_played}
use Rattle.mixer.specs.MixerOk.{MixerOk}
use Rattle.mixer_laws.proofs.laws.Moved.{played_ok}
use Rattle.mixer_chunk.specs.ChunkOf.{chunk_of}
use Rattle.frame.specs.Frame.{clamped}
use Rattle.chunk.specs.declared.chunk.Chunk.{Chunk}
use Rattle.renderer.specs.Renderer.{chunk_count, chunk_frames, chunks_done, channels_of, block_samples}
use Rattle.renderer.proofs.laws.Renderer.{chunk_seconds, chunks_ok}
use Rattle.steady_mixer.specs.Steady.{Ahead, ahead}
use Rattle.steady_mixer.specs.MixerSteady.{mixer_steady}
use Rattle.steady_mixer.proofs.laws.MixerSteady.{after_run}
use Rattle.steady_mixer.proofs.laws.Settled.{SettledMixer}
use Rattle.steady_mixer.proofs.laws.Waited.{waited}
use Rattle.steady_mixer.proofs.laws.Steady.{with_clocks, EndsAfter, mixer_moved, still_moves}
use Rattle.steady_mixer.proofs.laws.Lasting.{less, steady_lasts, waited_rests}
use Rattle.still_chunks.proofs.laws.Chunks.{still_mixed_frame}
use Rattle.still_blocks.proofs.laws.Joined.{joined, scene_joined, samples_joined, mixer_joined, steady_joined, chunk_joined}
use Rattle.still_blocks.proofs.laws.Played.{frames_before, before_chunk}
use Rattle.still_blocks.proofs.laws.Run.{played_frames, nanos_before, Stays, played_waited, chunk_waited, block_run}
use Rattle.still_blocks.proofs.laws.Block.{still_piece, played_to, block_still, played_pieces}
use Rattle.chunk_render.specs.Block.{mixed_samples, still_head, still_chunk, still_samples, chunk_clocks, end_ticks, block_nanos}
use Rattle.chunk_render.proofs.laws.Clocks.{ticked, block_clocks}
use Rattle.chunk_render.proofs.laws.Ends.{clocks_first, ends_after}
use Rattle.block_render.specs.Still.{Waits, still_done}
use Rattle.block_render.proofs.laws.Rests.{rests_always}

-- ---- a block where all is still

module _ (g : Ahead) (s : Scene) (c : ℕ) (m : Mixer) (ok : SceneOk s) (within : MixerOk s c m) (stays : Stays g s m) where
  abbrev count : ℕ
  count = chunk_count s.head

  abbrev nanos : ℕ
  nanos = nanos_before s.head count

  -- it has waited for the whole block
  abbrev passed : Mixer
  passed = waited nanos s m

  pub passed_ok : MixerOk s c passed
  passed_ok = unwound (chunks_done s count m).clocks (subst (MixerOk s (c + count)) (block_run g s ok c m within stays) (chunks_ok s ok count c m within)) within
    where
      unwound : (clocks : Clocks) → MixerOk s (c + count) (after_run clocks (played_frames s m s.head.block) passed) → MixerOk s c m → MixerOk s c passed
      unwound clocks r q = unfold after_run waited in (record { clock_count = q.clock_count; clocks = q.clocks; main = r.main; track_places = r.track_places; send_places = r.send_places; route_places = r.route_places; sound_places = q.sound_places; tracks = r.tracks; sends = r.sends; routes = r.routes; played = q.played })

  -- where something waits it moves by the block's nanoseconds
  pub wait_moves : (step : Float) → nanos_from_secs step ≡ nanos → EndsAfter g.ends m.clocks → mixer_moved s step m.clocks m ≡ passed
  wait_moves step is early =
      let few : nanos_from_secs step ≤ g.nanos = le_trans (le_of_eq is) stays.enough in
      still_moves g s m c step m.clocks ok within stays.settled stays.still few early ∙ own_clocks (nanos_from_secs step) ∙ ap (λ (d : ℕ). waited d s m) is
    where
      own_clocks : (d : ℕ) → with_clocks m.clocks (waited d s m) ≡ waited d s m
      own_clocks d = unfold with_clocks after_run waited in refl

  -- where nothing may wait it stays
  pub rest_stays : g.waits ≡ false → m ≡ passed
  rest_stays e = sym (waited_rests g.nanos g.ends nanos s m (ap (λ (b : Bool). mixer_steady (ahead b g.nanos g.ends) s m) (sym e) ∙ stays.still))

  -- after the block
  pub joined_done : still_done s passed ≡ chunks_done s count m
  joined_done =
      still_is passed (chunk_clocks s.head count passed.clocks)
      ∙ ap (λ (l : List ℕ). after_run (chunk_clocks s.head count passed.clocks) l passed) (played_waited s m nanos s.head.block)
      ∙ ap (λ (x : Clocks). after_run x (played_frames s m s.head.block) passed) (clocks_kept (chunk_clocks s.head count) ∙ sym (block_clocks s m count))
      ∙ sym (block_run g s ok c m within stays)
    where
      still_is : (x : Mixer) (clocks : Clocks) → still_done s x ≡ after_run (chunk_clocks s.head count x.clocks) (played_frames s x s.head.block) x
      still_is x clocks = unfold still_done sounds_played after_run played_frames in refl

      clocks_kept : {A : Type 0} (f : Clocks → A) → f passed.clocks ≡ f m.clocks
      clocks_kept f = unfold waited in refl

  module _ (samples : Recordings) (there : SamplesOk s samples) where
    abbrev long : Scene
    long = joined s

    played_is : (n : ℕ) → after_run passed.clocks (played_frames long passed n) passed ≡ sounds_played s n passed
    played_is n = unfold after_run played_frames sounds_played in refl

    head_is : still_head s.head ≡ long.head
    head_is = unfold still_head in refl

    before_is : (k : ℕ) → k < chunk_count long.head → frames_before long.head k ≡ k * chunk_frames_most
    before_is k b = before_chunk long.head (lit≤ tt) k b

    abbrev long_piece : ℕ → List Float
    long_piece k = mixed_samples s.head.channels (chunk_frames long.head k) (chunk_of long (chunk_frames long.head k) (played_to long passed k)) samples

    piece_is : (k : ℕ) → k < chunk_count long.head → long_piece k ≡ still_chunk s samples passed k
    unfolding still_chunk still_head
    piece_is k b =
        ap (λ (x : Mixer). mixed_samples s.head.channels (chunk_frames long.head k) (chunk_of long (chunk_frames long.head k) x) samples)
        (played_is (frames_before long.head k) ∙ ap (λ (n : ℕ). sounds_played s n passed) (before_is k b))
        ∙ ap (λ (x : Chunk). mixed_samples s.head.channels (chunk_frames long.head k) x samples) (chunk_joined s (sounds_played s (k * chunk_frames_most) passed) (chunk_frames long.head k))

    still_is : still_samples s samples passed ≡ pieces (still_piece long samples passed) s.head.block
    unfolding still_samples mixed_samples still_head
    still_is =
        sym (pieces_cong long_piece (still_chunk s samples passed) (chunk_count long.head) piece_is)
        ∙ played_pieces (less nanos g) long (scene_joined s ok) c passed (λ k. mixer_joined s (played_to long passed k) c (subst (MixerOk s c) (sym (played_is (frames_before long.head k))) (played_ok s c (frames_before long.head k) passed ok passed_ok)))
        (steady_joined s passed (less nanos g) ∙ steady_lasts g nanos stays.enough s ok c m within ∙ stays.still) samples (samples_joined s samples there) (mixer_joined s passed c passed_ok)

    -- however a block is cut, the same is heard
    pub joined_heard : still_samples s samples passed ≡ block_samples s samples m
    joined_heard =
        still_is
        ∙ ap (λ (y : Chunk). pieces (λ j. channels_of s.head.channels (clamped (still_mixed_frame y samples j))) s.head.block) (chunk_joined s passed 0 ∙ chunk_waited nanos s 0 m)
        ∙ sym (block_still g s ok c m within stays samples there)

-- ---- why a block stands still

-- nothing moves in it, and nothing waits in it
abbrev pub Rests : Scene → Mixer → Type 0
Rests s m = mixer_steady (ahead false 0 []) s m ≡ true

module _ (s : Scene) (c : ℕ) (m : Mixer) (within : MixerOk s c m) where
  abbrev whole : ℕ
  whole = block_nanos s.head

  pub nanos_all : nanos_before s.head (chunk_count s.head) ≡ whole
  unfolding nanos_before block_nanos
  nanos_all = refl

  abbrev pub resting : Ahead
  resting = ahead false whole []

  abbrev pub waiting : Ahead
  waiting = ahead true whole (end_ticks s.head m.clocks)

  early_none : (clocks : Clocks) → EndsAfter [] clocks
  early_none clocks t a b = absurd (omega (arith, a))

  pub rests_stay : Rests s m → Stays resting s m
  rests_stay e =
      record {
        still = rests_always 0 whole [] [] s m ∙ e;
        settled = λ q. absurd (false≢true q);
        enough = le_of_eq nanos_all;
        early = λ k b. early_none _;
      }

  early_at : (k : ℕ) → k < chunk_count s.head → EndsAfter (end_ticks s.head m.clocks) (clocks_updated (chunks_done s k m).clocks (chunk_seconds s k))
  early_at k b = subst (EndsAfter (end_ticks s.head m.clocks)) (sym (ticked s m k (block_clocks s m k))) (ends_after s.head m.clocks within.clocks.few (suc k) b)

  pub early_first : EndsAfter (end_ticks s.head m.clocks) m.clocks
  early_first = subst (EndsAfter (end_ticks s.head m.clocks)) (clocks_first s.head m.clocks) (ends_after s.head m.clocks within.clocks.few 0 (omega arith))

  pub waits_stay : {step : Float} → SettledMixer s m → Waits s step m → Stays waiting s m
  waits_stay settled w =
      record {
        still = w.steady;
        settled = λ q. settled;
        enough = le_of_eq nanos_all;
        early = early_at;
      }
