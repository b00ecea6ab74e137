-- The chunks of a block move nothing of a mixer that stands still but its clocks and its sounds, and a sound plays the block's frames however many
-- chunks they are. Assumes nothing.
use mathlib.Core.Path.{◌≡◌, refl, sym, ap, ap₂, ◌∙◌, subst}
use mathlib.Core.Bool.{Bool, true, false, cond}
use mathlib.Core.List.{List}
use Prim.Native.Nat.{ℕ, zero, suc, ◌+◌, ◌-◌, ◌*◌, ◌≤◌, ◌<◌}
use native.Mathlib.Nat.{le_refl, le_trans, le_of_eq, add-zero, add-suc}
use native.Mathlib.Omega.{arith}
use borrow.Author.Tests.{eqb-false}
use lib.Dec.{eqb, ltb}
use lib.ListN.{get_or, replicate}
use Rattle.limits.specs.Limits.{track_places, send_lines, route_lines}
use Rattle.laws.specs.Loop.{upto}
use Rattle.laws.proofs.laws.Loop.{upto_zero, upto-suc, changed_below, changed_cong}
use Rattle.rounding.specs.Duration.{nanos_from_secs}
use Rattle.clock.specs.ChunkTime.{chunk_time}
use Rattle.clock.specs.declared.when_to_start.Clocks.{Clocks}
use Rattle.clock.specs.WhenToStart.{clocks_updated}
use Rattle.scene.specs.declared.scene.Head.{Head}
use Rattle.scene.specs.declared.scene.Scene.{Scene}
use Rattle.scene.specs.declared.scene.SoundLine.{SoundLine}
use Rattle.scene.specs.declared.scene.TrackLine.{TrackLine}
use Rattle.scene.specs.declared.scene.TrackPlacing.{TrackPlacing}
use Rattle.accepted.specs.Lines.{sound_line, absent_sound_line, absent_track_line, absent_track_placing, absent_route_line}
use Rattle.accepted.specs.SceneOk.{SceneOk}
use Rattle.chunk.specs.declared.chunk.ChunkSound.{ChunkSound}
use Rattle.chunk.specs.declared.chunk.Chunk.{Chunk}
use Rattle.chunk.specs.Chunk.{absent_level, absent_track_row, absent_route_row, track_row, sound_row}
use Rattle.parameter.specs.declared.parameter.Parameter.{Parameter}
use Rattle.mixer.specs.declared.sub.Track.{Track}
use Rattle.mixer.specs.declared.mixer.Mixer.{Mixer}
use Rattle.mixer.specs.Mixer.{absent_track, absent_parameter, state_of, parameter_of, live_above}
use Rattle.mixer.specs.Sounds.{played_more, played_where, played_after, played_on, sounds_played}
use Rattle.mixer.specs.MixerOk.{MixerOk}
use Rattle.mixer_chunk.specs.ChunkOf.{level_of, chunk_track, chunk_route, empty_track_row, empty_level, empty_route_row, chunk_tracks, chunk_sends, chunk_routes, chunk_sound, chunk_of}
use Rattle.renderer.specs.Renderer.{chunk_count, chunk_frames, in_chunk, chunk_done, chunks_done}
use Rattle.renderer.proofs.laws.Renderer.{chunk_seconds, chunk_done_ok}
use Rattle.steady_mixer.specs.Steady.{Ahead, ahead}
use Rattle.steady_mixer.specs.MixerSteady.{mixer_steady}
use Rattle.steady_mixer.proofs.laws.MixerSteady.{after_run}
use Rattle.steady_mixer.proofs.laws.Waited.{waited_where, waited_parameter, waited_track, route_reached, waited_tracks, waited_sends, waited_routes, waited, field_kept, waited_live, waited_twice, waited_none}
use Rattle.steady_mixer.proofs.laws.Settled.{SettledMixer, update_settles}
use Rattle.steady_mixer.proofs.laws.Steady.{with_clocks, EndsAfter, still_update}
use Rattle.steady_mixer.proofs.laws.Lasting.{less, steady_lasts}
use Rattle.still_chunks.proofs.laws.Chunks.{line_plays, sound_after, Shifted}
use Rattle.still_blocks.proofs.laws.Still.{sound_row_lem, row_live}
use Rattle.still_blocks.proofs.laws.Played.{frames_before, before_first, before_next, before_chunk, before_all, played_none, played_twice}

-- how far the sounds of m have played after n frames more
unfoldable pub played_frames : Scene → Mixer → ℕ → List ℕ
played_frames s m n = played_on s.sounds s.sound_count m.tracks n m.played

-- how long the first k chunks of a block are, in nanoseconds
unfoldable pub nanos_before : Head → ℕ → ℕ
nanos_before h k = upto (λ j n. n + nanos_from_secs (chunk_time h.rate (chunk_frames h j))) k 0

pub nanos_first : (h : Head) → nanos_before h 0 ≡ 0
unfolding nanos_before
nanos_first h = upto_zero _ 0

pub nanos_next : (s : Scene) (k : ℕ) → nanos_before s.head (suc k) ≡ nanos_before s.head k + nanos_from_secs (chunk_seconds s k)
unfolding nanos_before
nanos_next s k = upto-suc _ k 0

pub nanos_more : (s : Scene) (k n : ℕ) → nanos_before s.head k ≤ nanos_before s.head (k + n)
nanos_more s k zero = le_of_eq (ap (nanos_before s.head) (sym (add-zero k)))
nanos_more s k (suc n) = le_trans (nanos_more s k n) (le_trans (omega arith) (le_of_eq (sym (ap (nanos_before s.head) (add-suc k n) ∙ nanos_next s (k + n)))))

pub nanos_within : (s : Scene) (k count : ℕ) → k ≤ count → nanos_before s.head k ≤ nanos_before s.head count
nanos_within s k count h = let sum : k + (count - k) ≡ count = omega (arith, h) in le_trans (nanos_more s k (count - k)) (le_of_eq (ap (nanos_before s.head) sum))

-- clocks and sounds have moved since m, the sounds by n frames, and d nanoseconds were waited
pub record HasRun (h : Ahead) (s : Scene) (m : Mixer) (n d : ℕ) (now : Mixer) : Type 0 where
  pub still : mixer_steady (less d h) s now ≡ true
  pub rest : now ≡ after_run now.clocks (played_frames s m n) (waited d s m)

-- ---- a chunk

-- tracks of which the same are live
played_by : (lines : List SoundLine) (count : ℕ) (tracks others : List Track) (n : ℕ) (played : List ℕ) → ((line : ℕ) → live_above others line ≡ live_above tracks line) → played_on lines count others n played ≡ played_on lines count tracks n played
unfolding played_on played_after
played_by lines count tracks others n played same =
    changed_cong (λ k done. played_after others (get_or lines k absent_sound_line) n done) (λ k done. played_after tracks (get_or lines k absent_sound_line) n done) count played 0
    (λ k b c. ap (λ (live : Bool). played_where live (get_or lines k absent_sound_line) n (get_or played k 0)) (same (get_or lines k absent_sound_line).track))

live_waited : (d n : ℕ) (tracks : List Track) (line : ℕ) → live_above (waited_tracks d n tracks) line ≡ live_above tracks line
unfolding live_above
live_waited d n tracks line = ap (λ (b : Bool). cond (eqb line 0) true b) (waited_live d n tracks (line - 1))

module _ (s : Scene) (m : Mixer) where
  run_steady : (h : Ahead) (clocks : Clocks) (played : List ℕ) → mixer_steady h s (after_run clocks played m) ≡ mixer_steady h s m
  unfolding mixer_steady after_run
  run_steady h clocks played = refl

  pub none_played : m ≡ after_run m.clocks (played_frames s m 0) m
  unfolding after_run played_frames
  none_played = ap (λ (l : List ℕ). record { clocks = m.clocks; main_volume = m.main_volume; tracks = m.tracks; sends = m.sends; routes = m.routes; played = l }) (sym (played_none s.sounds s.sound_count m.tracks m.played))

  pub run_on : (clocks later : Clocks) (a b : ℕ) → sounds_played s b (with_clocks later (after_run clocks (played_frames s m a) m)) ≡ after_run later (played_frames s m (a + b)) m
  unfolding sounds_played with_clocks after_run played_frames
  run_on clocks later a b = ap (λ (l : List ℕ). record { clocks = later; main_volume = m.main_volume; tracks = m.tracks; sends = m.sends; routes = m.routes; played = l }) (played_twice s.sounds s.sound_count m.tracks m.played a b)

  -- waiting changes nothing of what is played
  pub played_waited : (d n : ℕ) → played_frames s (waited d s m) n ≡ played_frames s m n
  unfolding played_frames waited
  played_waited d n = played_by s.sounds s.sound_count m.tracks (waited_tracks d s.track_count m.tracks) n m.played (live_waited d s.track_count m.tracks)

  waited_run : (d : ℕ) (clocks : Clocks) (played : List ℕ) → waited d s (after_run clocks played m) ≡ after_run clocks played (waited d s m)
  unfolding waited after_run
  waited_run d clocks played = refl

-- an update moves the clocks, and waits
module _ (h : Ahead) (s : Scene) (ok : SceneOk s) (c : ℕ) (now : Mixer) (within : MixerOk s c now) (settled : h.waits ≡ true → SettledMixer s now) (still : mixer_steady h s now ≡ true) (k : ℕ) where
  abbrev later : Clocks
  later = clocks_updated now.clocks (chunk_seconds s k)

  abbrev nanos : ℕ
  nanos = nanos_from_secs (chunk_seconds s k)

  module _ (few : nanos ≤ h.nanos) (early : EndsAfter h.ends later) where
    in_still_chunk : in_chunk s k now ≡ with_clocks later (waited nanos s now)
    unfolding in_chunk
    in_still_chunk = still_update h s now c (chunk_seconds s k) ok within settled still few early

    still_chunk_done : chunk_done s k now ≡ sounds_played s (chunk_frames s.head k) (with_clocks later (waited nanos s now))
    unfolding chunk_done
    still_chunk_done = ap (sounds_played s (chunk_frames s.head k)) in_still_chunk

    played_steady : (x : Mixer) (n : ℕ) (g : Ahead) → mixer_steady g s (sounds_played s n (with_clocks later x)) ≡ mixer_steady g s x
    unfolding mixer_steady sounds_played with_clocks after_run
    played_steady x n g = refl

    chunk_runs : (m : Mixer) (a d : ℕ) → now ≡ after_run now.clocks (played_frames s m a) (waited d s m) → chunk_done s k now ≡ after_run later (played_frames s m (a + chunk_frames s.head k)) (waited (d + nanos) s m)
    chunk_runs m a d rest =
        let n = chunk_frames s.head k in
        still_chunk_done
        ∙ ap (λ (x : Mixer). sounds_played s n (with_clocks later (waited nanos s x))) rest
        ∙ ap (λ (x : Mixer). sounds_played s n (with_clocks later x)) (waited_run s (waited d s m) nanos now.clocks (played_frames s m a) ∙ ap (after_run now.clocks (played_frames s m a)) (waited_twice d nanos s m))
        ∙ ap (λ (l : List ℕ). sounds_played s n (with_clocks later (after_run now.clocks l (waited (d + nanos) s m)))) (sym (played_waited s m (d + nanos) a))
        ∙ run_on s (waited (d + nanos) s m) now.clocks later a n
        ∙ ap (λ (l : List ℕ). after_run later l (waited (d + nanos) s m)) (played_waited s m (d + nanos) (a + n))

    chunk_stays : mixer_steady (less nanos h) s (chunk_done s k now) ≡ true
    chunk_stays =
        ap (mixer_steady (less nanos h) s) still_chunk_done
        ∙ played_steady (waited nanos s now) (chunk_frames s.head k) (less nanos h)
        ∙ steady_lasts h nanos few s ok c now within ∙ still

-- the motions that are reached have settled after a chunk
pub chunk_settles : (s : Scene) (ok : SceneOk s) (k c : ℕ) (m : Mixer) → MixerOk s c m → SettledMixer s (chunk_done s k m)
unfolding chunk_done sounds_played in_chunk
chunk_settles s ok k c m within =
    let r = update_settles s c (chunk_seconds s k) m ok within in
    record { main = r.main; sends = r.sends; tracks = r.tracks; routes = r.routes }

-- ---- a block's first k chunks

-- what a block of a mixer that stands still for it asks
pub record Stays (h : Ahead) (s : Scene) (m : Mixer) : Type 0 where
  pub still : mixer_steady h s m ≡ true
  pub settled : h.waits ≡ true → SettledMixer s m
  pub enough : nanos_before s.head (chunk_count s.head) ≤ h.nanos
  pub early : (k : ℕ) → k < chunk_count s.head → EndsAfter h.ends (clocks_updated (chunks_done s k m).clocks (chunk_seconds s k))

less_twice : (a b : ℕ) (h : Ahead) → less b (less a h) ≡ less (a + b) h
less_twice a b h = ap (λ (n : ℕ). ahead h.waits n h.ends) (omega arith)

less_none : (h : Ahead) → h ≡ less 0 h
less_none h = let same : h.nanos ≡ h.nanos - 0 = omega arith in ap (λ (n : ℕ). ahead h.waits n h.ends) same

done_none : (s : Scene) (m : Mixer) → chunks_done s 0 m ≡ m
unfolding chunks_done
done_none s m = upto_zero (chunk_done s) m

pub done_next : (s : Scene) (k : ℕ) (m : Mixer) → chunks_done s (suc k) m ≡ chunk_done s k (chunks_done s k m)
unfolding chunks_done
done_next s k m = upto-suc (chunk_done s) k m

run_clock : (s : Scene) (clocks : Clocks) (played : List ℕ) (m : Mixer) → (after_run clocks played m).clocks ≡ clocks
unfolding after_run
run_clock s clocks played m = refl

module _ (h : Ahead) (s : Scene) (ok : SceneOk s) (c : ℕ) (m : Mixer) (within : MixerOk s c m) (stays : Stays h s m) where
  record Reached (k : ℕ) (now : Mixer) : Type 0 where
    inside : MixerOk s (c + k) now
    settled : h.waits ≡ true → SettledMixer s now
    run : HasRun h s m (frames_before s.head k) (nanos_before s.head k) now

  few_nanos : (k : ℕ) → k < chunk_count s.head → nanos_from_secs (chunk_seconds s k) ≤ (less (nanos_before s.head k) h).nanos
  few_nanos k b = omega (arith, nanos_within s (suc k) (chunk_count s.head) b, stays.enough, nanos_next s k)

  reached_first : Reached 0 m
  reached_first =
      record {
        inside = subst (λ (i : ℕ). MixerOk s i m) (sym (add-zero c)) within;
        settled = stays.settled;
        run =
            subst (λ (n : ℕ). HasRun h s m n (nanos_before s.head 0) m) (sym (before_first s.head))
            (subst (λ (n : ℕ). HasRun h s m 0 n m) (sym (nanos_first s.head))
            (record { still = ap (λ (g : Ahead). mixer_steady g s m) (sym (less_none h)) ∙ stays.still; rest = none_played s m ∙ ap (after_run m.clocks (played_frames s m 0)) (sym (waited_none s m)) }));
      }

  reached_next : (k : ℕ) → k < chunk_count s.head → chunks_done s k m ≡ chunks_done s k m → Reached k (chunks_done s k m) → Reached (suc k) (chunk_done s k (chunks_done s k m))
  reached_next k b same r =
      let now = chunks_done s k m in
      let d = nanos_before s.head k in
      let nanos = nanos_from_secs (chunk_seconds s k) in
      let runs = chunk_runs (less d h) s ok (c + k) now r.inside r.settled r.run.still k (few_nanos k b) (stays.early k b) m (frames_before s.head k) d r.run.rest in
      let stay = chunk_stays (less d h) s ok (c + k) now r.inside r.settled r.run.still k (few_nanos k b) (stays.early k b) in
      record {
        inside = subst (λ (j : ℕ). MixerOk s j (chunk_done s k now)) (sym (add-suc c k)) (chunk_done_ok s ok k (c + k) now r.inside);
        settled = λ q. chunk_settles s ok k (c + k) now r.inside;
        run =
            subst (λ (n : ℕ). HasRun h s m n (nanos_before s.head (suc k)) (chunk_done s k now)) (before_next s.head k)
            (subst (λ (n : ℕ). HasRun h s m (frames_before s.head k + chunk_frames s.head k) n (chunk_done s k now)) (sym (nanos_next s k))
            (record {
              still = ap (λ (g : Ahead). mixer_steady g s (chunk_done s k now)) (sym (less_twice d nanos h)) ∙ stay;
              rest = runs ∙ ap (λ (x : Clocks). after_run x (played_frames s m (frames_before s.head k + chunk_frames s.head k)) (waited (d + nanos) s m)) (sym (ap (λ (x : Mixer). x.clocks) runs ∙ run_clock s _ _ (waited (d + nanos) s m)));
            }));
      }

  reached : (k : ℕ) → k ≤ chunk_count s.head → Reached k (chunks_done s k m)
  reached zero l = subst (Reached 0) (sym (done_none s m)) reached_first
  reached (suc k) l = subst (Reached (suc k)) (sym (done_next s k m)) (reached_next k l refl (reached k (omega (arith, l))))

  pub still_run : (k : ℕ) → k ≤ chunk_count s.head → HasRun h s m (frames_before s.head k) (nanos_before s.head k) (chunks_done s k m)
  still_run k l = (reached k l).run

  -- the mixer in chunk k, once updated
  pub still_in : (k : ℕ) → k < chunk_count s.head → in_chunk s k (chunks_done s k m) ≡ with_clocks (clocks_updated (chunks_done s k m).clocks (chunk_seconds s k)) (waited (nanos_from_secs (chunk_seconds s k)) s (chunks_done s k m))
  still_in k b =
      let r = reached k (omega (arith, b)) in
      in_still_chunk (less (nanos_before s.head k) h) s ok (c + k) (chunks_done s k m) r.inside r.settled r.run.still k (few_nanos k b) (stays.early k b)

-- ---- what mixing reads

-- a sound's row, once it has played n frames more
module _ (line : SoundLine) (n done : ℕ) (h : done ≤ line.count) where
  abbrev left : ℕ
  left = line.count - done

  row_more : chunk_sound line (played_more line n done) ≡ sound_after n (chunk_sound line done)
  unfolding chunk_sound played_more sound_after
  row_more = go (ltb left n) refl
    where
      go : (b : Bool) → ltb left n ≡ b → chunk_sound line (cond b line.count (done + n)) ≡ record { track = line.track; start = line.first + done + cond b left n; left = left - cond b left n; from = line.from }
      go true e = ap₂ (λ (x y : ℕ). record { track = line.track; start = x; left = y; from = line.from }) (omega (arith, h)) (omega (arith, h))
      go false e = ap₂ (λ (x y : ℕ). record { track = line.track; start = x; left = y; from = line.from }) (omega arith) (omega arith)

  row_where : (live : Bool) → chunk_sound line (played_where live line n done) ≡ cond live (sound_after n (chunk_sound line done)) (chunk_sound line done)
  row_where true = row_more
  row_where false = refl

module _ (s : Scene) (ok : SceneOk s) (c : ℕ) (m : Mixer) (within : MixerOk s c m) (n₀ n : ℕ) where
  -- a line number plays where its track is live
  line_live : (line : ℕ) → line ≤ s.track_count → line_plays (chunk_of s n₀ m) line ≡ live_above m.tracks line
  unfolding line_plays live_above
  line_live line h = go (eqb line 0) refl
    where
      go : (b : Bool) → eqb line 0 ≡ b → cond b true (track_row (chunk_of s n₀ m) (line - 1)).advancing ≡ cond b true (state_of m.tracks (line - 1)).live
      go true e = refl
      go false e = let some : line ≡ 0 → ⊥ = eqb-false line 0 e in row_live s ok n₀ m (line - 1) (omega arith)

  module _ (clocks : Clocks) (frames : ℕ) where
    abbrev run : Mixer
    run = after_run clocks (played_frames s m frames) m

    played_at : (k : ℕ) → k < s.sound_count → get_or (played_frames s m frames) k 0 ≡ played_where (live_above m.tracks (sound_line s k).track) (sound_line s k) frames (get_or m.played k 0)
    unfolding played_frames played_on played_after
    played_at k b = changed_below (λ k done. played_after m.tracks (sound_line s k) frames done) s.sound_count m.played k 0 b (le_trans b (le_trans ok.sound_count (le_of_eq (sym within.sound_places))))

    row_track : (k : ℕ) → k < s.sound_count → (sound_row (chunk_of s n₀ m) k).track ≡ (sound_line s k).track
    unfolding chunk_sound
    row_track k b = ap (λ (x : ChunkSound). x.track) (sound_row_lem s ok n₀ m k b)

    sound_shifts : (k : ℕ) → k < s.sound_count → sound_row (chunk_of s n run) k ≡ cond (line_plays (chunk_of s n₀ m) (sound_row (chunk_of s n₀ m) k).track) (sound_after frames (sound_row (chunk_of s n₀ m) k)) (sound_row (chunk_of s n₀ m) k)
    unfolding after_run
    sound_shifts k b =
        let line = sound_line s k in
        let done = get_or m.played k 0 in
        sound_row_lem s ok n run k b
        ∙ ap (chunk_sound line) (played_at k b)
        ∙ row_where line frames done (within.played k b) (live_above m.tracks line.track)
        ∙ ap₂ (λ (live : Bool) (row : ChunkSound). cond live (sound_after frames row) row) (sym (line_live line.track (ok.sounds k b)) ∙ ap (line_plays (chunk_of s n₀ m)) (sym (row_track k b))) (sym (sound_row_lem s ok n₀ m k b))

    pub run_shifts : Shifted frames (chunk_of s n₀ m) (chunk_of s n run)
    unfolding chunk_of after_run
    run_shifts = record { track_count = refl; tracks = refl; send_count = refl; sends = refl; route_count = refl; routes = refl; main = refl; sound_count = refl; sounds = sound_shifts }

-- ---- the laws

-- mixing does not read how long is waited
tracks_waited : (d n : ℕ) (lines : List TrackLine) (placings : List TrackPlacing) (tracks : List Track) → chunk_tracks lines placings n (waited_tracks d n tracks) ≡ chunk_tracks lines placings n tracks
unfolding chunk_tracks waited_tracks chunk_track level_of waited_track waited_where
tracks_waited d n lines placings tracks =
    changed_cong (λ t x. chunk_track (get_or lines t absent_track_line) (get_or placings t absent_track_placing).placing (state_of (waited_tracks d n tracks) t)) (λ t x. chunk_track (get_or lines t absent_track_line) (get_or placings t absent_track_placing).placing (state_of tracks t)) n (replicate track_places empty_track_row) absent_track_row
    (λ t b c. field_kept (chunk_track (get_or lines t absent_track_line) (get_or placings t absent_track_placing).placing) (λ t x. waited_track d x) (λ i x. refl) n tracks t absent_track)

sends_waited : (d n : ℕ) (sends : List Parameter) → chunk_sends n (waited_sends d n sends) ≡ chunk_sends n sends
unfolding chunk_sends waited_sends level_of waited_where
sends_waited d n sends =
    changed_cong (λ i x. level_of (parameter_of (waited_sends d n sends) i)) (λ i x. level_of (parameter_of sends i)) n (replicate send_lines empty_level) absent_level
    (λ i b c. field_kept level_of (λ i p. waited_parameter d p) (λ i x. refl) n sends i absent_parameter)

routes_waited : (d : ℕ) (s : Scene) (tracks : List Track) (routes : List Parameter) → chunk_routes s.routes s.route_count (waited_routes d s tracks routes) ≡ chunk_routes s.routes s.route_count routes
unfolding chunk_routes waited_routes chunk_route waited_where
routes_waited d s tracks routes =
    changed_cong (λ r x. chunk_route (get_or s.routes r absent_route_line) (parameter_of (waited_routes d s tracks routes) r)) (λ r x. chunk_route (get_or s.routes r absent_route_line) (parameter_of routes r)) s.route_count (replicate route_lines empty_route_row) absent_route_row
    (λ r b c. field_kept (chunk_route (get_or s.routes r absent_route_line)) (λ r p. waited_where (route_reached s tracks r) d p) (λ i x. refl) s.route_count routes r absent_parameter)

pub chunk_waited : (d : ℕ) (s : Scene) (n : ℕ) (m : Mixer) → chunk_of s n (waited d s m) ≡ chunk_of s n m
unfolding chunk_of waited level_of waited_where
chunk_waited d s n m = cc (tracks_waited d s.track_count s.tracks s.placings m.tracks, sends_waited d s.send_count m.sends, routes_waited d s m.tracks m.routes)

module _ (h : Ahead) (s : Scene) (ok : SceneOk s) (c : ℕ) (m : Mixer) (within : MixerOk s c m) (stays : Stays h s m) where
  pub still_shifts : (k : ℕ) → k < chunk_count s.head → (n₀ n : ℕ) → Shifted (k * s.head.buffer) (chunk_of s n₀ m) (chunk_of s n (chunks_done s k m))
  still_shifts k l n₀ n =
      let d = nanos_before s.head k in
      let clocks = (chunks_done s k m).clocks in
      subst (λ (j : ℕ). Shifted j (chunk_of s n₀ m) (chunk_of s n (chunks_done s k m))) (before_chunk s.head ok.buffer.0 k l)
      (subst (λ (x : Chunk). Shifted (frames_before s.head k) (chunk_of s n₀ m) x)
      (sym (ap (chunk_of s n) ((still_run h s ok c m within stays k (omega (arith, l))).rest ∙ sym (waited_run s m d clocks (played_frames s m (frames_before s.head k)))) ∙ chunk_waited d s n (after_run clocks (played_frames s m (frames_before s.head k)) m)))
      (run_shifts s ok c m within n₀ n clocks (frames_before s.head k)))

  -- after the block
  pub block_run : chunks_done s (chunk_count s.head) m ≡ after_run (chunks_done s (chunk_count s.head) m).clocks (played_frames s m s.head.block) (waited (nanos_before s.head (chunk_count s.head)) s m)
  block_run =
      (still_run h s ok c m within stays (chunk_count s.head) (le_refl (chunk_count s.head))).rest
      ∙ ap (λ (n : ℕ). after_run (chunks_done s (chunk_count s.head) m).clocks (played_frames s m n) (waited (nanos_before s.head (chunk_count s.head)) s m)) (before_all s.head ok.buffer.0)
