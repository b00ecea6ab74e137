-- What a mixer still waits for once it has waited so many nanoseconds. Only delays grow less: no value, no state and no flag changes. Assumes nothing.
use mathlib.Core.Path.{◌≡◌, refl, ap, ap₂, ◌∙◌}
use mathlib.Core.Bool.{Bool, true, false, cond}
use mathlib.Core.List.{List, [], ◌∷◌}
use Prim.Native.Nat.{ℕ, zero, suc, ◌+◌, ◌-◌, ◌<◌, suc-le-suc}
use native.Mathlib.Nat.{zero-lt-suc}
use native.Mathlib.Omega.{arith}
use lib.ListN.{get_or}
use Rattle.laws.specs.Loop.{changed}
use Rattle.laws.proofs.laws.Loop.{changed_cong, changed_twice}
use Rattle.tween.specs.declared.start_time.StartTime.{StartTime}
use Rattle.tween.specs.declared.start_time.StartTime.TheVariants.{Immediate, Delayed, ClockTime}
use Rattle.tween.specs.declared.tween.Tween.{Tween}
use Rattle.parameter.specs.declared.parameter.ParameterState.{ParameterState}
use Rattle.parameter.specs.declared.parameter.ParameterState.TheVariants.{Idle, Tweening}
use Rattle.parameter.specs.declared.parameter.Parameter.{Parameter}
use Rattle.playback.specs.declared.playback_state_manager.PlaybackState.{PlaybackState}
use Rattle.playback.specs.declared.playback_state_manager.PlaybackState.TheVariants.{Playing, Pausing, Paused, WaitingToResume, Resuming, Stopping, Stopped}
use Rattle.playback.specs.PlaybackStateManager.{is_advancing}
use Rattle.scene.specs.declared.scene.Scene.{Scene}
use Rattle.accepted.specs.Lines.{absent_route_line}
use Rattle.mixer.specs.declared.sub.Track.{Track}
use Rattle.mixer.specs.declared.mixer.Mixer.{Mixer}
use Rattle.mixer.specs.Mixer.{mixer_of, absent_track, absent_parameter, state_of}
pub use Rattle.steady_mixer.specs.Settled.{route_reached}

-- ---- a start time, a parameter, a playback state

unfoldable pub waited_start : ℕ → StartTime → StartTime
waited_start d Immediate = Immediate
waited_start d (Delayed remaining) = Delayed (remaining - d)
waited_start d (ClockTime time) = ClockTime time

abbrev pub waited_tween : ℕ → Tween → Tween
waited_tween d tween = record { start_time = waited_start d tween.start_time; duration = tween.duration; easing = tween.easing }

unfoldable pub waited_motion : ℕ → ParameterState → ParameterState
waited_motion d (Idle value) = Idle value
waited_motion d (Tweening start target time tween) = Tweening start target time (waited_tween d tween)

-- one that is not stagnant, where it is reached
unfoldable pub waited_where : Bool → ℕ → Parameter → Parameter
waited_where moves d p =
    record {
      state = cond p.stagnant p.state (cond moves (waited_motion d p.state) p.state);
      raw_value = p.raw_value;
      previous_raw_value = p.previous_raw_value;
      stagnant = p.stagnant;
    }

abbrev pub waited_parameter : ℕ → Parameter → Parameter
waited_parameter d p = waited_where true d p

unfoldable pub waited_state : ℕ → PlaybackState → PlaybackState
waited_state d Playing = Playing
waited_state d Pausing = Pausing
waited_state d Paused = Paused
waited_state d (WaitingToResume start tween) = WaitingToResume (waited_start d start) tween
waited_state d Resuming = Resuming
waited_state d Stopping = Stopping
waited_state d Stopped = Stopped

-- ---- the mixer

unfoldable pub waited_track : ℕ → Track → Track
waited_track d t =
    record {
      volume = waited_where t.reached d t.volume;
      playback = record { state = cond t.reached (waited_state d t.playback.state) t.playback.state; volume_fade = waited_where t.reached d t.playback.volume_fade };
      reached = t.reached;
      live = t.live;
    }

unfoldable pub waited_tracks : ℕ → ℕ → List Track → List Track
waited_tracks d n tracks = changed (λ t x. waited_track d x) n tracks

unfoldable pub waited_sends : ℕ → ℕ → List Parameter → List Parameter
waited_sends d n sends = changed (λ i p. waited_parameter d p) n sends

unfoldable pub waited_routes : ℕ → Scene → List Track → List Parameter → List Parameter
waited_routes d s tracks routes = changed (λ r p. waited_where (route_reached s tracks r) d p) s.route_count routes

unfoldable pub waited : ℕ → Scene → Mixer → Mixer
waited d s m =
    mixer_of m.clocks (waited_parameter d m.main_volume) (waited_tracks d s.track_count m.tracks) (waited_sends d s.send_count m.sends)
    (waited_routes d s m.tracks m.routes) m.played

-- ---- what does not change

-- a field that no line's change touches, also past the end
pub field_kept : {A B : Type 0} (g : A → B) (f : ℕ → A → A) → ((i : ℕ) (x : A) → g (f i x) ≡ g x) → (n : ℕ) (l : List A) (k : ℕ) (d : A) → g (get_or (changed f n l) k d) ≡ g (get_or l k d)
unfolding changed
field_kept g f h zero l k d = refl
field_kept g f h (suc n) [] k d = refl
field_kept g f h (suc n) (x ∷ l) zero d = h 0 x
field_kept g f h (suc n) (x ∷ l) (suc k) d = field_kept g (λ j. f (suc j)) (λ i y. h (suc i) y) n l k d

module _ (d n : ℕ) (tracks : List Track) (k : ℕ) where
  pub waited_reached : (state_of (waited_tracks d n tracks) k).reached ≡ (state_of tracks k).reached
  unfolding waited_tracks waited_track
  waited_reached = field_kept (λ (t : Track). t.reached) (λ t x. waited_track d x) (λ i x. refl) n tracks k absent_track

  pub waited_live : (state_of (waited_tracks d n tracks) k).live ≡ (state_of tracks k).live
  unfolding waited_tracks waited_track
  waited_live = field_kept (λ (t : Track). t.live) (λ t x. waited_track d x) (λ i x. refl) n tracks k absent_track

pub waited_advances : (d : ℕ) (state : PlaybackState) → is_advancing (waited_state d state) ≡ is_advancing state
unfolding waited_state is_advancing
waited_advances d Playing = refl
waited_advances d Pausing = refl
waited_advances d Paused = refl
waited_advances d (WaitingToResume start tween) = refl
waited_advances d Resuming = refl
waited_advances d Stopping = refl
waited_advances d Stopped = refl

-- ---- waiting twice

pub start_twice : (a b : ℕ) (start : StartTime) → waited_start b (waited_start a start) ≡ waited_start (a + b) start
unfolding waited_start
start_twice a b Immediate = refl
start_twice a b (Delayed remaining) = ap Delayed (omega arith)
start_twice a b (ClockTime time) = refl

tween_twice : (a b : ℕ) (tween : Tween) → waited_tween b (waited_tween a tween) ≡ waited_tween (a + b) tween
tween_twice a b tween = ap (λ (x : StartTime). record { start_time = x; duration = tween.duration; easing = tween.easing }) (start_twice a b tween.start_time)

motion_twice : (a b : ℕ) (state : ParameterState) → waited_motion b (waited_motion a state) ≡ waited_motion (a + b) state
unfolding waited_motion
motion_twice a b (Idle value) = refl
motion_twice a b (Tweening start target time tween) = ap (Tweening start target time) (tween_twice a b tween)

-- a parameter of another state
abbrev with_motion : Parameter → ParameterState → Parameter
with_motion p state = record { state = state; raw_value = p.raw_value; previous_raw_value = p.previous_raw_value; stagnant = p.stagnant }

state_where : (stagnant moves : Bool) (a b : ℕ) (state : ParameterState) → cond stagnant (cond stagnant state (cond moves (waited_motion a state) state)) (cond moves (waited_motion b (cond stagnant state (cond moves (waited_motion a state) state))) (cond stagnant state (cond moves (waited_motion a state) state)))
    ≡ cond stagnant state (cond moves (waited_motion (a + b) state) state)
state_where true moves a b state = refl
state_where false true a b state = motion_twice a b state
state_where false false a b state = refl

pub where_twice : (moves : Bool) (a b : ℕ) (p : Parameter) → waited_where moves b (waited_where moves a p) ≡ waited_where moves (a + b) p
unfolding waited_where
where_twice moves a b p = ap (with_motion p) (state_where p.stagnant moves a b p.state)

playing_twice : (a b : ℕ) (state : PlaybackState) → waited_state b (waited_state a state) ≡ waited_state (a + b) state
unfolding waited_state
playing_twice a b Playing = refl
playing_twice a b Pausing = refl
playing_twice a b Paused = refl
playing_twice a b (WaitingToResume start tween) = ap (λ (x : StartTime). WaitingToResume x tween) (start_twice a b start)
playing_twice a b Resuming = refl
playing_twice a b Stopping = refl
playing_twice a b Stopped = refl

playing_where : (moves : Bool) (a b : ℕ) (state : PlaybackState) → cond moves (waited_state b (cond moves (waited_state a state) state)) (cond moves (waited_state a state) state) ≡ cond moves (waited_state (a + b) state) state
playing_where true a b state = playing_twice a b state
playing_where false a b state = refl

-- a track of other parts
abbrev with_parts : Track → Parameter → PlaybackState → Parameter → Track
with_parts t volume state fade = record { volume = volume; playback = record { state = state; volume_fade = fade }; reached = t.reached; live = t.live }

pub track_twice : (a b : ℕ) (t : Track) → waited_track b (waited_track a t) ≡ waited_track (a + b) t
unfolding waited_track
track_twice a b t =
    ap₂ (λ (v f : Parameter). with_parts t v (cond t.reached (waited_state b (cond t.reached (waited_state a t.playback.state) t.playback.state)) (cond t.reached (waited_state a t.playback.state) t.playback.state)) f)
    (where_twice t.reached a b t.volume) (where_twice t.reached a b t.playback.volume_fade)
    ∙ ap (λ (x : PlaybackState). with_parts t (waited_where t.reached (a + b) t.volume) x (waited_where t.reached (a + b) t.playback.volume_fade)) (playing_where t.reached a b t.playback.state)

tracks_twice : (a b n : ℕ) (tracks : List Track) → waited_tracks b n (waited_tracks a n tracks) ≡ waited_tracks (a + b) n tracks
unfolding waited_tracks
tracks_twice a b n tracks =
    changed_twice (λ t x. waited_track a x) (λ t x. waited_track b x) n tracks
    ∙ changed_cong (λ t x. waited_track b (waited_track a x)) (λ t x. waited_track (a + b) x) n tracks absent_track (λ k b₁ c. track_twice a b (state_of tracks k))

sends_twice : (a b n : ℕ) (sends : List Parameter) → waited_sends b n (waited_sends a n sends) ≡ waited_sends (a + b) n sends
unfolding waited_sends
sends_twice a b n sends =
    changed_twice (λ i p. waited_parameter a p) (λ i p. waited_parameter b p) n sends
    ∙ changed_cong (λ i p. waited_parameter b (waited_parameter a p)) (λ i p. waited_parameter (a + b) p) n sends absent_parameter (λ k b₁ c. where_twice true a b (get_or sends k absent_parameter))

-- whichever tracks are asked, if they say the same
routes_by : (d : ℕ) (s : Scene) (tracks others : List Track) (routes : List Parameter) → ((k : ℕ) → (state_of others k).reached ≡ (state_of tracks k).reached) → waited_routes d s others routes ≡ waited_routes d s tracks routes
unfolding waited_routes
routes_by d s tracks others routes h =
    changed_cong (λ r p. waited_where (route_reached s others r) d p) (λ r p. waited_where (route_reached s tracks r) d p) s.route_count routes absent_parameter
    (λ k b c. ap (λ (x : Bool). waited_where x d (get_or routes k absent_parameter)) (h ((get_or s.routes k absent_route_line).track - 1)))

routes_twice : (a b : ℕ) (s : Scene) (tracks : List Track) (routes : List Parameter) → waited_routes b s tracks (waited_routes a s tracks routes) ≡ waited_routes (a + b) s tracks routes
unfolding waited_routes
routes_twice a b s tracks routes =
    changed_twice (λ r p. waited_where (route_reached s tracks r) a p) (λ r p. waited_where (route_reached s tracks r) b p) s.route_count routes
    ∙ changed_cong (λ r p. waited_where (route_reached s tracks r) b (waited_where (route_reached s tracks r) a p)) (λ r p. waited_where (route_reached s tracks r) (a + b) p) s.route_count routes absent_parameter
    (λ k b₁ c. where_twice (route_reached s tracks k) a b (get_or routes k absent_parameter))

-- a mixer by its parts
parts_same : {main main' : Parameter} {tracks tracks' : List Track} {sends sends' routes routes' : List Parameter} (m : Mixer) → main ≡ main' → tracks ≡ tracks' → sends ≡ sends' → routes ≡ routes' → mixer_of m.clocks main tracks sends routes m.played ≡ mixer_of m.clocks main' tracks' sends' routes' m.played
parts_same m p q r t = rw (p, q, r, t) refl

pub waited_twice : (a b : ℕ) (s : Scene) (m : Mixer) → waited b s (waited a s m) ≡ waited (a + b) s m
unfolding waited
waited_twice a b s m =
    parts_same m (where_twice true a b m.main_volume) (tracks_twice a b s.track_count m.tracks) (sends_twice a b s.send_count m.sends)
    (routes_by b s m.tracks (waited_tracks a s.track_count m.tracks) (waited_routes a s m.tracks m.routes) (waited_reached a s.track_count m.tracks) ∙ routes_twice a b s m.tracks m.routes)

-- ---- waiting no time

pub changed_still : {A : Type 0} (f : ℕ → A → A) (n : ℕ) (l : List A) (d : A) → ((k : ℕ) → k < n → f k (get_or l k d) ≡ get_or l k d) → changed f n l ≡ l
unfolding changed
changed_still f zero l d h = refl
changed_still f (suc n) [] d h = refl
changed_still f (suc n) (x ∷ l) d h = ap₂ (λ y r. y ∷ r) (h 0 (zero-lt-suc n)) (changed_still (λ j. f (suc j)) n l d (λ k b. h (suc k) (suc-le-suc b)))

start_none : (start : StartTime) → waited_start 0 start ≡ start
unfolding waited_start
start_none Immediate = refl
start_none (Delayed remaining) = ap Delayed (omega arith)
start_none (ClockTime time) = refl

motion_none : (state : ParameterState) → waited_motion 0 state ≡ state
unfolding waited_motion
motion_none (Idle value) = refl
motion_none (Tweening start target time tween) = ap (λ (x : StartTime). Tweening start target time (record { start_time = x; duration = tween.duration; easing = tween.easing })) (start_none tween.start_time)

where_none : (moves : Bool) (p : Parameter) → waited_where moves 0 p ≡ p
unfolding waited_where
where_none moves p = go p.stagnant moves
  where
    go : (b c : Bool) → with_motion p (cond b p.state (cond c (waited_motion 0 p.state) p.state)) ≡ p
    go true c = refl
    go false true = ap (with_motion p) (motion_none p.state)
    go false false = refl

playing_none : (state : PlaybackState) → waited_state 0 state ≡ state
unfolding waited_state
playing_none Playing = refl
playing_none Pausing = refl
playing_none Paused = refl
playing_none (WaitingToResume start tween) = ap (λ (x : StartTime). WaitingToResume x tween) (start_none start)
playing_none Resuming = refl
playing_none Stopping = refl
playing_none Stopped = refl

-- a track of parts that are its own
pub track_same : (d : ℕ) (t : Track) → waited_where t.reached d t.volume ≡ t.volume → cond t.reached (waited_state d t.playback.state) t.playback.state ≡ t.playback.state → waited_where t.reached d t.playback.volume_fade ≡ t.playback.volume_fade → waited_track d t ≡ t
unfolding waited_track
track_same d t v p f =
    ap₂ (λ (x y : Parameter). with_parts t x (cond t.reached (waited_state d t.playback.state) t.playback.state) y) v f
    ∙ ap (λ (x : PlaybackState). with_parts t t.volume x t.playback.volume_fade) p

either_none : (b : Bool) (state : PlaybackState) → cond b (waited_state 0 state) state ≡ state
either_none true state = playing_none state
either_none false state = refl

-- a mixer of parts that are its own
pub parts_kept : (d : ℕ) (s : Scene) (m : Mixer) → waited_parameter d m.main_volume ≡ m.main_volume → waited_tracks d s.track_count m.tracks ≡ m.tracks → waited_sends d s.send_count m.sends ≡ m.sends → waited_routes d s m.tracks m.routes ≡ m.routes → waited d s m ≡ m
unfolding waited
parts_kept d s m p q r t = parts_same m p q r t

pub waited_none : (s : Scene) (m : Mixer) → waited 0 s m ≡ m
unfolding waited_tracks waited_sends waited_routes
waited_none s m =
    parts_kept 0 s m (where_none true m.main_volume)
    (changed_still (λ t x. waited_track 0 x) s.track_count m.tracks absent_track (λ k b. (let t = state_of m.tracks k in track_same 0 t (where_none t.reached t.volume) (either_none t.reached t.playback.state) (where_none t.reached t.playback.volume_fade))))
    (changed_still (λ i p. waited_parameter 0 p) s.send_count m.sends absent_parameter (λ k b. where_none true (get_or m.sends k absent_parameter)))
    (changed_still (λ r p. waited_where (route_reached s m.tracks r) 0 p) s.route_count m.routes absent_parameter (λ k b. where_none (route_reached s m.tracks k) (get_or m.routes k absent_parameter)))
