-- A scene that loses what lies inside: the relation has members. Track 0's volume is silent, and track 1, with a sound, stands below it. Track 2 is paused at
-- once before the first block; track 3, with a route and orders of its own, stands below it. Tracks 0 and 2 are chosen. Track 4 is kept. Tracks 0, 1 and 4 are
-- placed. Assumes nothing.
use mathlib.Core.Path.{◌≡◌, refl, ap}
use mathlib.Core.Logic.{◌⊎◌, inl, inr}
use mathlib.Core.Bool.{Bool, true, false, not, cond}
use mathlib.Core.List.{[], ◌∷◌}
use Prim.Native.Nat.{ℕ, zero, suc, ◌<◌}
use native.Mathlib.Omega.{arith}
use lib.Dec.{T, T_not, eqb, lit<}
use lib.Ieee.{Float}
use lib.Ieee.Fits.{eq→eqb}
use Rattle.recordings.specs.Recordings.{Recordings, recordings, from_house, from_visitor, recording}
use Rattle.noninterference.proofs.laws.Example.{two, only}
use Rattle.laws.specs.Kept.{rank}
use Rattle.laws.specs.Float.{pos_zero, one}
use Rattle.laws.proofs.laws.DecibelRange.{SilentRange, minus_sixty, minus_sixty_silent}
use Rattle.tween.specs.declared.start_time.StartTime.TheVariants.{Immediate}
use Rattle.tween.specs.declared.tween.Easing.TheVariants.{Linear}
use Rattle.spatial.specs.declared.placing.Placing.{Placing}
use Rattle.spatial.specs.declared.placing.Placing.TheVariants.{Plain, Spatial}
use Rattle.scene.specs.declared.scene.Head.{Head}
use Rattle.scene.specs.declared.scene.Scene.{Scene}
use Rattle.scene.specs.declared.scene.TrackLine.{TrackLine}
use Rattle.scene.specs.declared.scene.RouteLine.{RouteLine}
use Rattle.scene.specs.declared.scene.TrackPlacing.{TrackPlacing}
use Rattle.scene.specs.declared.scene.OrderLine.{OrderLine}
use Rattle.scene.specs.declared.scene.OrderKind.{OrderKind}
use Rattle.scene.specs.declared.scene.OrderKind.TheVariants.{TrackVolume, RouteVolume, Pause, Resume}
use Rattle.accepted.specs.Lines.{track_line, route_line, sound_line, placing_at, order_line}
use Rattle.order_lines.specs.Orders.{kind_number}
use Rattle.frame.specs.Frame.{sample_frame}
use Rattle.noninterference.specs.Removed.{new_line}
use Rattle.noninterference.proofs.laws.Lines.{kept_line, open_line}
use Rattle.noninterference.proofs.laws.SceneLeft.{kept_route_line, kept_sound_line, kept_index, kept_order, new_index, new_track_line, new_route_line, new_order_line, line_frame, MutedTrack, HeldTrack, SceneLeft}

-- tracks 0, 2 and 4 are kept, tracks 0 and 2 are chosen, and track 1 is quiet
abbrev kept : ℕ → Bool
kept zero = true
kept (suc zero) = false
kept (suc (suc zero)) = true
kept (suc (suc (suc zero))) = false
kept (suc (suc (suc (suc n)))) = true

abbrev opened : ℕ → Bool
opened zero = true
opened (suc zero) = false
opened (suc (suc zero)) = true
opened (suc (suc (suc n))) = false

abbrev still : ℕ → Bool
still zero = false
still (suc zero) = true
still (suc (suc n)) = false

abbrev at : ℕ → Float → TrackLine
at parent volume = record { parent = parent; volume = record { 0 = volume } }

abbrev placed : Placing → TrackPlacing
placed placing = record { placing = placing }

abbrev heard_at : Float → TrackPlacing
heard_at level = placed (Spatial (record { 0 = level }))

abbrev route_from : ℕ → RouteLine
route_from line = record { track = line; send = 1; volume = record { 0 = pos_zero } }

abbrev order : OrderKind → ℕ → Float → OrderLine
order kind index target = record { block = 0; kind = kind; index = index; target = record { 0 = target }; start_time = Immediate; millis = 0; easing = Linear }

abbrev head : Head
head = record { rate = 8192; channels = 2; buffer = 128; block = 2; blocks = 1; volume = record { 0 = pos_zero } }

abbrev samples : Recordings
samples = recordings (pos_zero ∷ pos_zero ∷ one ∷ one ∷ []) []

abbrev whole : Scene
whole =
    record {
      head = head;
      clock_count = 0;
      clocks = [];
      track_count = 5;
      tracks = at 0 minus_sixty ∷ at 1 pos_zero ∷ at 0 pos_zero ∷ at 3 pos_zero ∷ at 0 pos_zero ∷ [];
      send_count = 1;
      sends = record { volume = record { 0 = pos_zero } } ∷ [];
      route_count = 2;
      routes = route_from 4 ∷ route_from 5 ∷ [];
      sound_count = 2;
      sounds = record { track = 2; first = 0; count = 1; from = from_house } ∷ record { track = 5; first = 1; count = 1; from = from_house } ∷ [];
      placings = heard_at pos_zero ∷ heard_at pos_zero ∷ placed Plain ∷ placed Plain ∷ heard_at minus_sixty ∷ [];
      order_count = 5;
      orders = order Resume 4 pos_zero ∷ order Pause 3 pos_zero ∷ order RouteVolume 1 one ∷ order RouteVolume 2 one ∷ order TrackVolume 5 one ∷ [];
    }

abbrev rest : Scene
rest =
    record {
      head = head;
      clock_count = 0;
      clocks = [];
      track_count = 3;
      tracks = at 0 minus_sixty ∷ at 0 pos_zero ∷ at 0 pos_zero ∷ [];
      send_count = 1;
      sends = record { volume = record { 0 = pos_zero } } ∷ [];
      route_count = 1;
      routes = route_from 3 ∷ [];
      sound_count = 1;
      sounds = record { track = 3; first = 0; count = 1; from = from_visitor } ∷ [];
      placings = placed Plain ∷ placed Plain ∷ heard_at minus_sixty ∷ [];
      order_count = 3;
      orders = order Pause 2 pos_zero ∷ order RouteVolume 1 one ∷ order TrackVolume 3 one ∷ [];
    }

-- the lines one by one
five : (P : ℕ → Type 0) → P 0 → P 1 → P 2 → P 3 → P 4 → (j : ℕ) → j < 5 → P j
five P a b c d e zero l = a
five P a b c d e (suc zero) l = b
five P a b c d e (suc (suc zero)) l = c
five P a b c d e (suc (suc (suc zero))) l = d
five P a b c d e (suc (suc (suc (suc zero)))) l = e
five P a b c d e (suc (suc (suc (suc (suc j))))) l = absurd (omega arith)

other_kind : (j k : OrderKind) → T (not (eqb (kind_number j) (kind_number k))) → j ≡ k → ⊥
other_kind j k t e = T_not (eqb (kind_number j) (kind_number k)) t (eq→eqb (ap kind_number e))

silent_first : MutedTrack still whole 0
unfolding kind_number
silent_first =
    record {
      volume = minus_sixty_silent;
      orders = five (λ i. (order_line whole i).kind ≡ TrackVolume → (order_line whole i).index ≡ 1 → SilentRange (order_line whole i).target.0) (λ k e. absurd (omega arith)) (λ k e. absurd (omega arith))
          (λ k e. absurd (other_kind RouteVolume TrackVolume tt k)) (λ k e. absurd (omega arith)) (λ k e. absurd (omega arith));
      below = five (λ j. (track_line whole j).parent ≡ 1 → T (still j)) (λ e. absurd (omega arith)) (λ e. tt) (λ e. absurd (omega arith)) (λ e. absurd (omega arith)) (λ e. absurd (omega arith));
    }

held_third : HeldTrack whole 2
held_third =
    record {
      line = 1;
      there = lit< tt;
      pause = refl;
      index = refl;
      block = refl;
      start = refl;
      millis = refl;
      only = five (λ i. ((order_line whole i).kind ≡ Pause) ⊎ ((order_line whole i).kind ≡ Resume) → (order_line whole i).index ≡ 3 → i ≡ 1) (λ k e. absurd (omega arith)) (λ k e. refl) (λ k e. absurd (omega arith))
          (λ k e. absurd (omega arith)) (λ k e. absurd (omega arith));
    }

abbrev visiting : Recordings
visiting = recordings [] (one ∷ one ∷ [])

pub example : SceneLeft kept opened still whole samples rest visiting
unfolding recording rank new_line kept_line open_line kept_index new_index sample_frame
example =
    record {
      head = refl;
      clock_count = refl;
      clocks = λ i l. refl;
      send_count = refl;
      sends = λ i l. refl;
      track_count = refl;
      tracks = five (λ t. T (kept t) → track_line rest (rank kept t) ≡ new_track_line kept (track_line whole t)) (λ k. refl) (λ k. absurd k) (λ k. refl) (λ k. absurd k) (λ k. refl);
      route_count = refl;
      routes = two (λ r. T (kept_route_line kept whole r) → route_line rest (rank (kept_route_line kept whole) r) ≡ new_route_line kept (route_line whole r)) (λ k. absurd k) (λ k. refl);
      sound_count = refl;
      sound_tracks = two (λ k. T (kept_sound_line kept opened whole k) → (sound_line rest (rank (kept_sound_line kept opened whole) k)).track ≡ new_line kept (sound_line whole k).track) (λ k. absurd k) (λ k. refl);
      sound_counts = two (λ k. T (kept_sound_line kept opened whole k) → (sound_line rest (rank (kept_sound_line kept opened whole) k)).count ≡ (sound_line whole k).count) (λ k. absurd k) (λ k. refl);
      sound_frames =
          two (λ k. T (kept_sound_line kept opened whole k) → (i : ℕ) → i < (sound_line whole k).count
          → line_frame visiting (sound_line rest (rank (kept_sound_line kept opened whole) k)) i ≡ line_frame samples (sound_line whole k) i)
          (λ k. absurd k) (λ k. only (λ i. line_frame visiting (sound_line rest 0) i ≡ line_frame samples (sound_line whole 1) i) refl);
      placings = five (λ t. T (kept t) → placing_at rest (rank kept t) ≡ cond (opened t) Plain (placing_at whole t)) (λ k. refl) (λ k. absurd k) (λ k. refl) (λ k. absurd k) (λ k. refl);
      order_count = refl;
      orders = five (λ i. T (kept_order kept whole i) → order_line rest (rank (kept_order kept whole) i) ≡ new_order_line kept whole (order_line whole i)) (λ k. absurd k) (λ k. refl) (λ k. absurd k) (λ k. refl) (λ k. refl);
      tree = five (λ t. kept t ≡ open_line kept opened (track_line whole t).parent) refl refl refl refl refl;
      silent = five (λ t. T (opened t) → MutedTrack still whole t ⊎ HeldTrack whole t) (λ k. inl silent_first) (λ k. absurd k) (λ k. inr held_third) (λ k. absurd k) (λ k. absurd k);
      quiet_routes = five (λ t. T (still t) → (r : ℕ) → r < 2 → (route_line whole r).track ≡ suc t → ⊥) (λ q. absurd q)
          (λ q. two (λ r. (route_line whole r).track ≡ 2 → ⊥) (λ e. omega arith) (λ e. omega arith)) (λ q. absurd q) (λ q. absurd q) (λ q. absurd q);
      quiet_below = five (λ t. T (still t) → (j : ℕ) → j < 5 → (track_line whole j).parent ≡ suc t → T (still j)) (λ q. absurd q)
          (λ q. five (λ j. (track_line whole j).parent ≡ 2 → T (still j)) (λ e. absurd (omega arith)) (λ e. tt) (λ e. absurd (omega arith)) (λ e. absurd (omega arith)) (λ e. absurd (omega arith)))
          (λ q. absurd q) (λ q. absurd q) (λ q. absurd q);
    }
