-- A scene whose chunks are as long as a chunk can be, and all else the same. What a mixer keeps to, whether it stands still and what mixing reads of
-- it do not ask how long chunks are. Assumes nothing.
use mathlib.Core.Path.{◌≡◌, refl}
use Prim.Native.Nat.{ℕ}
use lib.Dec.{lit≤}
use Rattle.recordings.specs.Recordings.{Recordings}
use Rattle.limits.specs.Limits.{chunk_frames_most}
use Rattle.scene.specs.declared.scene.Head.{Head}
use Rattle.scene.specs.declared.scene.Scene.{Scene}
use Rattle.scene.specs.declared.scene.RouteLine.{RouteLine}
use Rattle.scene.specs.declared.scene.OrderLine.{OrderLine}
use Rattle.scene.specs.declared.scene.OrderKind.{OrderKind}
use Rattle.scene.specs.declared.scene.OrderKind.TheVariants.{MainVolume, TrackVolume, SendVolume, RouteVolume, Pause, Resume}
use Rattle.accepted.specs.Lines.{route_line, order_line}
use Rattle.accepted.specs.SceneOk.{IndexOk, RouteOk, OrderOk, SceneOk, SamplesOk}
use Rattle.mixer.specs.declared.mixer.Mixer.{Mixer}
use Rattle.mixer.specs.MixerOk.{MixerOk}
use Rattle.mixer_chunk.specs.ChunkOf.{chunk_of}
use Rattle.steady_mixer.specs.Steady.{Ahead}
use Rattle.steady_mixer.specs.MixerSteady.{mixer_steady}

abbrev pub joined_head : Head → Head
joined_head h = record { rate = h.rate; channels = h.channels; buffer = chunk_frames_most; block = h.block; blocks = h.blocks; volume = h.volume }

abbrev pub joined : Scene → Scene
joined s =
    record {
      head = joined_head s.head;
      clock_count = s.clock_count;
      clocks = s.clocks;
      track_count = s.track_count;
      tracks = s.tracks;
      send_count = s.send_count;
      sends = s.sends;
      route_count = s.route_count;
      routes = s.routes;
      sound_count = s.sound_count;
      sounds = s.sounds;
      placings = s.placings;
      order_count = s.order_count;
      orders = s.orders;
    }

-- ---- the scene

index_joined : (s : Scene) (kind : OrderKind) (i : ℕ) → IndexOk s kind i → IndexOk (joined s) kind i
index_joined s MainVolume i h = h
index_joined s TrackVolume i h = h
index_joined s SendVolume i h = h
index_joined s RouteVolume i h = h
index_joined s Pause i h = h
index_joined s Resume i h = h

route_joined : (s : Scene) (r : RouteLine) → RouteOk s r → RouteOk (joined s) r
route_joined s r h = record { track = h.track; send = h.send; volume = h.volume }

order_joined : (s : Scene) (o : OrderLine) → OrderOk s o → OrderOk (joined s) o
order_joined s o h = record { block = h.block; index = index_joined s o.kind o.index h.index; target = h.target; start = h.start; millis = h.millis }

pub scene_joined : (s : Scene) → SceneOk s → SceneOk (joined s)
scene_joined s ok =
    record {
      rate = ok.rate;
      channels = ok.channels;
      buffer = (lit≤ tt, lit≤ tt);
      block = ok.block;
      blocks = ok.blocks;
      volume = ok.volume;
      clock_count = ok.clock_count;
      track_count = ok.track_count;
      send_count = ok.send_count;
      route_count = ok.route_count;
      sound_count = ok.sound_count;
      order_count = ok.order_count;
      clock_places = ok.clock_places;
      track_places = ok.track_places;
      send_places = ok.send_places;
      route_places = ok.route_places;
      sound_places = ok.sound_places;
      placing_places = ok.placing_places;
      order_places = ok.order_places;
      clocks = ok.clocks;
      tracks = ok.tracks;
      parents = ok.parents;
      sends = ok.sends;
      routes = λ r b. route_joined s (route_line s r) (ok.routes r b);
      sounds = ok.sounds;
      placings = ok.placings;
      orders = λ i b. order_joined s (order_line s i) (ok.orders i b);
    }

pub samples_joined : (s : Scene) (samples : Recordings) → SamplesOk s samples → SamplesOk (joined s) samples
samples_joined s samples there = record { sounds = there.sounds; within = there.within }

-- ---- the mixer

module _ (s : Scene) (m : Mixer) where
  pub mixer_joined : (c : ℕ) → MixerOk s c m → MixerOk (joined s) c m
  mixer_joined c h =
      record {
        clock_count = h.clock_count;
        clocks = h.clocks;
        main = h.main;
        track_places = h.track_places;
        send_places = h.send_places;
        route_places = h.route_places;
        sound_places = h.sound_places;
        tracks = h.tracks;
        sends = h.sends;
        routes = h.routes;
        played = h.played;
      }

  pub steady_joined : (g : Ahead) → mixer_steady g (joined s) m ≡ mixer_steady g s m
  unfolding mixer_steady
  steady_joined g = refl

  pub chunk_joined : (n : ℕ) → chunk_of (joined s) n m ≡ chunk_of s n m
  unfolding chunk_of
  chunk_joined n = refl
