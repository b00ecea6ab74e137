-- What holds of every chunk of an accepted render. `values` says that 11 is never met there: every decibel value that mixing reads is a number and at most
-- 20. Assumes nothing.
use mathlib.Core.Path.{◌≡◌, refl}
use mathlib.Core.List.{List}
use Prim.Native.Nat.{ℕ, suc, ◌+◌, ◌*◌, ◌<◌}
use lib.Ieee.{Float}
use Rattle.std.specs.Prelude.{None, Some}
use mathlib.Core.Bool.{Bool, true, false, cond}
use lib.Dec.{T}
use Rattle.recordings.specs.Recordings.{Recordings}
use Rattle.laws.proofs.laws.DecibelRange.{ReadRange, value→read}
use Rattle.tween.specs.Tweenable.{interpolated}
use Rattle.tween.proofs.laws.Tweenable.{interpolated_read}
use Rattle.parameter.specs.Range.{ParameterIn, value_range}
use Rattle.decibels.specs.Answer.{Answer, amplitude_answer}
use Rattle.decibels.specs.Decibels.{admitted, amplitude}
use Rattle.decibels.proofs.laws.Decibels.{read_admitted}
use Rattle.spatial.specs.declared.placing.Placing.{Placing}
use Rattle.spatial.specs.declared.placing.Placing.TheVariants.{Plain, Unheard, Spatial}
use Rattle.spatial.specs.Spatial.{PlacingIn}
use Rattle.spatial.proofs.laws.Spatial.{placing_admitted}
use Rattle.scene_file.specs.Grammar.{tables_of}
use Rattle.scene_questions.specs.Questions.{answer}
use Rattle.scene.specs.declared.scene.Scene.{Scene}
use Rattle.scene.specs.Scene.{scene_of}
use Rattle.accepted.specs.SceneOk.{SceneOk, SamplesOk}
use Rattle.accepted.proofs.laws.Accepted.{accepted_ok, accepted_samples}
use Rattle.chunk.specs.declared.chunk.Level.{Level}
use Rattle.chunk.proofs.laws.Chunk.{IsAmount, amount_is}
use Rattle.chunk.specs.Chunk.{LevelInRange, ChunkOk, amount_at, track_row, send_row}
use Rattle.mixer.specs.Mixer.{parameter_of}
use Rattle.mixer.specs.Orders.{mixer_ordered}
use Rattle.mixer_chunk.specs.ChunkOf.{chunk_of}
use Rattle.mixer.specs.MixerOk.{MixerOk}
use Rattle.mixer_laws.proofs.laws.Ordered.{ordered_ok}
use Rattle.mixer_laws.proofs.laws.Mixes.{chunk_ok}
use Rattle.renderer.specs.Renderer.{chunk_count, chunk_frames, mixer_at, chunks_done, mixer_in, chunk_in}
use Rattle.renderer.proofs.laws.Renderer.{few_frames, in_chunk_ok, chunks_ok, blocks_ok}
use Rattle.room_desk.specs.NeverEleven.{GivenAt, GivenOf, NeverEleven}

module _ (s : Scene) (ok : SceneOk s) (b k : ℕ) where
  pub mixer_ok : MixerOk s (suc (b * chunk_count s.head + k)) (mixer_in s b k)
  mixer_ok =
      let c = b * chunk_count s.head in
      let m = mixer_ordered s b (mixer_at s b) in
      in_chunk_ok s ok k (c + k) (chunks_done s k m) (chunks_ok s ok k c m (ordered_ok s c b (mixer_at s b) ok (blocks_ok s ok b)))

  pub chunk_in_ok : (samples : Recordings) → SamplesOk s samples → ChunkOk (chunk_in s b k) samples
  chunk_in_ok samples heard = chunk_ok s samples (suc (b * chunk_count s.head + k)) (chunk_frames s.head k) (mixer_in s b k) ok heard mixer_ok (few_frames s k ok)

  pub routes_in : (r : ℕ) → r < s.route_count → ParameterIn value_range (parameter_of (mixer_in s b k).routes r)
  routes_in = mixer_ok.routes

-- ---- 11 is never met

-- wherever a level is read within a chunk, the value is a number from -98 to 20
abbrev pub ReadWithin : Level → Type 0
ReadWithin l = (amount : Float) → IsAmount amount → ReadRange (interpolated l.before l.now amount).0

read_within : (l : Level) → LevelInRange l → ReadWithin l
read_within l h amount a = interpolated_read l.before l.now amount a h.before h.now

pub record Values (s : Scene) (b k : ℕ) : Type 0 where
  pub volumes : (t : ℕ) → t < s.track_count → ReadWithin (track_row (chunk_in s b k) t).volume
  pub fades : (t : ℕ) → t < s.track_count → ReadWithin (track_row (chunk_in s b k) t).fade
  pub placings : (t : ℕ) → t < s.track_count → PlacingIn (track_row (chunk_in s b k) t).placing
  pub sends : (i : ℕ) → i < s.send_count → ReadWithin (send_row (chunk_in s b k) i)
  pub routes : (r : ℕ) → r < s.route_count → ReadRange (parameter_of (mixer_in s b k).routes r).raw_value.0
  pub main : ReadWithin (chunk_in s b k).main

pub values : (file : List ℕ) (samples : Recordings) (output : ℕ) (e : answer file samples output ≡ 0) (b k : ℕ) → Values (scene_of (tables_of file)) b k
unfolding chunk_of
values file samples output e b k =
    let s = scene_of (tables_of file) in
    let ok = accepted_ok file samples output e in
    let c = chunk_in_ok s ok b k samples (accepted_samples file samples output e) in
    record {
      volumes = λ t h. read_within (track_row (chunk_in s b k) t).volume (c.volumes t h);
      fades = λ t h. read_within (track_row (chunk_in s b k) t).fade (c.fades t h);
      placings = c.placings;
      sends = λ i h. read_within (send_row (chunk_in s b k) i) (c.send_levels i h);
      routes = λ r h. value→read _ (routes_in s ok b k r h).value;
      main = read_within (chunk_in s b k).main c.main_level;
    }

-- ---- the same in question 11's own words: at every frame that mixing reads, the amplitude routine's number is 0

admitted_given : (x : Float) → T (admitted x) → (amplitude_answer x).number ≡ 0
unfolding amplitude_answer
admitted_given x h = go (admitted x) h
  where
    go : (b : Bool) → T b → (cond {A = Answer} b (record { number = 0; value = Some (amplitude x) }) (record { number = 11; value = None })).number ≡ 0
    go true t = refl
    go false t = absurd t

pub read_given : (x : Float) → ReadRange x → (amplitude_answer x).number ≡ 0
read_given x h = admitted_given x (read_admitted x h)

given_of : (p : Placing) → PlacingIn p → GivenOf p
given_of Plain h = tt
given_of Unheard h = tt
given_of (Spatial level) h = admitted_given level.0 (placing_admitted level h)

given_at : (s : Scene) (ok : SceneOk s) (k : ℕ) (l : Level) → ReadWithin l → GivenAt (chunk_frames s.head k) l
given_at s ok k l h i p = read_given _ (h (amount_at i (chunk_frames s.head k)) (amount_is i (chunk_frames s.head k) p (few_frames s k ok)))

pub never_eleven : (file : List ℕ) (samples : Recordings) (output : ℕ) (e : answer file samples output ≡ 0) (b k : ℕ) → NeverEleven (scene_of (tables_of file)) b k
never_eleven file samples output e b k =
    let s = scene_of (tables_of file) in
    let ok = accepted_ok file samples output e in
    let v = values file samples output e b k in
    record {
      volumes = λ t h. given_at s ok k _ (v.volumes t h);
      fades = λ t h. given_at s ok k _ (v.fades t h);
      placings = λ t h. given_of (track_row (chunk_in s b k) t).placing (v.placings t h);
      sends = λ i h. given_at s ok k _ (v.sends i h);
      routes = λ r h. read_given _ (v.routes r h);
      main = given_at s ok k _ v.main;
    }
