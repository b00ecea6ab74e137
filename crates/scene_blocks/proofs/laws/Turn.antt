-- What a show's mixer is before each block, and once the block's orders are read. Assumes nothing.
use mathlib.Core.Path.{◌≡◌, sym, subst}
use mathlib.Core.Bool.{Bool, false, true≢false, false≢true}
use Prim.Native.Nat.{ℕ, zero, suc, ◌+◌, ◌*◌, ◌≤◌, ◌<◌}
use native.Mathlib.Nat.{le_trans, le_of_eq}
use native.Mathlib.Omega.{arith}
use lib.ListN.{replicate, length-replicate}
use Rattle.limits.specs.Limits.{track_places, send_lines, route_lines}
use Rattle.decibels.specs.declared.decibels.Decibels.{Decibels}
use Rattle.laws.proofs.laws.Loop.{changed_below}
use Rattle.parameter.specs.Parameter.{parameter_new}
use Rattle.scene.specs.declared.scene.Scene.{Scene}
use Rattle.accepted.specs.Lines.{track_line, send_line, route_line}
use Rattle.accepted.specs.SceneOk.{SceneOk}
use Rattle.mixer.specs.declared.mixer.Mixer.{Mixer}
use Rattle.mixer.specs.Sub.{track_new}
use Rattle.mixer.specs.Mixer.{empty_track, empty_parameter, absent_track, absent_parameter, tracks_new, sends_new, routes_new, mixer_new}
use Rattle.mixer.specs.Orders.{mixer_ordered}
use Rattle.mixer.specs.MixerOk.{MixerOk}
use Rattle.mixer_laws.proofs.laws.Ordered.{ordered_ok}
use Rattle.renderer.specs.Renderer.{chunk_count, chunks_done, mixer_at}
use Rattle.renderer.proofs.laws.Renderer.{chunks_ok, blocks_ok, chunks_few, seconds_in_an_hour}
use Rattle.steady_mixer.proofs.laws.Settled.{Settled, SettledTrack, SettledMixer}
use Rattle.still_blocks.proofs.laws.Run.{done_next, chunk_settles}
use Rattle.chunk_render.specs.Block.{NanosAsk}
use Rattle.block_render.specs.Still.{Rendering}
use Rattle.scene_blocks.proofs.laws.Blocks.{mixer_start, mixer_next, count_positive}

-- ---- motions that have settled

-- a new parameter rests
new_rests : (v : Decibels) → Settled (parameter_new v)
unfolding parameter_new
new_rests v e = absurd (true≢false e)

new_track : (v : Decibels) → SettledTrack (track_new v)
unfolding track_new
new_track v = record { volume = λ r. absurd (false≢true r); fade = λ r. absurd (false≢true r) }

new_settled : (s : Scene) → SceneOk s → SettledMixer s (mixer_new s)
unfolding mixer_new sends_new tracks_new routes_new
new_settled s ok =
    record {
      main = new_rests s.head.volume;
      sends = λ i b. subst Settled (sym (changed_below (λ i x. parameter_new (send_line s i).volume) s.send_count (replicate send_lines empty_parameter) i absent_parameter b (le_trans b (le_trans ok.send_count (le_of_eq (sym (length-replicate send_lines empty_parameter))))))) (new_rests (send_line s i).volume);
      tracks = λ t b. subst SettledTrack (sym (changed_below (λ t x. track_new (track_line s t).volume) s.track_count (replicate track_places empty_track) t absent_track b (le_trans b (le_trans ok.track_count (le_of_eq (sym (length-replicate track_places empty_track))))))) (new_track (track_line s t).volume);
      routes = λ r b e. subst Settled (sym (changed_below (λ r x. parameter_new (route_line s r).volume) s.route_count (replicate route_lines empty_parameter) r absent_parameter b (le_trans b (le_trans ok.route_count (le_of_eq (sym (length-replicate route_lines empty_parameter))))))) (new_rests (route_line s r).volume);
    }

-- after a block's last chunk
block_settles : (s : Scene) → SceneOk s → (m : Mixer) (c : ℕ) → MixerOk s c m → SettledMixer s (chunks_done s (chunk_count s.head) m)
block_settles s ok m c within = go (chunk_count s.head) (count_positive s.head ok.buffer.0 ok.block.0)
  where
    go : (n : ℕ) → 1 ≤ n → SettledMixer s (chunks_done s n m)
    go zero l = absurd (omega arith)
    go (suc k) l = subst (SettledMixer s) (sym (done_next s k m)) (chunk_settles s ok k (c + k) (chunks_done s k m) (chunks_ok s ok k c m within))

pub settled_at : (s : Scene) (b : ℕ) → SceneOk s → SettledMixer s (mixer_at s b)
settled_at s zero ok = subst (SettledMixer s) (mixer_start s) (new_settled s ok)
settled_at s (suc b) ok =
    let one : b + 1 ≡ suc b = omega arith in
    subst (λ (n : ℕ). SettledMixer s (mixer_at s n)) one
    (subst (SettledMixer s) (mixer_next s b) (block_settles s ok (mixer_ordered s b (mixer_at s b)) (b * chunk_count s.head) (ordered_ok s (b * chunk_count s.head) b (mixer_at s b) ok (blocks_ok s ok b))))

-- ---- what a block asks

pub rendering_at : (s : Scene) (b : ℕ) {ordered : Bool} {x m : Mixer} → SceneOk s → b < s.head.blocks → x ≡ mixer_at s b → m ≡ mixer_ordered s b x → (ordered ≡ false → m ≡ x) → Rendering ordered s m
rendering_at s b {ordered} {x} {m} ok more e f none =
    record {
      chunks = b * chunk_count s.head;
      inside = subst (MixerOk s (b * chunk_count s.head)) (sym f) (ordered_ok s (b * chunk_count s.head) b x ok (subst (MixerOk s (b * chunk_count s.head)) (sym e) (blocks_ok s ok b)));
      few = chunks_few s ok b more;
      settled = λ q. subst (SettledMixer s) (sym (none q)) (subst (SettledMixer s) (sym e) (settled_at s b ok));
    }

pub nanos_ask : (s : Scene) → SceneOk s → NanosAsk s.head
nanos_ask s ok = record { rate = ok.rate.1; buffer = ok.buffer; block = ok.block.1; hours = λ k b. seconds_in_an_hour s k ok }
