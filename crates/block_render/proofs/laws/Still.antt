-- Why a block stands still: nothing moves in it, or what waits outlasts it. Assumes nothing.
use mathlib.Core.Path.{◌≡◌, refl, sym, ap, ◌∙◌, subst}
use Prim.Native.Nat.{ℕ, ◌≤◌}
use native.Mathlib.Nat.{le_trans, le_of_eq}
use lib.Ieee.{Float}
use Rattle.limits.specs.Limits.{clock_lines}
use Rattle.clock.specs.declared.when_to_start.Clocks.{Clocks}
use Rattle.scene.specs.declared.scene.Head.{Head}
use Rattle.scene.specs.declared.scene.Scene.{Scene}
use Rattle.accepted.specs.SceneOk.{SceneOk}
use Rattle.mixer.specs.declared.mixer.Mixer.{Mixer}
use Rattle.mixer.specs.MixerOk.{MixerOk}
use Rattle.moving_mixer.specs.Moves.{levels_update}
use Rattle.renderer.specs.Renderer.{chunk_count}
use Rattle.steady_mixer.specs.Steady.{Ahead}
use Rattle.steady_mixer.proofs.laws.Settled.{SettledMixer}
use Rattle.steady_mixer.proofs.laws.Steady.{mixer_moved}
use Rattle.steady_mixer.proofs.laws.Waited.{waited}
use Rattle.still_blocks.proofs.laws.Run.{nanos_before, Stays}
use Rattle.chunk_render.specs.Block.{chunk_clocks}
use Rattle.chunk_render.proofs.laws.Ends.{clocks_count}
use Rattle.block_render.specs.Still.{Waits, StandsStill}
use Rattle.block_render.proofs.laws.Joined.{Rests, passed_ok, wait_moves, rest_stays, joined_done, joined_heard, nanos_all, resting, waiting, rests_stay, waits_stay, early_first}

-- ---- what the code finds

-- the clocks at a block's end are as many
pub few_after : (h : Head) (clocks : Clocks) {after : Clocks} → after ≡ chunk_clocks h (chunk_count h) clocks → clocks.count ≤ clock_lines → after.count ≤ clock_lines
few_after h clocks e few = le_trans (le_of_eq (ap (λ (x : Clocks). x.count) e ∙ clocks_count h (chunk_count h) clocks)) few

-- ---- a block that stands still

still_by : (g : Ahead) (s : Scene) (c : ℕ) (m : Mixer) → SceneOk s → MixerOk s c m → Stays g s m → StandsStill s m (waited (nanos_before s.head (chunk_count s.head)) s m)
still_by g s c m ok within stays =
    record {
      chunks = c;
      inside = passed_ok g s c m ok within stays;
      clocks = same_clocks (nanos_before s.head (chunk_count s.head));
      done = joined_done g s c m ok within stays;
      heard = λ samples there. joined_heard g s c m ok within stays samples there;
    }
  where
    same_clocks : (d : ℕ) → (waited d s m).clocks ≡ m.clocks
    same_clocks d = unfold waited in refl

pub rests_still : (s : Scene) (c : ℕ) (m : Mixer) → SceneOk s → MixerOk s c m → Rests s m → StandsStill s m m
rests_still s c m ok within e =
    let stays = rests_stay s c m within e in
    subst (StandsStill s m) (sym (rest_stays (resting s c m within) s c m ok within stays refl)) (still_by (resting s c m within) s c m ok within stays)

levels_moved : (s : Scene) (step : Float) (m : Mixer) → levels_update s step m ≡ mixer_moved s step m.clocks m
unfolding levels_update mixer_moved
levels_moved s step m = refl

pub waits_still : (s : Scene) (c : ℕ) (m x : Mixer) (step : Float) → SceneOk s → MixerOk s c m → SettledMixer s m → Waits s step m → x ≡ levels_update s step m → StandsStill s m x
waits_still s c m x step ok within settled w e =
    let stays = waits_stay s c m within settled w in
    let g = waiting s c m within in
    let is = e ∙ levels_moved s step m ∙ wait_moves g s c m ok within stays step (w.seconds ∙ sym (nanos_all s c m within)) (early_first s c m within) in
    subst (StandsStill s m) (sym is) (still_by g s c m ok within stays)
