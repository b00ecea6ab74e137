-- What holds of a track once a block's orders are read, and that a volume with silent orders stays silent. Assumes nothing.
use mathlib.Core.Path.{◌≡◌, refl, sym, subst}
use mathlib.Core.Bool.{Bool, true, false, cond}
use Prim.Native.Nat.{ℕ, suc, ◌-◌, ◌≤◌, ◌<◌}
use native.Mathlib.Nat.{lt_of_le_of_lt}
use native.Mathlib.Omega.{arith}
use lib.Dec.{T, lit<}
use Rattle.laws.specs.Loop.{upto}
use Rattle.laws.proofs.laws.Loop.{upto_holds}
use Rattle.parameter.proofs.laws.Parameter.{silent_range, set_in}
use Rattle.parameter.specs.Range.{Short}
use Rattle.scene.specs.declared.scene.Scene.{Scene}
use Rattle.scene.specs.declared.scene.OrderLine.{OrderLine}
use Rattle.scene.specs.declared.scene.OrderKind.{OrderKind}
use Rattle.scene.specs.declared.scene.OrderKind.TheVariants.{MainVolume, TrackVolume, SendVolume, RouteVolume, Pause, Resume}
use Rattle.accepted.specs.Lines.{order_line}
use Rattle.accepted.specs.SceneOk.{IndexOk, SceneOk}
use Rattle.mixer.specs.declared.sub.Track.{Track}
use Rattle.mixer.specs.declared.mixer.Mixer.{Mixer}
use Rattle.mixer.specs.Sub.{track_set, track_pause, track_resume}
use Rattle.mixer.specs.Mixer.{state_of, absent_track}
use Rattle.order_lines.specs.Orders.{counts, tween_of, resume_tween_of}
use Rattle.mixer.specs.Orders.{ordered_by, resumed_by, mixer_ordered, map_track, map_send, map_route, map_main}
use Rattle.noninterference.proofs.laws.SceneLeft.{MutedTrack}
use Rattle.noninterference.proofs.laws.Arrays.{set_holds}
use Rattle.noninterference.proofs.laws.Orders.{Acts, acted, passes}
use Rattle.noninterference.proofs.laws.SilentMoves.{SilentVolume}

-- ---- what holds of a track once an order is read

module _ (P : Track → Type 0) (t : ℕ) (m : Mixer) (p : P (state_of m.tracks t)) where
  line_holds : (line : ℕ) (f : Track → Track) → 1 ≤ line → (line ≡ suc t → P (f (state_of m.tracks t))) → P (state_of (map_track line f m).tracks t)
  unfolding map_track
  line_holds line f b h =
      set_holds P m.tracks (line - 1) t (f (state_of m.tracks (line - 1))) absent_track p (λ e. subst (λ (k : ℕ). P (f (state_of m.tracks k))) (sym e) (h (named line t b e)))
    where
      named : (n k : ℕ) → 1 ≤ n → n - 1 ≡ k → n ≡ suc k
      named n k a e = omega arith

  module _ (s : Scene) where
    pub ordered_holds : (k : OrderKind) (o : OrderLine) → IndexOk s k o.index → (k ≡ TrackVolume → o.index ≡ suc t → P (track_set (state_of m.tracks t) o.target (tween_of o)))
        → (k ≡ Pause → o.index ≡ suc t → P (track_pause (state_of m.tracks t) (tween_of o))) → P (state_of (ordered_by k o m).tracks t)
    unfolding ordered_by map_send map_route map_main
    ordered_holds MainVolume o i a b = p
    ordered_holds TrackVolume o i a b = line_holds o.index (λ x. track_set x o.target (tween_of o)) i.0 (a refl)
    ordered_holds SendVolume o i a b = p
    ordered_holds RouteVolume o i a b = p
    ordered_holds Pause o i a b = line_holds o.index (λ x. track_pause x (tween_of o)) i.0 (b refl)
    ordered_holds Resume o i a b = p

    pub resumed_holds : (k : OrderKind) (o : OrderLine) → IndexOk s k o.index → (k ≡ Resume → o.index ≡ suc t → P (track_resume (state_of m.tracks t) o.start_time (resume_tween_of o)))
        → P (state_of (resumed_by k o m).tracks t)
    unfolding resumed_by
    resumed_holds MainVolume o i a = p
    resumed_holds TrackVolume o i a = p
    resumed_holds SendVolume o i a = p
    resumed_holds RouteVolume o i a = p
    resumed_holds Pause o i a = p
    resumed_holds Resume o i a = line_holds o.index (λ x. track_resume x o.start_time (resume_tween_of o)) i.0 (a refl)

pub acted_holds : (P : Mixer → Type 0) (act : Acts) (s : Scene) (block i : ℕ) (m : Mixer) → P m → (T (counts s.orders s.order_count block i) → P (act (order_line s i).kind (order_line s i) m))
    → P (acted act s block i m)
unfolding acted
acted_holds P act s block i m p h = go (counts s.orders s.order_count block i) h
  where
    go : (b : Bool) → (T b → P (act (order_line s i).kind (order_line s i) m)) → P (cond b (act (order_line s i).kind (order_line s i) m) m)
    go true q = q tt
    go false q = p

-- both passes, where each line keeps what holds of the track
pub passes_hold : (P : Track → Type 0) (t : ℕ) (s : Scene) (block : ℕ) (m : Mixer)
    → ((i : ℕ) → i < s.order_count → (x : Mixer) → P (state_of x.tracks t) → P (state_of (acted ordered_by s block i x).tracks t))
    → ((i : ℕ) → i < s.order_count → (x : Mixer) → P (state_of x.tracks t) → P (state_of (acted resumed_by s block i x).tracks t)) → P (state_of m.tracks t)
    → P (state_of (mixer_ordered s block m).tracks t)
passes_hold P t s block m f g p =
    subst (λ (x : Mixer). P (state_of x.tracks t)) (sym (passes s block m))
    (upto_holds (λ i x. P (state_of x.tracks t)) (acted resumed_by s block) s.order_count (upto (acted ordered_by s block) s.order_count m)
    (upto_holds (λ i x. P (state_of x.tracks t)) (acted ordered_by s block) s.order_count m p f) g)

-- ---- a track whose volume is silent

module _ {quiet : ℕ → Bool} {s : Scene} {t : ℕ} (ok : SceneOk s) (silent : MutedTrack quiet s t) (block : ℕ) where
  short : (i : ℕ) → i < s.order_count → Short (tween_of (order_line s i))
  unfolding tween_of
  short i b = lt_of_le_of_lt (ok.orders i b).millis (lit< tt)

  silent_order : (i : ℕ) → i < s.order_count → (m : Mixer) → SilentVolume (state_of m.tracks t) → SilentVolume (state_of (acted ordered_by s block i m).tracks t)
  unfolding track_set track_pause
  silent_order i b m p =
      acted_holds (λ (x : Mixer). SilentVolume (state_of x.tracks t)) ordered_by s block i m p
      (λ c. ordered_holds SilentVolume t m p s (order_line s i).kind (order_line s i) (ok.orders i b).index
      (λ k e. set_in silent_range (state_of m.tracks t).volume (order_line s i).target (tween_of (order_line s i)) p (silent.orders i b k e) (short i b)) (λ k e. p))

  silent_resume : (i : ℕ) → i < s.order_count → (m : Mixer) → SilentVolume (state_of m.tracks t) → SilentVolume (state_of (acted resumed_by s block i m).tracks t)
  unfolding track_resume
  silent_resume i b m p =
      acted_holds (λ (x : Mixer). SilentVolume (state_of x.tracks t)) resumed_by s block i m p
      (λ c. resumed_holds SilentVolume t m p s (order_line s i).kind (order_line s i) (ok.orders i b).index (λ k e. p))

  pub silent_ordered : (m : Mixer) → SilentVolume (state_of m.tracks t) → SilentVolume (state_of (mixer_ordered s block m).tracks t)
  silent_ordered m p = passes_hold SilentVolume t s block m silent_order silent_resume p
