-- What reading a scene's orders asks: what they name is there.
use Rattle.std.specs.Prelude.{◌≡◌, ℕ, ◌≤◌, ◌<◌}
use Rattle.limits.specs.Limits.{track_places, send_lines, route_lines, order_lines, blocks_most}
use Rattle.scene.specs.declared.scene.Scene.{Scene}
use Rattle.scene.specs.declared.scene.OrderLine.{OrderLine}
use Rattle.scene.specs.declared.scene.OrderKind.{OrderKind}
use Rattle.scene.specs.declared.scene.OrderKind.TheVariants.{MainVolume, TrackVolume, SendVolume, RouteVolume, Pause, Resume}
use Rattle.accepted.specs.Lines.{order_line}
use Rattle.accepted.specs.SceneOk.{Names}

abbrev pub IndexThere : OrderKind → ℕ → Type 0
IndexThere MainVolume index = index ≡ 0
IndexThere TrackVolume index = Names track_places index
IndexThere SendVolume index = Names send_lines index
IndexThere RouteVolume index = Names route_lines index
IndexThere Pause index = Names track_places index
IndexThere Resume index = Names track_places index

pub record OrderThere (o : OrderLine) : Type 0 where
  pub index : IndexThere o.kind o.index
  pub millis : o.millis ≤ 3600000

pub record OrdersThere (s : Scene) : Type 0 where
  pub few : s.order_count ≤ order_lines
  pub there : (i : ℕ) → i < s.order_count → OrderThere (order_line s i)
  pub blocks : (i : ℕ) → i < s.order_count → (order_line s i).block < blocks_most
