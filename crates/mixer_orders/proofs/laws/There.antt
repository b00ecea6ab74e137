-- What an order names has a mark. Assumes nothing.
use Prim.Native.Nat.{ℕ, ◌<◌}
use native.Mathlib.Omega.{arith}
use Rattle.scene.specs.declared.scene.OrderLine.{OrderLine}
use Rattle.scene.specs.declared.scene.OrderKind.{OrderKind}
use Rattle.scene.specs.declared.scene.OrderKind.TheVariants.{MainVolume, TrackVolume, SendVolume, RouteVolume, Pause, Resume}
use Rattle.order_lines.specs.Orders.{keys}
use Rattle.mixer_orders.specs.There.{IndexThere, OrderThere}

index_fits : (k : OrderKind) (index : ℕ) → IndexThere k index → index < keys
index_fits MainVolume index h = omega (arith, h)
index_fits TrackVolume index h = omega (arith, h.1)
index_fits SendVolume index h = omega (arith, h.1)
index_fits RouteVolume index h = omega (arith, h.1)
index_fits Pause index h = omega (arith, h.1)
index_fits Resume index h = omega (arith, h.1)

-- an index has a mark
pub line_fits : (o : OrderLine) → OrderThere o → o.index < keys
line_fits o h = index_fits o.kind o.index h.index
