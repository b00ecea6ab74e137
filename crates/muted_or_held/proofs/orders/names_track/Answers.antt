-- `names_track` meets its contract. Assumes nothing.
use Rattle.muted_or_held.proofs.laws.Orders.{other_kind, names_none, names_this}
use Rattle.muted_or_held.proofs.orders.names_track.Goals as goal

pub returns-then-order_field-kind : goal.returns-then-order_field-kind
returns-then-order_field-kind c = other_kind _ _ _ _ _ c.order_field.ensures c.if-order_field-kind.true

pub returns-then-line-eq0 : goal.returns-then-line-eq0
returns-then-line-eq0 c = names_none _ _ _ _ _ c.order_field.ensures c.if-order_field-kind.false _ _ c.order_field-2.ensures c.natural_of-line.ensures c.if-line-eq0.true

pub returns : goal.returns
returns c = names_this _ _ _ _ _ c.order_field.ensures c.if-order_field-kind.false _ _ c.order_field-2.ensures c.natural_of-line.ensures c.if-line-eq0.false
