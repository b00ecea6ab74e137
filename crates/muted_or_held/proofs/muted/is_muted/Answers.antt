-- `is_muted` meets its contract. Assumes nothing.
use Rattle.muted_or_held.proofs.laws.Muted.{volume_sounds, order_sounds, muted_by_routes}
use Rattle.muted_or_held.proofs.muted.is_muted.Goals as goal

pub returns-then-not-is_silent : goal.returns-then-not-is_silent
returns-then-not-is_silent c = volume_sounds _ _ _ _ c.volume_of.ensures c.is_silent.ensures c.if-not-is_silent.true-raw

pub returns-then-not-orders_are_silent : goal.returns-then-not-orders_are_silent
returns-then-not-orders_are_silent c = order_sounds _ _ _ _ c.volume_of.ensures c.is_silent.ensures c.if-not-is_silent.false-raw _ c.orders_are_silent.ensures c.if-not-orders_are_silent.true-raw

pub returns : goal.returns
returns c = muted_by_routes _ _ _ _ c.volume_of.ensures c.is_silent.ensures c.if-not-is_silent.false-raw _ c.orders_are_silent.ensures c.if-not-orders_are_silent.false-raw _ c.none_is_below.ensures
