-- `is_holding` meets its contract. Assumes nothing.
use Rattle.muted_or_held.proofs.laws.Held.{no_pause, later_block, has_clock, waits, by_millis}
use Rattle.muted_or_held.proofs.held.is_holding.Goals as goal

pub returns-then-not-names_track : goal.returns-then-not-names_track
returns-then-not-names_track c = no_pause _ _ _ _ c.names_track.ensures c.if-not-names_track.true-raw

pub returns-then-order_field : goal.returns-then-order_field
returns-then-order_field c = later_block _ _ _ _ c.names_track.ensures c.if-not-names_track.false-raw _ c.order_field.ensures c.if-order_field.true

pub returns-then-order_field-2 : goal.returns-then-order_field-2
returns-then-order_field-2 c = has_clock _ _ _ _ c.names_track.ensures c.if-not-names_track.false-raw _ c.order_field.ensures c.if-order_field.false _ c.order_field-2.ensures c.if-order_field-2.true

pub returns-then-order_field-3 : goal.returns-then-order_field-3
returns-then-order_field-3 c = waits _ _ _ _ c.names_track.ensures c.if-not-names_track.false-raw _ c.order_field.ensures c.if-order_field.false _ c.order_field-2.ensures c.if-order_field-2.false _ c.order_field-3.ensures c.if-order_field-3.true

pub returns : goal.returns
returns c = by_millis _ _ _ _ c.names_track.ensures c.if-not-names_track.false-raw _ c.order_field.ensures c.if-order_field.false _ c.order_field-2.ensures c.if-order_field-2.false _ c.order_field-3.ensures c.if-order_field-3.false _ c.order_field-4.ensures
