-- `order_is_silent` meets its contract. Assumes nothing.
use Rattle.muted_or_held.proofs.muted.order_is_silent.Goals as goal

pub returns-then-names_track : goal.returns-then-names_track
returns-then-names_track c = rw (← c.names_track.ensures, c.if-names_track.true, ← c.order_field.ensures) c.is_silent.ensures

pub returns : goal.returns
returns c = rw (← c.names_track.ensures, c.if-names_track.false)
