-- `kind_of` meets its contract. Assumes nothing.
use Rattle.std.proofs.Common.{eq-eqb, ne_eqb}
use Rattle.scene.specs.Scene.{kind_of}
use Rattle.scene.proofs.scene.kind_of.Goals as goal

pub returns-then-z-eq-KIND_MAIN_VOLUME : goal.returns-then-z-eq-KIND_MAIN_VOLUME
unfolding kind_of
returns-then-z-eq-KIND_MAIN_VOLUME c = rw (eq-eqb _ _ c.if-z-eq-KIND_MAIN_VOLUME.true)

pub returns-then-z-eq-KIND_TRACK_VOLUME : goal.returns-then-z-eq-KIND_TRACK_VOLUME
unfolding kind_of
returns-then-z-eq-KIND_TRACK_VOLUME c = rw (ne_eqb _ _ c.if-z-eq-KIND_MAIN_VOLUME.false, eq-eqb _ _ c.if-z-eq-KIND_TRACK_VOLUME.true)

pub returns-then-z-eq-KIND_SEND_VOLUME : goal.returns-then-z-eq-KIND_SEND_VOLUME
unfolding kind_of
returns-then-z-eq-KIND_SEND_VOLUME c = rw (ne_eqb _ _ c.if-z-eq-KIND_MAIN_VOLUME.false, ne_eqb _ _ c.if-z-eq-KIND_TRACK_VOLUME.false, eq-eqb _ _ c.if-z-eq-KIND_SEND_VOLUME.true)

pub returns-then-z-eq-KIND_ROUTE_VOLUME : goal.returns-then-z-eq-KIND_ROUTE_VOLUME
unfolding kind_of
returns-then-z-eq-KIND_ROUTE_VOLUME c = rw (ne_eqb _ _ c.if-z-eq-KIND_MAIN_VOLUME.false, ne_eqb _ _ c.if-z-eq-KIND_TRACK_VOLUME.false, ne_eqb _ _ c.if-z-eq-KIND_SEND_VOLUME.false, eq-eqb _ _ c.if-z-eq-KIND_ROUTE_VOLUME.true)

pub returns-then-z-eq-KIND_PAUSE : goal.returns-then-z-eq-KIND_PAUSE
unfolding kind_of
returns-then-z-eq-KIND_PAUSE c = rw (ne_eqb _ _ c.if-z-eq-KIND_MAIN_VOLUME.false, ne_eqb _ _ c.if-z-eq-KIND_TRACK_VOLUME.false, ne_eqb _ _ c.if-z-eq-KIND_SEND_VOLUME.false, ne_eqb _ _ c.if-z-eq-KIND_ROUTE_VOLUME.false, eq-eqb _ _ c.if-z-eq-KIND_PAUSE.true)

pub returns : goal.returns
unfolding kind_of
returns c = rw (ne_eqb _ _ c.if-z-eq-KIND_MAIN_VOLUME.false, ne_eqb _ _ c.if-z-eq-KIND_TRACK_VOLUME.false, ne_eqb _ _ c.if-z-eq-KIND_SEND_VOLUME.false, ne_eqb _ _ c.if-z-eq-KIND_ROUTE_VOLUME.false, ne_eqb _ _ c.if-z-eq-KIND_PAUSE.false)
