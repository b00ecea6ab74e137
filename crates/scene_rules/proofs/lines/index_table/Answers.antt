-- `index_table` meets its contract. Assumes nothing.
use borrow.Author.Tests.{eq-eqb, ne_eqb}
use Rattle.scene_questions.specs.Questions.{index_table}
use Rattle.scene_rules.proofs.lines.index_table.Goals as goal

pub returns-then-kind-eq-KIND_SEND_VOLUME : goal.returns-then-kind-eq-KIND_SEND_VOLUME
unfolding index_table
returns-then-kind-eq-KIND_SEND_VOLUME c = rw (eq-eqb _ _ c.if-kind-eq-KIND_SEND_VOLUME.true)

pub returns-then-kind-eq-KIND_ROUTE_VOLUME : goal.returns-then-kind-eq-KIND_ROUTE_VOLUME
unfolding index_table
returns-then-kind-eq-KIND_ROUTE_VOLUME c = rw (ne_eqb _ _ c.if-kind-eq-KIND_SEND_VOLUME.false, eq-eqb _ _ c.if-kind-eq-KIND_ROUTE_VOLUME.true)

pub returns : goal.returns
unfolding index_table
returns c = rw (ne_eqb _ _ c.if-kind-eq-KIND_SEND_VOLUME.false, ne_eqb _ _ c.if-kind-eq-KIND_ROUTE_VOLUME.false)
