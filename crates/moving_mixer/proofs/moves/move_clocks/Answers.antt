use Rattle.std.proofs.Common.{List, sym, ap, subst, get_or, ◌∙◌}
use Rattle.laws.proofs.laws.Loop.{changed_here}
use Rattle.clock.specs.declared.clock.Clock.{Clock}
use Rattle.clock.specs.Clock.{updated, CanMove}
use Rattle.clock.specs.WhenToStart.{absent_clock}
use Rattle.moving_mixer.proofs.moves.move_clocks.Goals as goal

pub update-requires : goal.update-requires
update-requires c =
    subst (λ (x : Clock). CanMove x c.args.dt)
    (sym (ap (λ (l : List Clock). get_or l c.loop-i.i absent_clock) c.loop-i.invariant ∙ changed_here (λ i x. updated x c.args.dt) c.loop-i.i c.args.list.now absent_clock))
    (c.requires.can_move c.loop-i.i c.loop-i-test.true)
