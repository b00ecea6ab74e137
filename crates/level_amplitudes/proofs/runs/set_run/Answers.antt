-- `set_run` meets its contract. Assumes nothing.
use borrow.Author.Rules.{rules}
use Rattle.level_amplitudes.specs.Amplitudes.{with_run}
use Rattle.level_amplitudes.proofs.laws.Amplitudes.{tried_set, tried_left}
use Rattle.level_amplitudes.proofs.runs.set_run.Goals as goal

pub returns-then-set_if_inside : goal.returns-then-set_if_inside
returns-then-set_if_inside c = tried_set c.args.before c.args.after c.args.parts.now c.args.first c.args.to c.args.factors.now c.set_if_inside.ensures c.if-set_if_inside.true

pub set_each-requires : goal.set_each-requires
set_each-requires c = record { gain_table = c.requires.gain_table; run_in_chunk = search rules; admitted = c.requires.admitted }

pub returns : goal.returns
returns c =
    tried_left c.args.before c.args.after c.args.parts.now c.args.first c.args.to c.args.factors.now (with_run c.args.before c.args.after c.args.parts.now c.args.first c.args.to)
    c.set_if_inside.ensures c.if-set_if_inside.false c.set_each.ensures
