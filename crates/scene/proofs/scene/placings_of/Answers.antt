-- `placings_of` meets its contract: the tracks of the lines read so far are placed. Assumes nothing.
use Rattle.std.proofs.Common.{arith, lit<}
use Rattle.scene_tables.specs.Tables.{placings}
use Rattle.scene.proofs.laws.Placings.{placings_none, placings_next, placings_done, listeners_in, line_in_lem, track_in}
use Rattle.scene.proofs.scene.placings_of.Goals as goal

pub loop-i-init : goal.loop-i-init
loop-i-init c = placings_none c.args.starts.now c.args.counts.now c.args.values.now

pub overflow_mul-a : goal.overflow_mul-a
overflow_mul-a c = omega (arith, c.requires.tables_in_range placings (lit< tt))

pub overflow_add-a : goal.overflow_add-a
overflow_add-a c = omega (arith, c.requires.tables_in_range placings (lit< tt))

pub placing_of-placing-requires : goal.placing_of-placing-requires
placing_of-placing-requires c = record { listeners_ok = listeners_in c.args.starts.now c.args.counts.now c.args.values.now c.requires.placings_ok; placing_ok = line_in_lem c.args.starts.now c.args.counts.now c.args.values.now c.loop-i.i (omega (arith, c.loop-i-test.true)) c.requires.placings_ok }

pub overflow_sub-out : goal.overflow_sub-out
overflow_sub-out c = omega (arith, track_in c.args.starts.now c.args.counts.now c.args.values.now c.loop-i.i (omega (arith, c.loop-i-test.true)) _ _ c.at.ensures c.natural_of-track.ensures c.requires.placings_ok)

pub offset_bounds-out-track : goal.offset_bounds-out-track
offset_bounds-out-track c = omega (arith, track_in c.args.starts.now c.args.counts.now c.args.values.now c.loop-i.i (omega (arith, c.loop-i-test.true)) _ _ c.at.ensures c.natural_of-track.ensures c.requires.placings_ok)

pub bounds-out-track : goal.bounds-out-track
bounds-out-track c = omega (arith, track_in c.args.starts.now c.args.counts.now c.args.values.now c.loop-i.i (omega (arith, c.loop-i-test.true)) _ _ c.at.ensures c.natural_of-track.ensures c.requires.placings_ok)

pub loop-i-preserved : goal.loop-i-preserved
loop-i-preserved c = placings_next c.args.starts.now c.args.counts.now c.args.values.now c.loop-i.i (omega (arith, c.loop-i-test.true)) _ _ c.at.ensures c.natural_of-track.ensures _ _ c.placing_of-placing.ensures c.loop-i.invariant

pub returns : goal.returns
returns c = placings_done c.args.starts.now c.args.counts.now c.args.values.now _ _ (omega (arith, c.loop-i-test.false)) c.loop-i.auto.i-end c.loop-i.invariant
