-- `set_if_inside` meets its contract: where the segment holds both ends it holds all between. Assumes nothing.
use mathlib.Core.Path.{refl, sym, ◌∙◌, subst}
use Prim.Native.Nat.{◌-◌}
use native.Mathlib.Omega.{arith}
use lib.Dec.{T}
use lib.Ieee.{Float}
use borrow.Author.Rules.{rules}
use Rattle.decibels.specs.Decibels.{admitted}
use Rattle.level_amplitudes.specs.Amplitudes.{value_at}
use Rattle.level_amplitudes.proofs.laws.Amplitudes.{picked_segment, ends_held}
use Rattle.level_amplitudes.proofs.runs.set_if_inside.Goals as goal

pub segment_of-segment-requires : goal.segment_of-segment-requires
unfolding value_at
segment_of-segment-requires c = record { gain_table = c.requires.gain_table; admitted = subst (λ (v : Float). T (admitted v)) (sym c.value_by-start.ensures) (c.requires.admitted c.args.first c.requires.nonempty_run_in_chunk.0) }

pub set_inside-requires : goal.set_inside-requires
unfolding value_at
set_inside-requires c =
    let value = c.value_by-start.ensures in
    let is = picked_segment c.args.before c.args.after c.args.parts.now c.args.first value (c.requires.admitted c.args.first c.requires.nonempty_run_in_chunk.0) c.segment_of-segment.ensures in
    let held = ends_held c.args.before c.args.after c.args.parts.now c.segment_of-segment.result is c.requires.monotone c.args.first (c.args.to - 1) (omega (arith, c.requires.nonempty_run_in_chunk.0)) value
    c.value_by-end.ensures (sym c.holds_both.ensures ∙ c.if-holds_both.true) in
    record { run_in_chunk = search rules; segment_of_the_table = is; values_in_segment = λ i h k. held i h (omega (arith, k)) }

pub returns-then-holds_both : goal.returns-then-holds_both
returns-then-holds_both c = c.set_inside.ensures

pub returns : goal.returns
returns c = refl
