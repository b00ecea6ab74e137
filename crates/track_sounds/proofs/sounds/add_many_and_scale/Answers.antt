-- A loop that follows the links of a track's sounds up to the last two, which are left for the pass with the scaling: its invariant is `SoundsLeft`
-- (`laws`, Sound), and that the next two lines are known.
use mathlib.Core.Path.{refl, ap, ◌∙◌}
use Prim.Native.Nat.{◌<◌}
use native.Mathlib.Omega.{arith}
use Rattle.frame.specs.Layout.{scratch, with_frames}
use Rattle.frame.proofs.laws.Layout.{kept}
use Rattle.sound.specs.Part.{added_part}
use Rattle.track_volume.specs.TrackVolume.{track_placed_scaled}
use Rattle.track_sounds.proofs.laws.Owners.{two_there}
use Rattle.track_sounds.proofs.laws.Sound.{sounds_begin, sounds_less, sounds_turn, sounds_end}
use Rattle.track_sounds.proofs.sounds.add_many_and_scale.Goals as goal

pub line_before-after-requires : goal.line_before-after-requires
line_before-after-requires c =
    let chunk = c.args.chunk.now in
    let heard = c.args.heard.now in
    let to = c.args.to.now in
    let ok = c.requires.chunk_ok in
    let begun = sounds_begin chunk heard ok c.args.line to c.requires.line_in_range c.requires.sound_links c.last_line-k.ensures in
    let there : 0 < c.last_line-k.result = omega (arith, c.last_line-k.ensures, c.requires.two_lines_or_more.0) in
    let below = sounds_less chunk heard ok c.args.line to c.requires.line_in_range c.requires.sound_links c.last_line-k.result to c.line_before-next.ensures there begun in
    (two_there c.args.links.now c.args.line c.last_line-k.ensures c.line_before-next.ensures c.requires.two_lines_or_more.1, omega (arith, below, begun.few, c.requires.chunk_ok.sounds))

pub loop-after-init : goal.loop-after-init
loop-after-init c =
    let chunk = c.args.chunk.now in
    let heard = c.args.heard.now in
    let to = c.args.to.now in
    let ok = c.requires.chunk_ok in
    let there : 0 < c.last_line-k.result = omega (arith, c.last_line-k.ensures, c.requires.two_lines_or_more.0) in
    (refl, sounds_begin chunk heard ok c.args.line to c.requires.line_in_range c.requires.sound_links c.last_line-k.ensures, there, c.line_before-next.ensures, two_there c.args.links.now c.args.line c.last_line-k.ensures c.line_before-next.ensures c.requires.two_lines_or_more.1, c.line_before-after.ensures)

pub line_before-after-requires-in-loop-after : goal.line_before-after-requires-in-loop-after
line_before-after-requires-in-loop-after c =
    let chunk = c.args.chunk.now in
    let heard = c.args.heard.now in
    let to = c.args.to.now in
    let ok = c.requires.chunk_ok in
    let below = sounds_less chunk heard ok c.args.line to c.requires.line_in_range c.requires.sound_links c.loop-after.k c.loop-after.to c.loop-after.invariant.3 c.loop-after.invariant.2 c.loop-after.invariant.1 in
    let made = c.add_sound.ensures in
    let next = sounds_turn chunk heard ok c.args.line to c.requires.line_in_range c.requires.sound_links c.loop-after.k c.loop-after.to c.loop-after.invariant.3 c.loop-after.invariant.2 c.loop-after.invariant.1 c.part_of-part.ensures made in
    let after = sounds_less chunk heard ok c.args.line to c.requires.line_in_range c.requires.sound_links c.loop-after.next _ c.loop-after.invariant.5 c.loop-after.invariant.4 next in
    (c.loop-after-test.true, omega (arith, after, next.few, c.requires.chunk_ok.sounds))

pub loop-after-smaller : goal.loop-after-smaller
loop-after-smaller c =
    let chunk = c.args.chunk.now in
    let heard = c.args.heard.now in
    let to = c.args.to.now in
    let ok = c.requires.chunk_ok in
    sounds_less chunk heard ok c.args.line to c.requires.line_in_range c.requires.sound_links c.loop-after.k c.loop-after.to c.loop-after.invariant.3 c.loop-after.invariant.2 c.loop-after.invariant.1

pub loop-after-preserved : goal.loop-after-preserved
loop-after-preserved c =
    let chunk = c.args.chunk.now in
    let heard = c.args.heard.now in
    let to = c.args.to.now in
    let ok = c.requires.chunk_ok in
    let made = c.add_sound.ensures in (
      kept (scratch 0 chunk.frames) (added_part c.part_of-part.result.now) chunk.frames c.loop-after.to made ∙ c.loop-after.invariant.0,
      sounds_turn chunk heard ok c.args.line to c.requires.line_in_range c.requires.sound_links c.loop-after.k c.loop-after.to c.loop-after.invariant.3 c.loop-after.invariant.2 c.loop-after.invariant.1 c.part_of-part.ensures made,
      c.loop-after.invariant.4,
      c.loop-after.invariant.5,
      c.loop-after-test.true,
      c.line_before-after-in-loop-after.ensures,
    )

pub part_of-second-requires : goal.part_of-second-requires
part_of-second-requires c =
    let chunk = c.args.chunk.now in
    let heard = c.args.heard.now in
    let to = c.args.to.now in
    let ok = c.requires.chunk_ok in
    let below = sounds_less chunk heard ok c.args.line to c.requires.line_in_range c.requires.sound_links c.loop-after.k c.loop-after.to c.loop-after.invariant.3 c.loop-after.invariant.2 c.loop-after.invariant.1 in
    record { chunk_ok = ok; line_of_a_sound = (c.loop-after.invariant.4, omega (arith, below, c.loop-after.invariant.1.few)) }

pub returns : goal.returns
returns c =
    let chunk = c.args.chunk.now in
    let heard = c.args.heard.now in
    let to = c.args.to.now in
    let ok = c.requires.chunk_ok in
    let L = scratch 0 chunk.frames in
    let one = sounds_turn chunk heard ok c.args.line to c.requires.line_in_range c.requires.sound_links c.loop-after.k c.loop-after.to c.loop-after.invariant.3 c.loop-after.invariant.2 c.loop-after.invariant.1 c.part_of-first.ensures refl in
    let two = sounds_turn chunk heard ok c.args.line to c.requires.line_in_range c.requires.sound_links c.loop-after.next (with_frames L (added_part c.part_of-first.result.now) c.loop-after.to) c.loop-after.invariant.5 c.loop-after.invariant.4 one c.part_of-second.ensures refl in
    c.add_last_sounds.ensures
    ∙ ap (with_frames L (track_placed_scaled c.args.track chunk.frames)) (sounds_end chunk heard ok c.args.line to c.requires.line_in_range c.requires.sound_links c.requires.room_for_frames (omega (arith, c.loop-after-test.false)) two)
