-- A loop over the lines of a track's sounds: its invariant is `SoundsLeft` (`laws`, Sound).
use mathlib.Core.Path.{◌≡◌, refl, sym, ap, ◌∙◌, subst}
use Prim.Native.Nat.{ℕ}
use mathlib.Core.List.{List}
use Rattle.links.specs.declared.walk.LinesOf.{LinesOf}
use Rattle.links.specs.Links.{last_line, line_before}
use Rattle.frame.specs.Layout.{scratch}
use Rattle.frame.proofs.laws.Layout.{kept}
use Rattle.sound.specs.Part.{added_part}
use Rattle.track_sounds.proofs.laws.Sound.{SoundsLeft, sounds_begin, sounds_earlier, sounds_turn, sounds_end}
use Rattle.track_sounds.proofs.sounds.add_sounds.Goals as goal

pub lines_of-k-items-requires-clause-earlier : goal.lines_of-k-items-requires-clause-earlier
lines_of-k-items-requires-clause-earlier c = sounds_earlier c.args.chunk.now c.args.heard.now c.requires.chunk_ok c.args.line c.args.to.now c.requires.line_in_range c.requires.sound_links

pub loop-k-init : goal.loop-k-init
loop-k-init c =
    let begins = c.into_iter-k-iterator.ensures.into_iter_gives in
    let first : c.into_iter-k-iterator.result.line ≡ last_line c.args.links.now c.args.line = ap (λ (s : LinesOf). s.line) begins ∙ c.lines_of-k-items.ensures.1 in
    (refl, sounds_begin c.args.chunk.now c.args.heard.now c.requires.chunk_ok c.args.line c.args.to.now c.requires.line_in_range c.requires.sound_links first, ap (λ (s : LinesOf). s.links.now) begins ∙ c.lines_of-k-items.ensures.0)

pub loop-k-preserved : goal.loop-k-preserved
loop-k-preserved c =
    let chunk = c.args.chunk.now in
    let samples = c.args.heard.now in
    let to = c.args.to.now in
    let k = c.in-Some.k in
    let step = c.in-Some.ensures.steps in
    let next : c.next.new.self.line ≡ line_before c.args.links.now k = step.2 ∙ ap (λ (l : List ℕ). line_before l k) c.loop-k.invariant.2 in
    let left = subst (SoundsLeft chunk samples c.args.line to c.loop-k.to) (sym step.1) c.loop-k.invariant.1 in
    let made = c.add_sound.ensures in (
      kept (scratch 0 chunk.frames) (added_part c.part_of-part.result.now) chunk.frames c.loop-k.to made ∙ c.loop-k.invariant.0,
      sounds_turn chunk samples c.requires.chunk_ok c.args.line to c.requires.line_in_range c.requires.sound_links k c.loop-k.to next step.0 left c.part_of-part.ensures made,
      step.3 ∙ c.loop-k.invariant.2,
    )

pub returns : goal.returns
returns c = sounds_end c.args.chunk.now c.args.heard.now c.requires.chunk_ok c.args.line c.args.to.now c.requires.line_in_range c.requires.sound_links c.requires.room_for_frames c.in-None.ensures.steps.0 c.loop-k.invariant.1
