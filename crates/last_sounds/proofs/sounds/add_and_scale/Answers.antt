-- Three steps at each frame of a sum: they come to one step on all frames, then the next (`laws`, Sounds).
use borrow.Author.Rules.{rules}
use Rattle.frame.specs.Frame.{scaled_by}
use Rattle.last_sounds.proofs.laws.Sounds.{both_played, both_then}
use Rattle.last_sounds.proofs.sounds.add_and_scale.Goals as goal

pub returns : goal.returns
unfolding scaled_by
returns c =
    both_then c.args.first.now c.args.second.now c.args.frames c.args.out.now (scaled_by c.args.factor) c.requires.frames_in_both.0 c.requires.frames_in_both.1 c.requires.room_for_frames
    (c.each_frame.ensures (λ k a. scaled_by c.args.factor k (both_played c.args.first.now c.args.second.now k a)) (λ i a b p m. search rules))
