-- Two steps at each frame: that comes to one step on all frames, and then the other.
use mathlib.Core.Path.{sym, ◌∙◌}
use native.Mathlib.Nat.{le_refl}
use native.Mathlib.Omega.{arith}
use borrow.Author.Rules.{rules}
use Rattle.frame.specs.Frame.{scaled_by}
use Rattle.frame.specs.Layout.{scratch}
use Rattle.frame.proofs.laws.Places.{scratch_apart}
use Rattle.frame.proofs.laws.Layout.{first_twice}
use Rattle.track_volume.proofs.volume.scale_twice.Goals as goal

pub returns : goal.returns
unfolding scaled_by
returns c =
    let L = scratch 0 c.args.frames in
    c.each_frame.ensures (λ k a. scaled_by c.args.then k (scaled_by c.args.first k a)) (λ i a b p m. search rules)
    ∙ sym (first_twice L (scratch_apart 0 c.args.frames) (scaled_by c.args.first) (scaled_by c.args.then) c.args.frames c.args.out.now (le_refl c.args.frames) (omega (arith, c.requires)))
