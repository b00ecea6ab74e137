use Rattle.std.proofs.Common.{◌≡◌, ℕ}
use Rattle.links.specs.Links.{OwnerIs}
use Rattle.links.specs.Marks.{all_above_marked}
use Rattle.links.proofs.marks.mark_above.Given as goal

-- what is left to do gives what the whole does
abbrev pub invariant-loop-k : goal.invariant-loop-k
invariant-loop-k g l = (f : ℕ → ℕ) → OwnerIs l.count (goal.F-post g l.owner_of) f → all_above_marked f l.k l.marks ≡ all_above_marked f l.count l.initial.marks
