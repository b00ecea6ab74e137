use Rattle.std.proofs.Common.{◌≡◌, ℕ}
use Rattle.links.specs.Links.{OwnerIs}
use Rattle.links.specs.Marks.{owners_marked}
use Rattle.links.proofs.marks.mark_owners.Given as goal

abbrev pub invariant-loop-k : goal.invariant-loop-k
invariant-loop-k g l = (f : ℕ → ℕ) → OwnerIs l.count (goal.F-post g l.owner_of) f → l.marks ≡ owners_marked f l.k l.initial.marks
