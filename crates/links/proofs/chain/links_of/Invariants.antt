use Rattle.std.proofs.Common.{◌≡◌, ℕ}
use Rattle.links.specs.Links.{links_of, OwnerIs}
use Rattle.links.proofs.chain.links_of.Given as goal

abbrev pub invariant-loop-k : goal.invariant-loop-k
invariant-loop-k g l = (f : ℕ → ℕ) → OwnerIs l.count (goal.F-post g l.owner_of) f → l.links ≡ links_of f l.k
