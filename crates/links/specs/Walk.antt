-- Links that lead to earlier lines, so that an owner's lines come to an end.
use Rattle.std.specs.Prelude.{ℕ, List, ◌+◌, ◌≤◌, ◌<◌, get_or}
use Rattle.links.specs.Links.{owners, lines}

pub record Earlier (links : List ℕ) : Type 0 where
  pub owned : (o : ℕ) → o < owners → get_or links o 0 ≤ lines
  pub linked : (k : ℕ) → k < lines → get_or links (owners + k) 0 ≤ k
