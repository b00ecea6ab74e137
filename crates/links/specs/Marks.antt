-- Marks: which owners are used. An owner has a mark, 1, at its number.
use Rattle.std.specs.Prelude.{Bool, cond, List, ℕ, suc, eqb, ltb, get_or, set}
use Rattle.laws.specs.Loop.{upto, downto}
use Rattle.links.specs.Links.{owners}

abbrev pub is_marked : List ℕ → ℕ → Bool
is_marked marks owner = eqb (get_or marks owner 0) 1

-- line k + 1 marks its owner
unfoldable pub owner_marked : (ℕ → ℕ) → ℕ → List ℕ → List ℕ
owner_marked owner k l = cond (ltb (owner k) owners) (set l (owner k) 1) l

-- the owners of the first n lines are marked
unfoldable pub owners_marked : (ℕ → ℕ) → ℕ → List ℕ → List ℕ
owners_marked owner n l = upto (owner_marked owner) n l

-- Where owners are lines themselves: line k + 1, if it is marked, marks its owner.
unfoldable pub above_marked : (ℕ → ℕ) → ℕ → List ℕ → List ℕ
above_marked owner k l = cond (is_marked l (suc k)) (set l (owner k) 1) l

-- each of the first n lines, from the last to the first
unfoldable pub all_above_marked : (ℕ → ℕ) → ℕ → List ℕ → List ℕ
all_above_marked owner n l = downto (above_marked owner) n l

-- the owner of line k + 1 if that line is used; else a number that is no owner
abbrev pub used_owner : (ℕ → Bool) → (ℕ → ℕ) → ℕ → ℕ
used_owner used owner k = cond (used (suc k)) (owner k) owners
