-- `alike` says yes of each stored pair that is alike, and no of each control pair; made by tools/alike_pairs.py. A pair has a declaration of its own, since
-- what one declaration may compute is limited.
use Rattle.std.specs.Prelude.{Bool, List, [], ◌∷◌, T}
use Rattle.test_alike_pairs.specs.Side.{Pair}

-- every pair of a list
abbrev pub Each : (Pair → Bool) → List Pair → Type 0
Each f [] = Unit {0}
Each f (p ∷ l) = T (f p) × Each f l
