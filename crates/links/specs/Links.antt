-- Lines by their owner. Lines are counted from 1, and 0 is none.
use Rattle.std.specs.Prelude.{◌≡◌, cond, List, ℕ, suc, ◌+◌, ◌-◌, ◌<◌, ltb, get_or, set, replicate}
use Rattle.limits.specs.Limits.{track_places, sound_lines}
use Rattle.laws.specs.Loop.{upto}

-- owners are 0, the mixer, and the lines of tracks from 1 on
abbrev pub owners : ℕ
owners = track_places + 1

-- the longest column is that of the sounds
abbrev pub lines : ℕ
lines = sound_lines

-- line k + 1 is linked: to its owner's last line so far, whose place it takes
unfoldable pub linked : (ℕ → ℕ) → ℕ → List ℕ → List ℕ
linked owner k l = cond (ltb (owner k) owners) (set (set l (owners + k) (get_or l (owner k) 0)) (owner k) (suc k)) l

-- One array: of each owner the last of the n lines, and behind those, of each line the one before it with the same owner.
unfoldable pub links_of : (ℕ → ℕ) → ℕ → List ℕ
links_of owner n = upto (linked owner) n (replicate (owners + lines) 0)

-- what a call may make of line k + 1, one of the first n, is its owner by f
abbrev pub OwnerIs : (n : ℕ) → (ℕ → ℕ → Type 0) → (ℕ → ℕ) → Type 0
OwnerIs n made f = (k o : ℕ) → k < n → made k o → o ≡ f k

-- the two answers
abbrev pub last_line : List ℕ → ℕ → ℕ
last_line links owner = get_or links owner 0

abbrev pub line_before : List ℕ → ℕ → ℕ
line_before links line = get_or links (owners + (line - 1)) 0
