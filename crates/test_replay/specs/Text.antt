-- The lines of a text and the numbers in its columns.
use Rattle.std.specs.Prelude.{Bool, true, if◌then◌else◌, not, List, [], ◌∷◌, ℕ, ◌+◌, ◌-◌, ◌*◌, ◌^◌, ◌==◌, nat_lt, nat_le, take, drop, length, position, unwrap_or, Option, Some, None, option_and_then}

-- how many bytes stand before the first line feed
abbrev pub line_length : List ℕ → ℕ
line_length l = unwrap_or (position (λ b. b == 10) l) (length l)

-- a line that starts with '#' is a comment
abbrev pub is_row : List ℕ → Bool
is_row [] = true
is_row (b ∷ bs) = not (b == 35)

-- '0' to '9' and 'a' to 'f'
abbrev pub digit_of : ℕ → Option ℕ
digit_of b = if nat_lt b 48 then None else if nat_le b 57 then Some (b - 48) else if nat_lt b 97 then None else if nat_le b 102 then Some (b - 97 + 10) else None

-- the digits read so far are n; each byte is a digit, and the number stays below 2^64
unfoldable pub hex_from : ℕ → List ℕ → Option ℕ
hex_from n [] = Some n
hex_from n (b ∷ bs) = option_and_then (λ d. if nat_le (2 ^ 60) n then None else hex_from (n * 16 + d) bs) (digit_of b)

abbrev pub hex_of : List ℕ → Option ℕ
hex_of l = hex_from 0 l

-- the column of n digits that starts at a place of a row
abbrev pub hex_at : List ℕ → ℕ → ℕ → Option ℕ
hex_at l at n = hex_of (take n (drop at l))

-- of a column's number only one below 2^32
abbrev pub below32 : Option ℕ → Option ℕ
below32 o = option_and_then (λ n. if nat_lt n (2 ^ 32) then Some n else None) o
