-- Text as the programs print it: decimal numbers, and a refusal.
use Rattle.std.specs.Prelude.{cond, List, [], ◌∷◌, ◌++◌, ℕ, zero, suc, ◌+◌, ◌/◌, ◌%◌, ltb}
use Rattle.scene_tables.specs.Bytes.{bytes_of}

-- a number's decimal digits, `steps` and one more at most, without a leading zero
unfoldable pub decimal_within : ℕ → ℕ → List ℕ
decimal_within zero n = (48 + n % 10) ∷ []
decimal_within (suc steps) n = cond (ltb n 10) ((48 + n) ∷ []) (decimal_within steps (n / 10) ++ ((48 + n % 10) ∷ []))

-- a number below 2^32 has at most ten digits, one below 2^64 at most twenty
abbrev pub steps32 : ℕ
steps32 = 9

abbrev pub steps64 : ℕ
steps64 = 19

-- of a number below 2^32
unfoldable pub decimal : ℕ → List ℕ
decimal n = decimal_within steps32 n

unfoldable pub printed_refusal : ℕ → List ℕ
printed_refusal number = bytes_of "refused\n" ++ (decimal number ++ (10 ∷ []))

-- how many bytes it has at most: its first line, and a number with its line feed
abbrev pub refusal_bytes : ℕ
refusal_bytes = 8 + (steps32 + 2)
