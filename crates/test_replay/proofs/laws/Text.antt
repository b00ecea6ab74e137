-- One turn of the loop over a column. Assumes nothing.
use mathlib.Core.Path.{◌≡◌, sym, ap, ◌∙◌}
use mathlib.Core.List.{List, ◌∷◌}
use Prim.Native.Nat.{ℕ, ◌+◌, ◌*◌, ◌^◌, ◌≤◌, ◌<◌}
use native.Mathlib.Numerals.{add-one}
use lib.ListN.{length, get_or, drop, drop_of_length-le}
use lib.Seq.{drop-cons}
use Rattle.std.specs.Prelude.{Option, Some, None, option_and_then, nat_le, if◌then◌else◌}
use Rattle.test_replay.specs.Text.{digit_of, hex_from}

-- what is left at i is the byte there and what is left after it
left : (l : List ℕ) (i : ℕ) → i < length l → drop i l ≡ get_or l i 0 ∷ drop (i + 1) l
left l i h = drop-cons l i 0 h ∙ ap (λ (k : ℕ). get_or l i 0 ∷ drop k l) (sym (add-one i))

pub hex_ends : (n : ℕ) (l : List ℕ) (i : ℕ) → length l ≤ i → hex_from n (drop i l) ≡ Some n
unfolding hex_from
hex_ends n l i h = ap (hex_from n) (drop_of_length-le l h)

-- what one byte does, with what is left after it
abbrev pub on_digit : ℕ → List ℕ → ℕ → ℕ → Option ℕ
on_digit n l i d = if nat_le (2 ^ 60) n then None else hex_from (n * 16 + d) (drop (i + 1) l)

pub hex_step : (n : ℕ) (l : List ℕ) (i : ℕ) → i < length l → hex_from n (drop i l) ≡ option_and_then (on_digit n l i) (digit_of (get_or l i 0))
unfolding hex_from
hex_step n l i h = ap (hex_from n) (left l i h)
