-- How many of the first n numbers a test picks, as a loop counts them: `i = 0; while i < n { count += if p(i) { 1 } else { 0 }; i += 1 }`.
--
use Rattle.std.specs.Prelude.{Bool, cond, ℕ, zero, suc, ◌+◌}

-- what one turn counts
abbrev pub if_picked : Bool → ℕ
if_picked b = cond b 1 0

unfoldable pub counted : (ℕ → Bool) → ℕ → ℕ
counted p zero = 0
counted p (suc n) = counted p n + if_picked (p n)
