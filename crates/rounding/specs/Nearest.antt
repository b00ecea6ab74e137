-- The nearest whole number to a fraction, at a tie the even one.
use Rattle.std.specs.Prelude.{ℕ, zero, suc, ◌+◌, ◌*◌, ◌/◌, ◌%◌}
use Rattle.std.specs.Float.Ieee.Nearest.{closest}

-- n / d
unfoldable pub nearest_quotient : ℕ → ℕ → ℕ
nearest_quotient n d = closest n d

-- n / u, cut to a whole number, and below it one binary digit more: 1 where anything was cut off (the sticky digit).
abbrev pub sticky : ℕ → ℕ
sticky zero = 0
sticky (suc r) = 1

abbrev pub sticky_quotient : ℕ → ℕ → ℕ
sticky_quotient n u = 2 * (n / u) + sticky (n % u)
