-- The gain table, 1,345 entries: entry n, from 0 to 1344, stands for k = n - 960 sixteenths of a decibel and is the whole part of 2^40 * 10^(k / 320).
-- Everything is said with whole numbers: r is at most 2^40 * 10^(k / 320) where r^320 is at most 2^12800 * 10^k.
use Rattle.std.specs.Prelude.{◌≡◌, Bool, cond, not, List, ℕ, zero, suc, ◌+◌, ◌-◌, ◌*◌, ◌^◌, ◌<◌, T, leb, length, get_or}

abbrev pub entries : ℕ
entries = 1345

-- whether r is at most 2^40 * 10^((n - 960) / 320); of the two powers of ten one is 1
unfoldable pub at_most : ℕ → ℕ → Bool
at_most n r = leb (r ^ 320 * 10 ^ (960 - n)) (2 ^ 12800 * 10 ^ (n - 960))

-- the rule: r is entry n
pub record IsEntry (n r : ℕ) : Type 0 where
  pub not_above : T (at_most n r)
  pub largest : T (not (at_most n (suc r)))

-- entry n, found binary digit by digit: r has all but its b lowest digits
unfoldable pub digits : ℕ → ℕ → ℕ → ℕ
digits n zero r = r
digits n (suc b) r = digits n b (cond (at_most n (r + 2 ^ b)) (r + 2 ^ b) r)

unfoldable pub entry : ℕ → ℕ
entry n = digits n 44 0

-- a list is the gain table
pub record IsGainTable (l : List ℕ) : Type 0 where
  pub size : length l ≡ entries
  pub rule : (n : ℕ) → n < entries → IsEntry n (get_or l n 0)
