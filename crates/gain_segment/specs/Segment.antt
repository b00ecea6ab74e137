-- A segment of the gain table: the curve from entry k to the next.
use Rattle.std.specs.Prelude.{◌≡◌, Bool, cond, ◌&&◌, ℕ, suc, ◌≤◌, pos, Float}
use Rattle.std.specs.Float.{binary32, binary64}
use Rattle.std.specs.Float.Ieee.{sub, div, lt, eq, le, of_int}
use Rattle.laws.specs.Float.{whole}
use Rattle.gain_table.specs.GainTable.{entry}
use Rattle.gain_segment.specs.declared.segment.Segment.{Segment}
use Rattle.decibels.specs.Decibels.{silence, last_entry, entry_below, second_difference}

-- where entry k stands: k - 960 sixteenths of a decibel
unfoldable pub steps_at : ℕ → Float
steps_at k = sub binary64 (whole k) (whole 960)

-- the same in decibels
unfoldable pub decibels_at : ℕ → Float
decibels_at k = sub binary32 (div binary32 (of_int binary32 (pos k)) (whole 16)) (whole 60)

unfoldable pub segment : ℕ → Segment
segment k = record {
  low = decibels_at k;
  high = decibels_at (suc k);
  from = steps_at k;
  first = whole (entry k);
  rise = sub binary64 (whole (entry (suc k))) (whole (entry k));
  second = second_difference k;
}

-- the segment that n stands on; where the table says nothing of n, any
unfoldable pub segment_of : Float → ℕ
segment_of n = cond (eq n (whole 0)) 960 (cond (le n silence) 0 (entry_below n))

-- n stands between the ends
unfoldable pub contains : Segment → Float → Bool
contains s n = lt s.low n && lt n s.high

-- it is one of the table's
pub record IsSegment (s : Segment) : Type 0 where
  pub number : ℕ
  pub there : number ≤ last_entry
  pub is : s ≡ segment number
