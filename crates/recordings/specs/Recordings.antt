-- What sounds play from: two sample buffers, the house's and the visitor's. Definitions and laws pass both on as one value; only a sample's frame, and the
-- questions that are asked of the samples, look inside.
use Rattle.std.specs.Prelude.{cond, List, ℕ, eqb, Float}

pub record Recordings : Type 0 where
  pub house : List Float
  pub visitor : List Float

abbrev pub recordings : List Float → List Float → Recordings
recordings house visitor = record { house = house; visitor = visitor }

-- which of them a sound is from
abbrev pub from_house : ℕ
from_house = 0

abbrev pub from_visitor : ℕ
from_visitor = 1

unfoldable pub recording : Recordings → ℕ → List Float
recording samples from = cond (eqb from from_house) samples.house samples.visitor
