-- Buffers of frames. A buffer is a list of numbers, and a layout says where in it frames stand. Everything above speaks of frames, and not of places.
use Rattle.std.specs.Prelude.{◌≡◌, ◌≢◌, List, ℕ, ◌+◌, ◌*◌, ◌≤◌, ◌<◌, get_or, set, Float}
use Rattle.std.specs.Float.{nan}
use Rattle.laws.specs.Loop.{upto}
use Rattle.frame.specs.declared.frame.Frame.{Frame}

-- n frames in the 2 * n places from `first` on: where the left and the right side of frame i < n stand
pub record Layout (first n : ℕ) : Type 0 where
  pub left : ℕ → ℕ
  pub right : ℕ → ℕ

-- left and right in turn
unfoldable pub interleaved : (first n : ℕ) → Layout first n
interleaved first n =
    record {
      left = λ i. first + 2 * i;
      right = λ i. first + 2 * i + 1;
    }

-- n left sides, and directly behind them the n right ones
unfoldable pub planar : (first n : ℕ) → Layout first n
planar first n =
    record {
      left = λ i. first + i;
      right = λ i. first + n + i;
    }

-- The sides stand within those places, and no two sides in one place: both layouts keep to it (proofs/laws/Places).
pub record SidesApart {first n : ℕ} (L : Layout first n) : Type 0 where
  pub left_in : (i : ℕ) → i < n → (first ≤ L.left i) × (L.left i < first + 2 * n)
  pub right_in : (i : ℕ) → i < n → (first ≤ L.right i) × (L.right i < first + 2 * n)
  pub lefts : (i j : ℕ) → i < n → j < n → i ≢ j → L.left i ≢ L.left j
  pub rights : (i j : ℕ) → i < n → j < n → i ≢ j → L.right i ≢ L.right j
  pub apart : (i j : ℕ) → i < n → j < n → L.left i ≢ L.right j

-- the layout of what tracks and send tracks are mixed in
abbrev pub scratch : (first n : ℕ) → Layout first n
scratch = planar

module _ {first n : ℕ} (L : Layout first n) where
  -- frame i
  unfoldable pub frame_at : List Float → ℕ → Frame
  frame_at buffer i = record { left = get_or buffer (L.left i) nan; right = get_or buffer (L.right i) nan }

  -- frame i replaced
  unfoldable pub put_frame : List Float → ℕ → Frame → List Float
  put_frame buffer i a = set (set buffer (L.left i) a.left) (L.right i) a.right

  -- each of the first m frames replaced by what f makes of its number and of itself
  unfoldable pub with_first : (ℕ → Frame → Frame) → ℕ → List Float → List Float
  with_first f m l = upto (λ i r. put_frame r i (f i (frame_at r i))) m l

  -- all of them
  abbrev pub with_frames : (ℕ → Frame → Frame) → List Float → List Float
  with_frames f l = with_first f n l

-- what a call may make of frame i < n is what f makes of it
abbrev pub StepIs : (n : ℕ) → (ℕ → Frame → Frame → Type 0) → (ℕ → Frame → Frame) → Type 0
StepIs n made f = (i : ℕ) (a b : Frame) → i < n → made i a b → b ≡ f i a

-- ---- two buffers in two layouts

-- they stand for the same n frames
abbrev pub SameFrames : {first n : ℕ} → Layout first n → Layout first n → List Float → List Float → Type 0
SameFrames {first} {n} L M l m = (i : ℕ) → i < n → frame_at L l i ≡ frame_at M m i

-- The same of buffers of several parts, with n frames from each part's place on: sides in turn in the one, apart in the other. What a chunk is mixed
-- in has one part, the send tracks' inputs have one for each send track.
abbrev pub SameParts : (parts width n : ℕ) → List Float → List Float → Type 0
SameParts parts width n l m = (s : ℕ) → s < parts → SameFrames (interleaved (s * width) n) (scratch (s * width) n) l m
