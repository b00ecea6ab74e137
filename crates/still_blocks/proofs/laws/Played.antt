-- How many frames a block has had before a chunk, and how far sounds have played after so many. Assumes nothing.
use mathlib.Core.Path.{◌≡◌, refl, sym, ap, ap₂, ◌∙◌}
use mathlib.Core.Logic.{◌⊎◌, inl, inr}
use mathlib.Core.Bool.{Bool, true, false, cond}
use mathlib.Core.List.{List, [], ◌∷◌}
use Prim.Native.Nat.{ℕ, zero, suc, ◌+◌, ◌-◌, ◌*◌, ◌≤◌, ◌<◌}
use native.Mathlib.Nat.{zero-mul, add-zero}
use native.Mathlib.Omega.{arith}
use lib.Dec.{ltb}
use lib.ListN.{get_or}
use Rattle.laws.specs.Loop.{changed}
use Rattle.laws.proofs.laws.Choice.{picks_lt, leaves_lt}
use Rattle.laws.proofs.laws.FloatRound.{below_or_not}
use Rattle.laws.proofs.laws.Loop.{changed_cong, changed_twice}
use Rattle.scene.specs.declared.scene.Head.{Head}
use Rattle.scene.specs.declared.scene.SoundLine.{SoundLine}
use Rattle.accepted.specs.Lines.{absent_sound_line}
use Rattle.mixer.specs.declared.sub.Track.{Track}
use Rattle.mixer.specs.Mixer.{live_above}
use Rattle.mixer.specs.Sounds.{played_more, played_where, played_after, played_on}
use Rattle.renderer.specs.Renderer.{chunk_count, chunk_frames}
use Rattle.renderer.proofs.laws.Lengths.{count_covers, chunk_starts}

-- ---- frames before chunk k: k buffers, and the block at most

abbrev least : ℕ → ℕ → ℕ
least a b = cond (ltb a b) a b

unfoldable pub frames_before : Head → ℕ → ℕ
frames_before h k = least h.block (k * h.buffer)

-- B is the block, b the buffer, p the buffers before
least_next : (B b p : ℕ) → least B p + least (B - p) b ≡ least B (p + b)
least_next B b p = go (below_or_not B p) (below_or_not (B - p) b)
  where
    go : (B < p) ⊎ (p ≤ B) → (B - p < b) ⊎ (b ≤ B - p) → least B p + least (B - p) b ≡ least B (p + b)
    go (inl x) (inl y) = ap₂ ◌+◌ (picks_lt B p B p x) (picks_lt (B - p) b (B - p) b y) ∙ omega (arith, x) ∙ sym (picks_lt B (p + b) B (p + b) (omega (arith, x)))
    go (inl x) (inr y) = ap₂ ◌+◌ (picks_lt B p B p x) (leaves_lt (B - p) b (B - p) b y) ∙ omega (arith, x, y) ∙ sym (picks_lt B (p + b) B (p + b) (omega (arith, x)))
    go (inr x) (inl y) = ap₂ ◌+◌ (leaves_lt B p B p x) (picks_lt (B - p) b (B - p) b y) ∙ omega (arith, x) ∙ sym (picks_lt B (p + b) B (p + b) (omega (arith, x, y)))
    go (inr x) (inr y) = ap₂ ◌+◌ (leaves_lt B p B p x) (leaves_lt (B - p) b (B - p) b y) ∙ sym (leaves_lt B (p + b) B (p + b) (omega (arith, x, y)))

least_covered : (B Q : ℕ) → B ≤ Q → least B Q ≡ B
least_covered B Q h = elim (below_or_not B Q) [ inl x ↦ picks_lt B Q B Q x | inr x ↦ leaves_lt B Q B Q x ∙ omega arith ]

pub before_first : (h : Head) → frames_before h 0 ≡ 0
unfolding frames_before
before_first h = ap (least h.block) (zero-mul h.buffer) ∙ leaves_lt h.block 0 h.block 0 (omega arith)

next_buffer : (k b : ℕ) → k * b + b ≡ suc k * b
next_buffer k b = omega arith

pub before_next : (h : Head) (k : ℕ) → frames_before h k + chunk_frames h k ≡ frames_before h (suc k)
unfolding frames_before chunk_frames
before_next h k = least_next h.block h.buffer (k * h.buffer) ∙ ap (least h.block) (next_buffer k h.buffer)

module _ (h : Head) (some : 1 ≤ h.buffer) where
  pub before_chunk : (k : ℕ) → k < chunk_count h → frames_before h k ≡ k * h.buffer
  unfolding frames_before
  before_chunk k l = leaves_lt h.block (k * h.buffer) h.block (k * h.buffer) (omega (arith, chunk_starts h some k l))

  pub before_all : frames_before h (chunk_count h) ≡ h.block
  unfolding frames_before
  before_all = least_covered h.block (chunk_count h * h.buffer) (count_covers h some)

-- ---- a sound: `count` frames, of which `done` are played

abbrev more : ℕ → ℕ → ℕ → ℕ
more count n done = cond (ltb (count - done) n) count (done + n)

more_none : (count done : ℕ) → more count 0 done ≡ done
more_none count done = leaves_lt (count - done) 0 count (done + 0) (omega arith) ∙ add-zero done

more_ended : (count n : ℕ) → more count n count ≡ count
more_ended count n = elim (below_or_not (count - count) n) [ inl x ↦ picks_lt (count - count) n count (count + n) x | inr x ↦ leaves_lt (count - count) n count (count + n) x ∙ omega (arith, x) ]

-- it goes on after the first a frames
more_goes_on : (count done a b : ℕ) → a ≤ count - done → more count b (done + a) ≡ more count (a + b) done
more_goes_on count done a b h = elim (below_or_not (count - done) (a + b)) [
  | inl x ↦ picks_lt (count - (done + a)) b count (done + a + b) (omega (arith, x, h)) ∙ sym (picks_lt (count - done) (a + b) count (done + (a + b)) x)
  | inr x ↦ leaves_lt (count - (done + a)) b count (done + a + b) (omega (arith, x, h)) ∙ omega arith ∙ sym (leaves_lt (count - done) (a + b) count (done + (a + b)) x)
]

more_twice : (count done a b : ℕ) → more count b (more count a done) ≡ more count (a + b) done
more_twice count done a b = elim (below_or_not (count - done) a) [
  | inl x ↦ ap (more count b) (picks_lt (count - done) a count (done + a) x) ∙ more_ended count b ∙ sym (picks_lt (count - done) (a + b) count (done + (a + b)) (omega (arith, x)))
  | inr x ↦ ap (more count b) (leaves_lt (count - done) a count (done + a) x) ∙ more_goes_on count done a b x
]

-- ---- a sound of a track that is live or not

where_none : (live : Bool) (line : SoundLine) (done : ℕ) → played_where live line 0 done ≡ done
unfolding played_more
where_none true line done = more_none line.count done
where_none false line done = refl

where_twice : (live : Bool) (line : SoundLine) (a b done : ℕ) → played_where live line b (played_where live line a done) ≡ played_where live line (a + b) done
unfolding played_more
where_twice true line a b done = more_twice line.count done a b
where_twice false line a b done = refl

-- ---- all sounds

changed_none : {A : Type 0} (f : ℕ → A → A) (n : ℕ) (l : List A) → ((k : ℕ) (x : A) → f k x ≡ x) → changed f n l ≡ l
unfolding changed
changed_none f zero l h = refl
changed_none f (suc n) [] h = refl
changed_none f (suc n) (x ∷ l) h = ap₂ (λ y r. y ∷ r) (h 0 x) (changed_none (λ j. f (suc j)) n l (λ k. h (suc k)))

module _ (lines : List SoundLine) (count : ℕ) (tracks : List Track) (played : List ℕ) where
  abbrev after : ℕ → ℕ → ℕ → ℕ
  after n k done = played_after tracks (get_or lines k absent_sound_line) n done

  pub played_none : played_on lines count tracks 0 played ≡ played
  unfolding played_on played_after
  played_none = changed_none (after 0) count played (λ k done. where_none (live_above tracks (get_or lines k absent_sound_line).track) (get_or lines k absent_sound_line) done)

  pub played_twice : (a b : ℕ) → played_on lines count tracks b (played_on lines count tracks a played) ≡ played_on lines count tracks (a + b) played
  unfolding played_on played_after
  played_twice a b =
      changed_twice (after a) (after b) count played
      ∙ changed_cong (λ k done. after b k (after a k done)) (after (a + b)) count played 0
      (λ k l m. where_twice (live_above tracks (get_or lines k absent_sound_line).track) (get_or lines k absent_sound_line) a b (get_or played k 0))
