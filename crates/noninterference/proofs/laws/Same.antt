-- Laws of `same` and of the tests of Alike.antt: lists that pass are equal, and a scene passes beside itself. Assumes nothing.
use mathlib.Core.Path.{◌≡◌, refl, sym, ap, ap₂, ◌∙◌}
use mathlib.Core.Logic.{◌≢◌}
use mathlib.Core.Bool.{Bool, true, false≢true}
use mathlib.Core.List.{List, [], ◌∷◌}
use Prim.Native.Nat.{ℕ, zero, suc, ◌<◌}
use borrow.Author.Tests.{eqb-true, eq-eqb}
use lib.Dec.{T, eqb}
use lib.ListN.{length, get_or, set}
use lib.Seq.{get_or-set_same, get_or-set_other}
use lib.Ieee.{Float, binary32, fits, to_bits, of_bits}
use lib.Ieee.Bits.{of_bits-to_bits}
use Rattle.recordings.specs.Recordings.{Recordings}
use Rattle.laws.proofs.laws.Choice.{and_left, and_right, and_same}
use Rattle.scene_tables.specs.Tables.{head, clocks, tracks, sends, routes, sounds, listener, placings, orders}
use Rattle.scene_questions.specs.Questions.{Tables, rows_at}
use Rattle.noninterference.specs.Removed.{Choice}
use Rattle.noninterference.specs.Alike.{same, unplaced, same_tables, frames_left, same_bits}
use Rattle.noninterference.proofs.laws.LeftLines.{differ}

module _ {X : Type 0} (test : X → X → Bool) where
  pub same_refl : ((x : X) → test x x ≡ true) → (l : List X) → same test l l ≡ true
  unfolding same
  same_refl h [] = refl
  same_refl h (x ∷ l) = and_same (h x) (same_refl h l)

  pub same_length : (l m : List X) → same test l m ≡ true → length l ≡ length m
  unfolding same
  same_length [] [] e = refl
  same_length [] (y ∷ m) e = absurd (false≢true e)
  same_length (x ∷ l) [] e = absurd (false≢true e)
  same_length (x ∷ l) (y ∷ m) e = ap suc (same_length l m (and_right (test x y) (same test l m) e))

  -- past the ends both lists read as d
  pub same_at : (l m : List X) (d : X) → test d d ≡ true → same test l m ≡ true → (i : ℕ) → test (get_or l i d) (get_or m i d) ≡ true
  unfolding same
  same_at [] [] d h e i = h
  same_at [] (y ∷ m) d h e i = absurd (false≢true e)
  same_at (x ∷ l) [] d h e i = absurd (false≢true e)
  same_at (x ∷ l) (y ∷ m) d h e zero = and_left (test x y) (same test l m) e
  same_at (x ∷ l) (y ∷ m) d h e (suc i) = same_at l m d h (and_right (test x y) (same test l m) e) i

  -- where what passes is equal, so are the lists
  pub same_eq : ((x y : X) → test x y ≡ true → x ≡ y) → (l m : List X) → same test l m ≡ true → l ≡ m
  unfolding same
  same_eq h [] [] e = refl
  same_eq h [] (y ∷ m) e = absurd (false≢true e)
  same_eq h (x ∷ l) [] e = absurd (false≢true e)
  same_eq h (x ∷ l) (y ∷ m) e =
      ap₂ (λ (z : X) (k : List X). z ∷ k) (h x y (and_left (test x y) (same test l m) e)) (same_eq h l m (and_right (test x y) (same test l m) e))

-- ---- rows of numbers

abbrev same_rows : List (List ℕ) → List (List ℕ) → Bool
same_rows = same (same eqb)

rows_refl : (rows : List (List ℕ)) → same_rows rows rows ≡ true
rows_refl = same_refl (same eqb) (same_refl eqb (λ n. eq-eqb n n refl))

pub rows_eq : (rows rows' : List (List ℕ)) → same_rows rows rows' ≡ true → rows ≡ rows'
rows_eq = same_eq (same eqb) (same_eq eqb eqb-true)

-- ---- tables

-- what the test says, table by table
pub record SameTables (l m : Tables) : Type 0 where
  pub head : rows_at l head ≡ rows_at m head
  pub clocks : rows_at l clocks ≡ rows_at m clocks
  pub tracks : rows_at l tracks ≡ rows_at m tracks
  pub sends : rows_at l sends ≡ rows_at m sends
  pub routes : rows_at l routes ≡ rows_at m routes
  pub sounds : unplaced (rows_at l sounds) ≡ unplaced (rows_at m sounds)
  pub listener : rows_at l listener ≡ rows_at m listener
  pub placings : rows_at l placings ≡ rows_at m placings
  pub orders : rows_at l orders ≡ rows_at m orders

-- a table other than that of the sounds, and that of the sounds
row_kept : (l m : Tables) (t : ℕ) (x y : List (List ℕ)) → t ≢ sounds → set l sounds x ≡ set m sounds y → rows_at l t ≡ rows_at m t
row_kept l m t x y h e = sym (get_or-set_other l sounds t x [] h) ∙ ap (λ (k : Tables). get_or k t []) e ∙ get_or-set_other m sounds t y [] h

row_set : (l m : Tables) (x y : List (List ℕ)) → sounds < length l → sounds < length m → set l sounds x ≡ set m sounds y → x ≡ y
row_set l m x y h k e = sym (get_or-set_same l sounds x [] h) ∙ ap (λ (k : Tables). get_or k sounds []) e ∙ get_or-set_same m sounds y [] k

pub same_tables_lem : (l m : Tables) → sounds < length l → sounds < length m → same_tables l m ≡ true → SameTables l m
unfolding same_tables
same_tables_lem l m h k e =
    let x = unplaced (rows_at l sounds) in
    let y = unplaced (rows_at m sounds) in
    let q : set l sounds x ≡ set m sounds y = same_eq same_rows rows_eq (set l sounds x) (set m sounds y) e in
    record {
      head = row_kept l m head x y (differ tt) q;
      clocks = row_kept l m clocks x y (differ tt) q;
      tracks = row_kept l m tracks x y (differ tt) q;
      sends = row_kept l m sends x y (differ tt) q;
      routes = row_kept l m routes x y (differ tt) q;
      sounds = row_set l m x y h k q;
      listener = row_kept l m listener x y (differ tt) q;
      placings = row_kept l m placings x y (differ tt) q;
      orders = row_kept l m orders x y (differ tt) q;
    }

pub tables_self : (l : Tables) → same_tables l l ≡ true
unfolding same_tables
tables_self l = same_refl same_rows rows_refl (set l sounds (unplaced (rows_at l sounds)))

-- ---- samples

pub bits_refl : (x : Float) → same_bits x x ≡ true
unfolding same_bits
bits_refl x = eq-eqb (to_bits binary32 x) (to_bits binary32 x) refl

-- values of the format with the same bits are the same
pub bits_eq : (x y : Float) → T (fits binary32 x) → T (fits binary32 y) → same_bits x y ≡ true → x ≡ y
unfolding same_bits
bits_eq x y p q e = sym (of_bits-to_bits binary32 x p) ∙ ap (of_bits binary32) (eqb-true (to_bits binary32 x) (to_bits binary32 y) e) ∙ of_bits-to_bits binary32 y q

pub frames_self : (ts : Tables) (chosen : Choice) (samples : Recordings) → same (same same_bits) (frames_left ts chosen samples) (frames_left ts chosen samples) ≡ true
frames_self ts chosen samples = same_refl (same same_bits) (same_refl same_bits bits_refl) (frames_left ts chosen samples)
