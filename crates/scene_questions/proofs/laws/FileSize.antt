-- Laws of question 1, as the code asks it.
use mathlib.Core.Path.{◌≡◌}
use mathlib.Core.Bool.{false, true, ◌&&◌}
use mathlib.Core.List.{List}
use Prim.Native.Nat.{ℕ, ◌-◌, ◌<◌, ◌≤◌}
use native.Mathlib.Omega.{arith}
use borrow.Author.Tests.{le-leb, lt-leb, leb-true}
use lib.Dec.{eqb, leb}
use lib.ListN.{length, get_or}
use Rattle.laws.proofs.laws.Choice.{and_false, and_left, and_right}
use Rattle.limits.specs.Limits.{file_bytes}
use Rattle.scene_file.specs.Grammar.{line_feed}
use Rattle.scene_questions.specs.Questions.{size_ok}

module _ (file : List ℕ) where
  pub size_empty : length file ≡ 0 → false ≡ size_ok file
  unfolding size_ok
  size_empty h = rw h

  pub size_large : file_bytes < length file → false ≡ size_ok file
  unfolding size_ok
  size_large h = rw (lt-leb (length file) file_bytes h, and_false (leb 1 (length file)))

  pub size_last : (length file ≡ 0 → ⊥) → length file ≤ file_bytes → eqb (get_or file (length file - 1) 0) line_feed ≡ size_ok file
  unfolding size_ok
  size_last h k = rw (le-leb 1 (length file) (omega arith), le-leb (length file) file_bytes k)

  pub size_small : size_ok file ≡ true → length file ≤ file_bytes
  unfolding size_ok
  size_small e =
      leb-true (length file) file_bytes
      (and_right (leb 1 (length file)) (leb (length file) file_bytes) (and_left (leb 1 (length file) && leb (length file) file_bytes) (eqb (get_or file (length file - 1) 0) line_feed) e))
