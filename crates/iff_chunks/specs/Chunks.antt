-- A file of chunks. A chunk is an identifier of four bytes, a size of four, so many bytes, and behind an odd size a pad byte, if the file has
-- one. The file begins with the header of the chunk that holds them all, whose size nobody asks about, and the identifier of its form.
use Rattle.std.specs.Prelude.{Option, None, Bool, true, false, cond, ◌&&◌, List, ℕ, zero, suc, ◌+◌, ◌*◌, ◌%◌, eqb, leb, ltb, length}
use Rattle.std.specs.Bool.{then_some}
use Rattle.std.specs.Option.{option_or}
use Prim.Native.Char.{code}
use Prim.Native.String.{String, [] as empty, ◌∷◌ as ◌then◌}
use Rattle.byte_order.specs.declared.bytes.ByteOrder.{ByteOrder}
use Rattle.byte_order.specs.declared.bytes.ByteOrder.TheVariants.{Big}
use Rattle.byte_order.specs.Bytes.{number_at}
use Rattle.iff_chunks.specs.declared.form.Chunks.{Chunks}

-- Four letters as a number, the first letter the highest byte: of a quoted text, and where they stand in a file.
unfoldable pub letters_after : ℕ → String → ℕ
letters_after n empty = n
letters_after n (c then s) = letters_after (n * 256 + code c) s

unfoldable pub identifier : String → ℕ
identifier s = letters_after 0 s

unfoldable pub identifier_at : List ℕ → ℕ → ℕ
identifier_at file at = number_at Big file at 4

-- The size of the chunk that begins at a place.
unfoldable pub size_at : ByteOrder → List ℕ → ℕ → ℕ
size_at order file at = number_at order file (at + 4) 4

unfoldable pub is_form : List ℕ → ℕ → ℕ → Bool
is_form file outer form = leb 12 (length file) && (eqb (identifier_at file 0) outer && eqb (identifier_at file 8) form)

-- The first chunk counts: a place that is noted stays.
unfoldable pub noted : Option ℕ → ℕ → ℕ → ℕ → Option ℕ
noted place identifier wanted at = option_or place (then_some (eqb identifier wanted) at)

abbrev pub found : Option ℕ → Option ℕ → Bool → Chunks
found first second whole = record { first = first; second = second; whole = whole }

-- The chunks from a place on. They are not whole where a rest of under 8 bytes is left, or where one runs past the file's end, which is the last.
unfoldable pub walk_from : ℕ → ByteOrder → ℕ → ℕ → List ℕ → ℕ → Option ℕ → Option ℕ → Chunks
walk_from zero order a b file at first second = found first second true
walk_from (suc n) order a b file at first second =
    let size = size_at order file at in
    let first' = noted first (identifier_at file at) a at in
    let second' = noted second (identifier_at file at) b at in
    let rest = walk_from n order a b file (at + 8 + size + size % 2) first' second' in
    cond (leb (length file) at) (found first second true)
    (cond (ltb (length file) (at + 8)) (found first second false)
    (cond (ltb (length file) (at + 8 + size)) (found first' second' false) rest))

-- All chunks of a file: a chunk has 8 bytes at least, so there are fewer than the file has bytes.
unfoldable pub walk_of : ByteOrder → ℕ → ℕ → List ℕ → Chunks
walk_of order a b file = walk_from (length file) order a b file 12 None None
