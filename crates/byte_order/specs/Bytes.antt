-- Whole numbers in bytes, in either byte order.
use Rattle.std.specs.Prelude.{List, [], ◌∷◌, ◌++◌, ℕ, zero, suc, ◌+◌, ◌*◌, ◌/◌, ◌%◌, ◌^◌, get_or}
use Rattle.byte_order.specs.declared.bytes.ByteOrder.{ByteOrder}
use Rattle.byte_order.specs.declared.bytes.ByteOrder.TheVariants.{Little, Big}

-- The number whose bytes begin at a place; the last argument is how many it has.
unfoldable pub number_at : ByteOrder → List ℕ → ℕ → ℕ → ℕ
number_at order bytes at zero = 0
number_at Little bytes at (suc n) = number_at Little bytes at n + get_or bytes (at + n) 0 * 256 ^ n
number_at Big bytes at (suc n) = number_at Big bytes at n * 256 + get_or bytes (at + n) 0

-- So many bytes of a number.
unfoldable pub bytes_of : ByteOrder → ℕ → ℕ → List ℕ
bytes_of order zero number = []
bytes_of Little (suc n) number = bytes_of Little n number ++ (number / 256 ^ n % 256 ∷ [])
bytes_of Big (suc n) number = bytes_of Big n (number / 256) ++ (number % 256 ∷ [])
