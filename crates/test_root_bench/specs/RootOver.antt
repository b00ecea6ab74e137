-- What `room_desk_root` answers and leaves.
use Rattle.std.specs.Prelude.{Bool, cond, ◌&&◌, ℕ, Float}
use Rattle.std.specs.Float.{binary32}
use Rattle.std.specs.Float.Ieee.{le, of_bits}
use Rattle.laws.specs.Float.{pos_zero}
use Rattle.root.specs.Root.{root}

-- the largest f32
abbrev pub largest : Float
largest = of_bits binary32 0x7f7f_ffff

-- 0 to the largest f32
unfoldable pub has_root : Float → Bool
has_root x = le pos_zero x && le x largest

unfoldable pub root_number : Float → ℕ
root_number x = cond (has_root x) 0 11

-- what a place holds afterwards
unfoldable pub root_over : Float → Float → Float
root_over x old = cond (has_root x) (root x) old
