-- Controls on the definition: the answers of rustc's `f32::sqrt`.
use mathlib.Core.Path.{◌≡◌, refl}
use mathlib.Core.List.{[], ◌∷◌, map}
use Prim.Native.Nat.{ℕ}
use lib.Ieee.{binary32, of_bits, to_bits}
use Rattle.laws.specs.FloatOrder.{plus}
use Rattle.root.specs.Root.{units, reaches, last, root}

-- 0, the smallest f32, the largest below the normal ones, 2, 3, 4, just below 1, 12,000,000, the largest
roots : map (λ (b : ℕ). to_bits binary32 (root (of_bits binary32 b))) (0 ∷ 1 ∷ 0x007f_ffff ∷ 0x4000_0000 ∷ 0x4040_0000 ∷ 0x4080_0000 ∷ 0x3f7f_ffff ∷ 0x4b37_1b00 ∷ 0x7f7f_ffff ∷ [])
    ≡ (0 ∷ 0x1a35_04f3 ∷ 0x1fff_ffff ∷ 0x3fb5_04f3 ∷ 0x3fdd_b3d7 ∷ 0x4000_0000 ∷ 0x3f7f_ffff ∷ 0x4558_81a0 ∷ 0x5f7f_ffff ∷ [])
unfolding root last reaches units plus of_bits to_bits
roots = refl
