-- Controls on the definitions: the answers of rustc 1.95.
use mathlib.Core.Path.{◌≡◌, refl}
use mathlib.Core.List.{[], ◌∷◌, map}
use Prim.Native.Nat.{ℕ}
use lib.Ieee.{binary64, round, add, div, of_int, of_bits, to_bits}
use Rattle.rounding.specs.Narrow.{narrowed, narrowed_bits}
use Rattle.rounding.specs.Nearest.{nearest_quotient}
use Rattle.rounding.specs.Duration.{nanos_from_secs, secs_from_millis}

-- `as f32`: 0.1; a tie down, a tie up, just above a tie; half of the smallest f32, and above it; a carry to the smallest normal
-- one; below the overflow threshold, and at it; the infinity; a negative tie, and -0
narrowings : map narrowed_bits
    (0x3fb9_9999_9999_999a ∷ 0x3ff0_0000_1000_0000 ∷ 0x3ff0_0000_3000_0000 ∷ 0x3ff0_0000_1000_0001 ∷ 0x3690_0000_0000_0000 ∷ 0x3690_0000_0000_0001 ∷ 0x380f_ffff_ffff_ffff
    ∷ 0x47ef_ffff_efff_ffff ∷ 0x47ef_ffff_f000_0000 ∷ 0x7ff0_0000_0000_0000 ∷ 0xbff0_0000_3000_0000 ∷ 0x8000_0000_0000_0000 ∷ [])
    ≡ (0x3dcc_cccd ∷ 0x3f80_0000 ∷ 0x3f80_0002 ∷ 0x3f80_0001 ∷ 0 ∷ 1 ∷ 0x0080_0000 ∷ 0x7f7f_ffff ∷ 0x7f80_0000 ∷ 0x7f80_0000 ∷ 0xbf80_0002 ∷ 0x8000_0000 ∷ [])
unfolding narrowed_bits narrowed of_bits to_bits round
narrowings = refl

-- `Duration::from_secs_f64(..).as_nanos()`: a tie down, a tie up, below half a nanosecond, a nanosecond, an hour, -0
nanos : map (λ (b : ℕ). nanos_from_secs (of_bits binary64 b))
    (0x3f50_0000_0000_0000 ∷ 0x3f68_0000_0000_0000 ∷ 0x3e01_1111_1111_1111 ∷ 0x3e11_2e0b_e826_d695 ∷ 0x40ac_2000_0000_0000 ∷ 0x8000_0000_0000_0000 ∷ [])
    ≡ (976_562 ∷ 2_929_688 ∷ 0 ∷ 1 ∷ 3_600_000_000_000 ∷ 0 ∷ [])
unfolding nanos_from_secs nearest_quotient of_bits
nanos = refl

-- `Duration::from_millis(..).as_secs_f64()`
seconds : map (λ (n : ℕ). to_bits binary64 (secs_from_millis n)) (0 ∷ 27 ∷ 999 ∷ 1_000 ∷ 2_147_483_647 ∷ 4_294_967_295 ∷ [])
    ≡ (0 ∷ 0x3f9b_a5e3_53f7_ced9 ∷ 0x3fef_f7ce_d916_872b ∷ 0x3ff0_0000_0000_0000 ∷ 0x4140_624d_d2d0_e560 ∷ 0x4150_624d_d2e1_47ae ∷ [])
unfolding secs_from_millis add div of_int to_bits
seconds = refl
