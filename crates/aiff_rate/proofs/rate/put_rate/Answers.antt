-- `put_rate` meets its contract. Assumes nothing.
use mathlib.Core.Path.{ap, ◌∙◌}
use Prim.Native.Nat.{ℕ, ◌-◌, ◌*◌, ◌^◌}
use native.Mathlib.Omega.{arith}
use Rattle.laws.specs.Pieces.{put_at}
use Rattle.byte_order.specs.declared.bytes.ByteOrder.TheVariants.{Big}
use Rattle.byte_order.specs.Bytes.{bytes_of}
use Rattle.aiff_rate.specs.Rate.{unit}
use Rattle.aiff_rate.proofs.laws.Bytes.{shift_scales, rate_put}
use Rattle.aiff_rate.proofs.rate.put_rate.Goals as goal

pub factor_of-requires : goal.factor_of-requires
factor_of-requires c =
    let s = shift_scales c.args.rate c.requires.rate_in_range.0 c.requires.rate_in_range.1 in
    (omega (arith, s.least, c.shift_of-shift.ensures), omega (arith, s.most, c.shift_of-shift.ensures))

pub overflow_mul-high : goal.overflow_mul-high
overflow_mul-high c =
    let s = shift_scales c.args.rate c.requires.rate_in_range.0 c.requires.rate_in_range.1 in
    omega (arith, s.short, ap (λ (x : ℕ). c.args.rate * x) (c.factor_of.ensures ∙ ap (λ (k : ℕ). 2 ^ (k - 32)) c.shift_of-shift.ensures))

pub overflow_sub-shift : goal.overflow_sub-shift
overflow_sub-shift c = omega (arith, (shift_scales c.args.rate c.requires.rate_in_range.0 c.requires.rate_in_range.1).most, c.shift_of-shift.ensures)

pub returns : goal.returns
returns c =
    let shift = c.shift_of-shift.ensures in
    rate_put c.args.rate c.requires.rate_in_range.0 c.requires.rate_in_range.1 c.args.bytes.now c.args.at c.requires.room_for_rate
    (ap (λ (x : ℕ). c.args.rate * x) (c.factor_of.ensures ∙ ap (λ (k : ℕ). 2 ^ (k - 32)) shift))
    (c.put_number2.ensures ∙ ap (λ (k : ℕ). put_at c.args.at (bytes_of Big 2 (unit - k)) c.args.bytes.now) shift)
    c.put_number4.ensures c.put_number4-2.ensures
