-- `read_found` meets its contract. Assumes nothing.
use mathlib.Core.Path.{sym, ap, ◌∙◌}
use Prim.Native.Nat.{ℕ}
use native.Mathlib.Omega.{arith}
use Rattle.wave_sound.proofs.laws.Refusals.{number_passed}
use Rattle.wave_reader.specs.Read.{reading}
use Rattle.wave_reader.proofs.laws.Read.{read_holds, read_refused, read_other_length, read_room}
use borrow.Author.Rules.{rules}
use Rattle.wave_reader.proofs.file.read_found.Goals as goal

pub returns-in_err-sound : goal.returns-in_err-sound
returns-in_err-sound c =
    ap (λ (n : ℕ). reading n c.args.samples.now c.args.rate.now) (number_passed c.from_residual.result c.in_err-sound.field-0.0 c.from_residual.ensures.1)
    ∙ sym (read_refused c.args.order c.args.found c.args.file.now c.in_err-sound.field-0.0 c.args.samples.now c.args.rate.now c.in_err-sound.was)

pub returns-then-samples-sound : goal.returns-then-samples-sound
returns-then-samples-sound c = sym (read_other_length c.args.order c.args.found c.args.file.now c.in_ok-sound.sound c.args.samples.now c.args.rate.now c.in_ok-sound.was (search rules))

pub read_samples-requires : goal.read_samples-requires
read_samples-requires c =
    let s = c.in_ok-sound.sound in
    let i = c.requires s c.in_ok-sound.was in
    record { one_or_two_channels = i.sides; samples_in_pairs = omega arith; values_in_bytes = read_room c.args.file.now s c.args.samples.now i (search rules) }

pub returns : goal.returns
returns c = cc (read_holds c.args.order c.args.found c.args.file.now c.in_ok-sound.sound c.args.samples.now c.args.rate.now c.in_ok-sound.was (search rules))
