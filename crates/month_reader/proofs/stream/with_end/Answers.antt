-- `with_end` meets its contract. Assumes nothing.
use mathlib.Core.Path.{ap}
use mathlib.Core.Bool.{not}
use mathlib.Core.List.{[], ◌∷◌, ◌++◌}
use Prim.Native.Nat.{ℕ}
use lib.Dec.{eqb}
use Rattle.month_reader.proofs.laws.Stream.{mix_ended, reading_is, count_is, reading_reached}
use Rattle.month_reader.proofs.stream.with_end.Goals as goal

pub with_mix-requires : goal.with_mix-requires
with_mix-requires c = record { reading_reachable = reading_reached c.args.stream c.requires.stream_reachable; at_least_one_channel = c.requires.at_least_one_channel }

pub returns : goal.returns
returns c =
    λ done bytes e.
    mix_ended (done ++ (record { channels = c.args.channels; bytes = bytes } ∷ []))
    (c.with_mix.ensures done bytes (reading_is done bytes c.args.stream e) (ap (λ (n : ℕ). not (eqb n 0)) (count_is done bytes c.args.stream e)))
