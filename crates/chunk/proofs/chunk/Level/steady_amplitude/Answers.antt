use lib.Ieee.{Float}
use mathlib.Core.Path.{ap}
use Rattle.decibels.specs.declared.decibels.Amplitude.{Amplitude}
use Rattle.chunk.specs.Chunk.{steady_amplitude}
use Rattle.chunk.proofs.laws.Chunk.{now-admitted}
use Rattle.chunk.proofs.chunk.Level.steady_amplitude.Goals as goal

made : Float → Amplitude
made x = record { 0 = x }

pub as_amplitude_in-requires : goal.as_amplitude_in-requires
as_amplitude_in-requires c = record { gain_table = c.requires.gain_table; admitted = now-admitted c.args.self c.requires.level_in_range }

pub returns : goal.returns
unfolding steady_amplitude made
returns c = ap made c.as_amplitude_in.ensures
