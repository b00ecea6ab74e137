-- `amplitude_at` meets its contract. Assumes nothing.
use mathlib.Core.Path.{ap, sym, subst, ◌∙◌}
use lib.Dec.{T}
use lib.Ieee.{Float}
use Rattle.decibels.specs.Decibels.{amplitude, admitted}
use Rattle.level_amplitudes.specs.Amplitudes.{value_at}
use Rattle.level_amplitudes.proofs.runs.amplitude_at.Goals as goal

pub as_amplitude_in-requires : goal.as_amplitude_in-requires
unfolding value_at
as_amplitude_in-requires c = record { gain_table = c.requires.gain_table; admitted = subst (λ (v : Float). T (admitted v)) (sym c.value_by-value.ensures) c.requires.admitted }

pub returns : goal.returns
unfolding value_at
returns c = c.as_amplitude_in.ensures ∙ ap amplitude c.value_by-value.ensures
