use mathlib.Core.Path.{◌≡◌}
use mathlib.Core.Bool.{true}
use Rattle.scene_tables.specs.Bytes.{every}
use Rattle.pcm.specs.declared.sample.Encoding.TheVariants.{Float32}
use Rattle.pcm.specs.Sample.{whole16}
use Rattle.sound_data.specs.Data.{value_at}
use Rattle.sound_converter.proofs.values.floats_whole.Given as goal

abbrev pub invariant-loop-i : goal.invariant-loop-i
invariant-loop-i l = every l.i (λ k. whole16 (value_at Float32 l.order l.bytes l.start k)) ≡ true
