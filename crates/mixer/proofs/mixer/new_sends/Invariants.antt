use mathlib.Core.Path.{◌≡◌}
use mathlib.Core.List.{List}
use Prim.Native.Nat.{ℕ}
use lib.ListN.{get_or, replicate}
use Rattle.limits.specs.Limits.{send_lines}
use Rattle.laws.specs.Loop.{changed}
use Rattle.scene.specs.declared.scene.SendLine.{SendLine}
use Rattle.parameter.specs.declared.parameter.Parameter.{Parameter}
use Rattle.parameter.specs.Parameter.{parameter_new}
use Rattle.mixer.specs.Mixer.{empty_parameter}
use Rattle.accepted.specs.Lines.{absent_send_line}
use Rattle.mixer.proofs.mixer.new_sends.Given as goal

abbrev pub made : List SendLine → ℕ → Parameter → Parameter
made lines i x = parameter_new (get_or lines i absent_send_line).volume

abbrev pub invariant-loop-i : goal.invariant-loop-i
invariant-loop-i l = l.sends ≡ changed (made l.scene.sends) l.i (replicate send_lines empty_parameter)
