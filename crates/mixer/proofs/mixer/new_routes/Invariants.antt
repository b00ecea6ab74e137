use mathlib.Core.Path.{◌≡◌}
use mathlib.Core.List.{List}
use Prim.Native.Nat.{ℕ}
use lib.ListN.{get_or, replicate}
use Rattle.limits.specs.Limits.{route_lines}
use Rattle.laws.specs.Loop.{changed}
use Rattle.scene.specs.declared.scene.RouteLine.{RouteLine}
use Rattle.parameter.specs.declared.parameter.Parameter.{Parameter}
use Rattle.parameter.specs.Parameter.{parameter_new}
use Rattle.mixer.specs.Mixer.{empty_parameter}
use Rattle.accepted.specs.Lines.{absent_route_line}
use Rattle.mixer.proofs.mixer.new_routes.Given as goal

abbrev pub made : List RouteLine → ℕ → Parameter → Parameter
made lines r x = parameter_new (get_or lines r absent_route_line).volume

abbrev pub invariant-loop-r : goal.invariant-loop-r
invariant-loop-r l = l.routes ≡ changed (made l.scene.routes) l.r (replicate route_lines empty_parameter)
