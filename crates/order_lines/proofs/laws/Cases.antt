-- Which lines count, computed on small tables of pauses and resumes for one block and track. Assumes nothing.
use mathlib.Core.Path.{◌≡◌, refl}
use mathlib.Core.Bool.{Bool, true, false}
use mathlib.Core.List.{List, [], ◌∷◌, map}
use Prim.Native.Nat.{ℕ, zero, suc}
use lib.ListN.{length}
use Rattle.laws.specs.Loop.{upto}
use Rattle.scene.specs.declared.scene.OrderLine.{OrderLine}
use Rattle.scene.specs.declared.scene.OrderKind.{OrderKind}
use Rattle.scene.specs.declared.scene.OrderKind.TheVariants.{Pause, Resume}
use Rattle.accepted.specs.Lines.{absent_order_line}
use Rattle.order_lines.specs.Orders.{kind_number, is_kind_for, found_after, last_is_after, dropped, counts}

abbrev of_kind : OrderKind → OrderLine
of_kind kind =
    let o = absent_order_line in
    record { block = o.block; kind = kind; index = o.index; target = o.target; start_time = o.start_time; millis = o.millis; easing = o.easing }

abbrev counted_from : List OrderLine → ℕ → ℕ → List Bool
counted_from orders zero i = []
counted_from orders (suc n) i = counts orders (length orders) 0 i ∷ counted_from orders n (suc i)

abbrev counted : List OrderKind → List Bool
counted kinds = counted_from (map of_kind kinds) (length kinds) 0

pub cases : (counted (Pause ∷ Resume ∷ []) ≡ true ∷ true ∷ []) × (counted (Resume ∷ Pause ∷ []) ≡ false ∷ true ∷ [])
    × (counted (Pause ∷ Resume ∷ Pause ∷ []) ≡ false ∷ false ∷ true ∷ []) × (counted (Resume ∷ Pause ∷ Resume ∷ []) ≡ false ∷ true ∷ true ∷ [])
    × (counted (Resume ∷ Resume ∷ Pause ∷ []) ≡ false ∷ false ∷ true ∷ [])
unfolding counts dropped last_is_after found_after is_kind_for kind_number upto
cases = (refl, refl, refl, refl, refl)
