-- Which of a block's orders count, and the tweens that they name (order lines stand for kira's command readers).
use Rattle.std.specs.Prelude.{Bool, false, cond, not, ◌&&◌, List, ℕ, ◌+◌, ◌*◌, eqb, ltb, get_or, set, replicate}
use Rattle.limits.specs.Limits.{route_lines}
use Rattle.laws.specs.Loop.{upto}
use Rattle.tween.specs.declared.start_time.StartTime.TheVariants.{Immediate}
use Rattle.tween.specs.declared.tween.Tween.{Tween}
use Rattle.scene.specs.declared.scene.OrderLine.{OrderLine}
use Rattle.scene.specs.declared.scene.OrderKind.{OrderKind}
use Rattle.scene.specs.declared.scene.OrderKind.TheVariants.{MainVolume, TrackVolume, SendVolume, RouteVolume, Pause, Resume}
use Rattle.accepted.specs.Lines.{absent_order_line}

-- ---- which orders count: of a block's orders alike in kind and index only the last, and of pauses and resumes for a track no resume whose line stands
-- before the last pause line. Starts and lengths are not looked at.

unfoldable pub kind_number : OrderKind → ℕ
kind_number MainVolume = 0
kind_number TrackVolume = 1
kind_number SendVolume = 2
kind_number RouteVolume = 3
kind_number Pause = 4
kind_number Resume = 5

-- the other order is of this kind, and for the block and index of the order
unfoldable pub is_kind_for : OrderKind → OrderLine → OrderLine → Bool
is_kind_for kind order other =
    eqb other.block order.block && (eqb (kind_number other.kind) (kind_number kind) && eqb other.index order.index)

-- whether line j stands after line i, where its order is such a one; else what was found on the lines before it
unfoldable pub found_after : OrderKind → OrderLine → OrderLine → ℕ → ℕ → Bool → Bool
found_after kind order other i j found = cond (is_kind_for kind order other) (ltb i j) found

-- the last line of this kind, for the block and index of the order on line i, stands after line i
unfoldable pub last_is_after : List OrderLine → ℕ → OrderKind → ℕ → Bool
last_is_after orders count kind i = upto (λ j found. found_after kind (get_or orders i absent_order_line) (get_or orders j absent_order_line) i j found) count false

-- a resume is dropped where the last pause line stands after it
unfoldable pub dropped : List OrderLine → ℕ → ℕ → Bool
dropped orders count i = eqb (kind_number (get_or orders i absent_order_line).kind) (kind_number Resume) && last_is_after orders count Pause i

unfoldable pub counts : List OrderLine → ℕ → ℕ → ℕ → Bool
counts orders count block i =
    eqb (get_or orders i absent_order_line).block block && (not (last_is_after orders count (get_or orders i absent_order_line).kind i) && not (dropped orders count i))

-- ---- the same by marks, made once for a block

-- indices are lines of a table: at most route_lines
abbrev pub keys : ℕ
keys = route_lines + 1

abbrev pub marks_size : ℕ
marks_size = 6 * keys

unfoldable pub key : OrderKind → ℕ → ℕ
key kind index = kind_number kind * keys + index

-- the last line, counted from 1, of each kind and index in a block; 0 where there is none
unfoldable pub mark_line : List OrderLine → ℕ → ℕ → List ℕ → List ℕ
mark_line orders block i marks = let o = get_or orders i absent_order_line in cond (eqb o.block block) (set marks (key o.kind o.index) (i + 1)) marks

unfoldable pub last_lines : List OrderLine → ℕ → ℕ → List ℕ
last_lines orders count block = upto (mark_line orders block) count (replicate marks_size 0)

-- whether line i counts, by them
unfoldable pub counts_by : List ℕ → OrderLine → ℕ → Bool
counts_by marks o i =
    not (ltb (i + 1) (get_or marks (key o.kind o.index) 0))
    && not (eqb (kind_number o.kind) (kind_number Resume) && ltb (i + 1) (get_or marks (key Pause o.index) 0))

-- ---- what an order does. A line number counts from 1

unfoldable pub tween_of : OrderLine → Tween
tween_of o = record { start_time = o.start_time; duration = o.millis; easing = o.easing }

-- for a resume the start belongs to the resume, and its fade's own start is immediate
unfoldable pub resume_tween_of : OrderLine → Tween
resume_tween_of o = record { start_time = Immediate; duration = o.millis; easing = o.easing }
