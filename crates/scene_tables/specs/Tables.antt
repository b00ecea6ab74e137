-- THE LIST OF TABLES of a scene file: for each table its names line, how many value lines it may have, and each field's rule.
-- A new table or field is a row here and in src/tables.rt, which has the same list for the code; its column gets a name below
-- and in src/column.rt.
use Rattle.std.specs.Prelude.{List, [], ◌∷◌, ℕ, ◌+◌, ◌-◌, length, get_or}
use Prim.Native.String.{String}
use Rattle.limits.specs.Limits.{clock_lines, track_lines, send_lines, route_lines, sound_lines, listener_lines, placing_lines, order_lines}
use Rattle.scene_tables.specs.declared.tables.Field.{Field}
use Rattle.scene_tables.specs.declared.tables.Field.TheVariants.{Number, Line, Earlier, Index}
use Rattle.scene_tables.specs.declared.tables.LineRule.{LineRule}
use Rattle.scene_tables.specs.declared.tables.LineRule.TheVariants.{Plain, Speed, Apart, Order}

-- A number of the file is kept as a natural number, raised by 2^31: `plus 3` stands for 3 and `minus 3` for -3, so that the
-- numbers from -2147483648 to 2147483647 are 0 to 2^32 - 1 in their order.
abbrev pub raised : ℕ → ℕ
raised n = 2147483648 + n

abbrev pub raised_minus : ℕ → ℕ
raised_minus n = 2147483648 - n

-- the number that a raised one stands for, where that is not below 0
abbrev pub natural : ℕ → ℕ
natural z = z - 2147483648

-- The rule of a field: `Number a b` is a number from a to b, both included; `Line k a` is a line number of table k, from a on
-- (0 where 0 stands for something else, as the main track does); `Earlier` is 0 or the number of an earlier line of the same table;
-- `Index` is an order's index, whose table goes by the order's kind.
-- The rule of a line as a whole: `Speed`, `Apart` and `Order` have one of their own, stated in Questions.antt.
pub record Table : Type 0 where
  pub names : String
  pub least : ℕ
  pub most : ℕ
  pub fields : List Field
  pub rule : LineRule

abbrev pub table : String → ℕ → ℕ → LineRule → List Field → Table
table names least most rule fields = record { names = names; least = least; most = most; fields = fields; rule = rule }

-- how many fields a table has
abbrev pub width : Table → ℕ
width t = length t.fields

-- which table is which
abbrev pub head : ℕ
head = 0

abbrev pub clocks : ℕ
clocks = 1

abbrev pub tracks : ℕ
tracks = 2

abbrev pub sends : ℕ
sends = 3

abbrev pub routes : ℕ
routes = 4

abbrev pub sounds : ℕ
sounds = 5

abbrev pub listener : ℕ
listener = 6

abbrev pub placings : ℕ
placings = 7

abbrev pub orders : ℕ
orders = 8

-- thousandths of a decibel
abbrev pub volume : Field
volume = Number (raised_minus 96000) (raised 18000)

abbrev pub within : ℕ → ℕ → Field
within a b = Number (raised a) (raised b)

-- thousandths of the unit of length
abbrev pub coordinate : Field
coordinate = Number (raised_minus 1000000) (raised 1000000)

abbrev pub tables : List Table
tables =
    table "rate channels buffer block blocks volume" 1 1 Plain
    (within 8000 192000 ∷ within 1 8 ∷ within 1 256 ∷ within 1 512 ∷ within 1 1024 ∷ volume ∷ [])
    ∷ table "unit speed ticking" 0 clock_lines Speed (within 0 2 ∷ within 1 60000000 ∷ within 0 1 ∷ [])
    ∷ table "parent volume" 0 track_lines Plain (Earlier ∷ volume ∷ [])
    ∷ table "volume" 0 send_lines Plain (volume ∷ [])
    ∷ table "track send volume" 0 route_lines Plain (Line tracks (raised 1) ∷ Line sends (raised 1) ∷ volume ∷ [])
    ∷ table "track first count from" 0 sound_lines Plain (Line tracks (raised 0) ∷ within 0 2147483647 ∷ within 0 2147483647 ∷ within 0 1 ∷ [])
    ∷ table "x y z" 0 listener_lines Plain (coordinate ∷ coordinate ∷ coordinate ∷ [])
    ∷ table "track x y z near far" 0 placing_lines Apart
    (Line tracks (raised 1) ∷ coordinate ∷ coordinate ∷ coordinate ∷ within 0 1000000 ∷ within 0 1000000 ∷ [])
    ∷ table "block kind index volume clock when part millis easing power" 0 order_lines Order
    (within 0 1023
    ∷ within 0 5
    ∷ Index
    ∷ volume
    ∷ Line clocks (raised 0)
    ∷ within 0 3600000
    ∷ within 0 999
    ∷ within 0 3600000
    ∷ within 0 3
    ∷ within 0 8
    ∷ [])
    ∷ []

-- beyond the list
abbrev pub no_table : Table
no_table = table "" 0 0 Plain []

abbrev pub no_field : Field
no_field = Number 0 0

abbrev pub table_at : ℕ → Table
table_at t = get_or tables t no_table

-- Which column of a table is which, counted from 0.
abbrev pub head_column : record { rate : ℕ; channels : ℕ; buffer : ℕ; block : ℕ; blocks : ℕ; volume : ℕ }
head_column = record { rate = 0; channels = 1; buffer = 2; block = 3; blocks = 4; volume = 5 }

abbrev pub clock_column : record { unit : ℕ; speed : ℕ; ticking : ℕ }
clock_column = record { unit = 0; speed = 1; ticking = 2 }

abbrev pub track_column : record { parent : ℕ; volume : ℕ }
track_column = record { parent = 0; volume = 1 }

abbrev pub send_column : record { volume : ℕ }
send_column = record { volume = 0 }

abbrev pub route_column : record { track : ℕ; send : ℕ; volume : ℕ }
route_column = record { track = 0; send = 1; volume = 2 }

abbrev pub sound_column : record { track : ℕ; first : ℕ; count : ℕ; from : ℕ }
sound_column = record { track = 0; first = 1; count = 2; from = 3 }

abbrev pub listener_column : record { x : ℕ; y : ℕ; z : ℕ }
listener_column = record { x = 0; y = 1; z = 2 }

abbrev pub placing_column : record { track : ℕ; x : ℕ; y : ℕ; z : ℕ; near : ℕ; far : ℕ }
placing_column = record { track = 0; x = 1; y = 2; z = 3; near = 4; far = 5 }

abbrev pub order_column : record { block : ℕ; kind : ℕ; index : ℕ; volume : ℕ; clock : ℕ; when : ℕ; part : ℕ; millis : ℕ; easing : ℕ; power : ℕ }
order_column = record { block = 0; kind = 1; index = 2; volume = 3; clock = 4; when = 5; part = 6; millis = 7; easing = 8; power = 9 }

-- the kinds of orders, raised like every number of a table
abbrev pub order_kind : record { main_volume : ℕ; track_volume : ℕ; send_volume : ℕ; route_volume : ℕ; pause : ℕ; resume : ℕ }
order_kind = record { main_volume = raised 0; track_volume = raised 1; send_volume = raised 2; route_volume = raised 3; pause = raised 4; resume = raised 5 }
