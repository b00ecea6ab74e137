-- Worked examples, as rows of one list in the order in which the customer's papers have them: what the definitions give, and what the papers say. Rate 8192,
-- buffer 128, so that a chunk is 1/64 second. Chunks are counted from 1 in the comments, as in the papers, and from 0 in the definitions.
use Rattle.std.specs.Prelude.{◌≡◌, Bool, true, cond, ◌&&◌, List, [], ◌∷◌, map, ℕ, suc, eqb, pos, get_or, replicate, Float}
use Rattle.std.specs.Float.{nan, binary32, binary64}
use Rattle.std.specs.Float.Ieee.{of_int, of_bits, to_bits}
use Rattle.recordings.specs.Recordings.{Recordings, recordings}
use Rattle.laws.specs.Float.{whole}
use Rattle.laws.specs.Loop.{upto}
use Rattle.laws.specs.Count.{counted}
use Rattle.decibels.specs.declared.decibels.Decibels.{Decibels}
use Rattle.decibels.specs.Decibels.{silence, amplitude}
use Rattle.clock.specs.declared.clock_speed.ClockSpeed.TheVariants.{TicksPerSecond}
use Rattle.clock.specs.declared.clock.Clock.{Clock}
use Rattle.clock.specs.declared.when_to_start.Clocks.{Clocks}
use Rattle.clock.specs.Clock.{new_clock, ticks_of, fraction_of, updated}
use Rattle.clock.specs.ChunkTime.{chunk_time}
use Rattle.tween.specs.declared.start_time.StartTime.{StartTime}
use Rattle.tween.specs.declared.start_time.StartTime.TheVariants.{Immediate, Delayed}
use Rattle.tween.specs.declared.tween.Easing.{Easing}
use Rattle.tween.specs.declared.tween.Easing.TheVariants.{Linear, InPowi, OutPowi, InOutPowi}
use Rattle.tween.specs.declared.tween.Tween.{Tween}
use Rattle.tween.specs.Tween.{easing_apply}
use Rattle.parameter.specs.Parameter.{parameter_new, parameter_set, parameter_update}
use Rattle.playback.specs.declared.playback_state_manager.PlaybackState.{PlaybackState}
use Rattle.playback.specs.declared.playback_state_manager.PlaybackState.TheVariants.{Playing, Pausing, Paused, WaitingToResume, Resuming, Stopping, Stopped}
use Rattle.playback.specs.declared.playback_state_manager.PlaybackStateManager.{PlaybackStateManager}
use Rattle.playback.specs.PlaybackStateManager.{playback_new, playback_pause, playback_resume, playback_update}
use Rattle.spatial.specs.Spatial.{attenuation}
use Rattle.scene.specs.declared.scene.Scene.{Scene}
use Rattle.scene.specs.Scene.{listener_of, position_of, distances_of, scene_of}
use Rattle.frame.specs.declared.frame.Frame.{Frame}
use Rattle.frame.specs.Frame.{clamped}
use Rattle.chunk.specs.declared.chunk.Chunk.{Chunk}
use Rattle.track.specs.Mix.{mixed_frame}
use Rattle.renderer.specs.Renderer.{mixer_at, chunk_in, channels_of}
use Rattle.scene_tables.specs.Tables.{raised}

-- a number, or the bits of a float: as the definitions give it, and as the papers say it
pub record Row : Type 0 where
  pub given : ℕ
  pub said : ℕ

-- every row's two numbers are the same
abbrev pub Agree : List Row → Type 0
Agree [] = Unit {0}
Agree (r ∷ rows) = (r.given ≡ r.said) × Agree rows

-- ---- decibels and easings

-- an f32's bits to those of its amplitude
abbrev pub amplitude_bits : ℕ → ℕ
amplitude_bits b = to_bits binary32 (amplitude (of_bits binary32 b))

-- an f64's bits to those of an easing of it
abbrev pub eased_bits : Easing → ℕ → ℕ
eased_bits easing b = to_bits binary64 (easing_apply easing (of_bits binary64 b))

-- ---- a fade and a volume, chunk by chunk

-- a chunk's seconds
abbrev pub step : Float
step = chunk_time 8192 128

abbrev pub no_clocks : Clocks
no_clocks = record { clocks = []; count = 0 }

-- a linear motion of so many milliseconds
abbrev pub linear : StartTime → ℕ → Tween
linear start millis = record { start_time = start; duration = millis; easing = Linear }

-- 125 ms
abbrev pub delay : StartTime
delay = Delayed 125000000

-- after chunk n
abbrev pub after : ℕ → PlaybackStateManager → PlaybackStateManager
after n m = upto (λ i x. (playback_update x step no_clocks).manager) n m

abbrev pub fade_bits : PlaybackStateManager → ℕ
fade_bits m = to_bits binary32 m.volume_fade.raw_value.0

-- a number for each state, in kira's order
unfoldable pub state_number : PlaybackState → ℕ
state_number Playing = 0
state_number Pausing = 1
state_number Paused = 2
state_number (WaitingToResume start tween) = 3
state_number Resuming = 4
state_number Stopping = 5
state_number Stopped = 6

-- a linear pause over 125 ms
abbrev pub pausing : PlaybackStateManager
pausing = playback_pause playback_new (linear Immediate 125)

-- a paused track, whose resume is delayed 125 ms
abbrev pub resuming : PlaybackStateManager
resuming = playback_resume (after 1 (playback_pause playback_new (linear Immediate 0))) delay (linear Immediate 125)

abbrev pub level : Float → Decibels
level x = record { 0 = x }

-- a volume ordered from 0 dB to -60, delayed 125 ms: its value after chunk n
abbrev pub value_after : ℕ → ℕ
value_after n = to_bits binary32 (upto (λ i p. (parameter_update p step no_clocks).parameter) n (parameter_set (parameter_new (level (whole 0))) (level silence) (linear delay 125))).raw_value.0

-- ---- a whole scene

abbrev pub row : List ℕ → List ℕ
row = map raised

-- one track with two sounds, of 1,536 and of 300 frames, all 0.5, in blocks of one chunk each
abbrev pub with_tables : List (List ℕ) → List (List ℕ) → List (List ℕ) → Scene
with_tables listeners placings orders =
    scene_of ((row (8192 ∷ 2 ∷ 128 ∷ 128 ∷ 10 ∷ 0 ∷ []) ∷ []) ∷ [] ∷ (row (0 ∷ 0 ∷ []) ∷ []) ∷ [] ∷ [] ∷ (row (1 ∷ 0 ∷ 1536 ∷ 0 ∷ []) ∷ row (1 ∷ 100 ∷ 300 ∷ 0 ∷ []) ∷ []) ∷ listeners ∷ placings ∷ orders ∷ [])

abbrev pub with_orders : List (List ℕ) → Scene
with_orders = with_tables [] []

-- the track 5 metres from the room's middle, and a listener there
abbrev pub five_away : ℕ → ℕ → List ℕ
five_away near far = row (1 ∷ 3000 ∷ 4000 ∷ 0 ∷ near ∷ far ∷ [])

abbrev pub middle : List ℕ
middle = row (0 ∷ 0 ∷ 0 ∷ [])

abbrev pub level_bits : List ℕ → ℕ
level_bits line = to_bits binary32 (attenuation (listener_of middle) (position_of line) (distances_of line)).0

abbrev pub heard_scene : List ℕ → Scene
heard_scene line = with_tables (middle ∷ []) (line ∷ []) []

-- nobody listens
abbrev pub unheard_scene : Scene
unheard_scene = with_tables [] (five_away 0 10000 ∷ []) []

-- a linear pause over 125 ms
abbrev pub paused_scene : Scene
paused_scene = with_orders (row (0 ∷ 4 ∷ 1 ∷ 0 ∷ 0 ∷ 0 ∷ 0 ∷ 125 ∷ 0 ∷ 0 ∷ []) ∷ [])

-- paused at once in block 0, and resumed in block 1 with a delay of 125 ms
abbrev pub resumed_scene : Scene
resumed_scene = with_orders (row (0 ∷ 4 ∷ 1 ∷ 0 ∷ 0 ∷ 0 ∷ 0 ∷ 0 ∷ 0 ∷ 0 ∷ []) ∷ row (1 ∷ 5 ∷ 1 ∷ 0 ∷ 0 ∷ 125 ∷ 0 ∷ 125 ∷ 0 ∷ 0 ∷ []) ∷ [])

abbrev pub samples : Recordings
samples = recordings (replicate 3072 (of_bits binary32 0x3f00_0000)) []

abbrev pub zero_bits : Float → Bool
zero_bits x = eqb (to_bits binary32 x) 0

-- how many frames of a chunk of 128 are zero
unfoldable pub zeros_of : Chunk → ℕ
zeros_of c = upto (λ i n. let a = mixed_frame c samples i in cond (zero_bits a.left && zero_bits a.right) (suc n) n) 128 0

-- of block b, which is one chunk
unfoldable pub zero_frames : Scene → ℕ → ℕ
zero_frames s b = zeros_of (chunk_in s b 0)

-- how many frames sound k has played before block b
abbrev pub played_before : Scene → ℕ → ℕ → ℕ
played_before s b k = get_or (mixer_at s b).played k 0

-- ---- clocks and channels

-- a clock at 2 ticks per second in chunk n: clocks move first
abbrev pub clock_in : ℕ → Clock
clock_in n = upto (λ i c. updated c step) n (new_clock (TicksPerSecond (whole 2)) true)

abbrev pub loud : Frame
loud = record { left = of_int binary32 (pos 2); right = of_int binary32 (pos 0) }

-- what channel c of so many gets of a frame of 2.0 and 0.0
abbrev pub channel_bits : ℕ → ℕ → ℕ
channel_bits channels c = to_bits binary32 (get_or (channels_of channels (clamped loud)) c nan)

unfoldable pub rows : List Row
rows =
    -- -0.0 dB is 1.0
    record { given = amplitude_bits 0x8000_0000; said = 0x3f80_0000 }
    -- -60 dB is 0.0
    ∷ record { given = amplitude_bits 0xc270_0000; said = 0 }
    -- `InPowi(2)` at 0.5 is 0.25
    ∷ record { given = eased_bits (InPowi 2) 0x3fe0_0000_0000_0000; said = 0x3fd0_0000_0000_0000 }
    -- `OutPowi(2)` at 0.5 is 0.75
    ∷ record { given = eased_bits (OutPowi 2) 0x3fe0_0000_0000_0000; said = 0x3fe8_0000_0000_0000 }
    -- `InOutPowi(2)` at 0.25 is 0.125
    ∷ record { given = eased_bits (InOutPowi 2) 0x3fd0_0000_0000_0000; said = 0x3fc0_0000_0000_0000 }
    -- `InOutPowi(2)` at 0.75 is 0.875
    ∷ record { given = eased_bits (InOutPowi 2) 0x3fe8_0000_0000_0000; said = 0x3fec_0000_0000_0000 }
    -- a linear pause over 125 ms: after chunk 1 the fade is -7.5 dB
    ∷ record { given = fade_bits (after 1 pausing); said = 0xc0f0_0000 }
    -- after chunk 7 it is -52.5 dB, and the track is `Pausing`
    ∷ record { given = fade_bits (after 7 pausing); said = 0xc252_0000 }
    ∷ record { given = state_number (after 7 pausing).state; said = 1 }
    -- in chunk 8 it is `Paused`, and all of the chunk's 128 frames are zero
    ∷ record { given = state_number (after 8 pausing).state; said = 2 }
    ∷ record { given = zero_frames paused_scene 7; said = 128 }
    -- without the pause none is
    ∷ record { given = zero_frames (with_orders []) 7; said = 0 }
    -- a paused track's resume delayed 125 ms: still waiting in chunk 7, `Resuming` in chunk 8
    ∷ record { given = state_number (after 7 resuming).state; said = 3 }
    ∷ record { given = state_number (after 8 resuming).state; said = 4 }
    -- after each of chunks 1 to 8 the fade is -60 dB
    ∷ record { given = counted (λ n. eqb (fade_bits (after (suc n) resuming)) 0xc270_0000) 8; said = 8 }
    -- after chunk 9 it is -52.5 dB
    ∷ record { given = fade_bits (after 9 resuming); said = 0xc252_0000 }
    -- chunk 8 has used up 128 frames of each sound
    ∷ record { given = played_before resumed_scene 8 0; said = 0 }
    ∷ record { given = played_before resumed_scene 8 1; said = 0 }
    ∷ record { given = played_before resumed_scene 9 0; said = 128 }
    ∷ record { given = played_before resumed_scene 9 1; said = 128 }
    -- a volume order delayed 125 ms: after each of chunks 1 to 8 the value is 0 dB
    ∷ record { given = counted (λ n. eqb (value_after (suc n)) 0) 8; said = 8 }
    -- after chunk 9 it is -7.5 dB
    ∷ record { given = value_after 9; said = 0xc0f0_0000 }
    -- a clock at 2 ticks per second stands at tick 1, fraction 0, in chunk 32
    ∷ record { given = ticks_of (clock_in 32).state; said = 1 }
    ∷ record { given = to_bits binary64 (fraction_of (clock_in 32).state); said = 0 }
    -- left 2.0, right 0.0: one channel gives 0.5
    ∷ record { given = channel_bits 1 0; said = 0x3f00_0000 }
    -- three give 1.0, 0.0, 0.0
    ∷ record { given = channel_bits 3 0; said = 0x3f80_0000 }
    ∷ record { given = channel_bits 3 1; said = 0 }
    ∷ record { given = channel_bits 3 2; said = 0 }
    -- a placed track as near to the listener as `near` is at 0 dB, and no frame of chunk 1 is zero
    ∷ record { given = level_bits (five_away 5000 9000); said = 0 }
    ∷ record { given = zero_frames (heard_scene (five_away 5000 9000)) 0; said = 0 }
    -- halfway from `near` to `far` it is at -30 dB
    ∷ record { given = level_bits (five_away 0 10000); said = 0xc1f0_0000 }
    -- as far as `far` it is at -60 dB, and all of the chunk's 128 frames are zero
    ∷ record { given = level_bits (five_away 1000 5000); said = 0xc270_0000 }
    ∷ record { given = zero_frames (heard_scene (five_away 1000 5000)) 0; said = 128 }
    -- without a listener they are too, and the sounds are used up
    ∷ record { given = zero_frames unheard_scene 0; said = 128 }
    ∷ record { given = played_before unheard_scene 1 0; said = 128 }
    ∷ []
