-- How many lines, tracks and frames there can be. A scene's tables have at most so many lines:
use Rattle.std.specs.Prelude.{ℕ}

abbrev pub clock_lines : ℕ
clock_lines = 8

abbrev pub track_lines : ℕ
track_lines = 32

abbrev pub send_lines : ℕ
send_lines = 8

abbrev pub route_lines : ℕ
route_lines = 64

abbrev pub sound_lines : ℕ
sound_lines = 64

abbrev pub listener_lines : ℕ
listener_lines = 1

abbrev pub placing_lines : ℕ
placing_lines = 32

abbrev pub order_lines : ℕ
order_lines = 128

-- tracks that a mixer has room for at once
abbrev pub track_places : ℕ
track_places = 32

-- how deep tracks can stand below the mixer
abbrev pub track_depth : ℕ
track_depth = 4

-- frames of a chunk
abbrev pub chunk_frames_most : ℕ
chunk_frames_most = 256

-- bytes of a scene file
abbrev pub file_bytes : ℕ
file_bytes = 16384

-- frames of a block
abbrev pub block_frames_most : ℕ
block_frames_most = 512

-- blocks of a show
abbrev pub blocks_most : ℕ
blocks_most = 1024

-- channels of the output
abbrev pub channels_most : ℕ
channels_most = 8

-- frames a second
abbrev pub rate_most : ℕ
rate_most = 192000
