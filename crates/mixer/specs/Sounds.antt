-- Sounds, ours: how many frames each has played.
use Rattle.std.specs.Prelude.{Bool, cond, List, ℕ, ◌+◌, ◌-◌, ltb, get_or}
use Rattle.laws.specs.Loop.{changed}
use Rattle.scene.specs.declared.scene.Scene.{Scene}
use Rattle.scene.specs.declared.scene.SoundLine.{SoundLine}
use Rattle.mixer.specs.declared.sub.Track.{Track}
use Rattle.mixer.specs.declared.mixer.Mixer.{Mixer}
use Rattle.mixer.specs.Mixer.{mixer_of, live_above}
use Rattle.accepted.specs.Lines.{absent_sound_line}

-- n frames more, and its count at most
unfoldable pub played_more : SoundLine → ℕ → ℕ → ℕ
played_more line n done = cond (ltb (line.count - done) n) line.count (done + n)

-- the sounds of the main track and of live tracks have played n frames more
-- given whether its track is live
abbrev pub played_where : Bool → SoundLine → ℕ → ℕ → ℕ
played_where live line n done = cond live (played_more line n done) done

unfoldable pub played_after : List Track → SoundLine → ℕ → ℕ → ℕ
played_after tracks line n done = played_where (live_above tracks line.track) line n done

unfoldable pub played_on : List SoundLine → ℕ → List Track → ℕ → List ℕ → List ℕ
played_on lines count tracks n played = changed (λ k done. played_after tracks (get_or lines k absent_sound_line) n done) count played

unfoldable pub sounds_played : Scene → ℕ → Mixer → Mixer
sounds_played s n m =
    mixer_of m.clocks m.main_volume m.tracks m.sends m.routes (played_on s.sounds s.sound_count m.tracks n m.played)
