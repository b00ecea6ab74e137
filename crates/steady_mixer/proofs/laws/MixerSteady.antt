-- What goes on in a mixer that stands still: its clocks, and how far its sounds have played. Assumes nothing.
use mathlib.Core.List.{List}
use Prim.Native.Nat.{ℕ}
use Rattle.clock.specs.declared.when_to_start.Clocks.{Clocks}
use Rattle.mixer.specs.declared.mixer.Mixer.{Mixer}

unfoldable pub after_run : Clocks → List ℕ → Mixer → Mixer
after_run clocks played m =
    record {
      clocks = clocks;
      main_volume = m.main_volume;
      tracks = m.tracks;
      sends = m.sends;
      routes = m.routes;
      played = played;
    }
