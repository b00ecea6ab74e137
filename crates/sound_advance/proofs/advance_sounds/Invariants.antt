use Rattle.std.proofs.Common.{◌≡◌, get_or}
use Rattle.laws.specs.Loop.{changed}
use Rattle.accepted.specs.Lines.{absent_sound_line}
use Rattle.mixer.specs.Sounds.{played_after}
use Rattle.sound_advance.proofs.advance_sounds.Given as goal

abbrev pub invariant-loop-k : goal.invariant-loop-k
invariant-loop-k l = l.played ≡ changed (λ k done. played_after l.tracks (get_or l.lines k absent_sound_line) l.frames done) l.k l.initial.played
