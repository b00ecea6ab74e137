-- `mixer::new_tracks` meets its contract. The invariant: the lines below t are made. Assumes nothing.
use lib.ListN.{replicate}
use Rattle.limits.specs.Limits.{track_places}
use Rattle.laws.proofs.laws.Turns.{turned}
use Rattle.mixer.specs.Mixer.{absent_track, empty_track}
use Rattle.mixer.proofs.mixer.new_tracks.Invariants.{made}
use Rattle.mixer.proofs.mixer.new_tracks.Goals as goal

pub loop-t-preserved : goal.loop-t-preserved
loop-t-preserved c = turned (made c.args.scene.now.tracks) (replicate track_places empty_track) absent_track c.loop-t.t c.new.ensures c.loop-t.invariant
