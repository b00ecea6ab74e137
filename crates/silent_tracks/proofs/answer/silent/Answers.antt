-- `silent` meets its contract. Assumes nothing.
use Rattle.silent_tracks.proofs.laws.Answer.{refused_number, refused_unwritten, well_sized, well_spelled, answered_last, written_last}
use Rattle.silent_tracks.proofs.answer.silent.Goals as goal

pub returns-then-read-ne0 : goal.returns-then-read-ne0
returns-then-read-ne0 c =
    let read = c.read_input-read.ensures in
    record { number = refused_number _ _ c.args.tracks.now _ read c.if-read-ne0.true; tracks = refused_unwritten _ _ c.args.tracks.now _ read c.if-read-ne0.true }

pub answer_tracks-requires : goal.answer_tracks-requires
answer_tracks-requires c =
    let read = c.read_input-read.ensures in
    let passed = c.if-read-ne0.false in
    record { size_ok = well_sized _ _ c.args.tracks.now _ read passed; spelling_ok = well_spelled _ _ c.args.tracks.now _ read passed }

pub returns : goal.returns
returns c =
    let read = c.read_input-read.ensures in
    let passed = c.if-read-ne0.false in
    record { number = answered_last _ _ c.args.tracks.now _ read passed _ c.answer_tracks.ensures.number; tracks = written_last _ _ c.args.tracks.now _ read passed _ c.answer_tracks.ensures.numbers }
