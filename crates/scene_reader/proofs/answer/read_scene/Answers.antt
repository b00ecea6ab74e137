-- `read_scene` meets its contract: question 10 is asked after the nine before it, of the head. Assumes nothing.
use Rattle.scene_reader.proofs.laws.Length.{refused_before, scene_ok, accepted_10, refused_10}
use Rattle.scene_reader.proofs.answer.read_scene.Goals as goal

pub returns-then-answer-ne0 : goal.returns-then-answer-ne0
returns-then-answer-ne0 c = refused_before _ _ _ c.read_input-answer.ensures _ c.if-answer-ne0.true

pub output_length-requires : goal.output_length-requires
output_length-requires c =
    let read = c.read_input-answer.ensures in
    let passed = c.if-answer-ne0.false in
    let ok = scene_ok _ _ _ read passed in
    record { block_in_range = ok.block.1; blocks_in_range = ok.blocks.1; channels_in_range = ok.channels.1 }

pub returns-then-output-output_length : goal.returns-then-output-output_length
returns-then-output-output_length c = accepted_10 _ _ _ c.read_input-answer.ensures c.if-answer-ne0.false _ _ c.output_length.ensures c.if-output-output_length.true

pub returns : goal.returns
returns c = refused_10 _ _ _ c.read_input-answer.ensures c.if-answer-ne0.false _ _ c.output_length.ensures c.if-output-output_length.false _ c.refused.ensures
