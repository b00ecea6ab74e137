-- `ask_tables` meets its contract: each question is asked of the places, after those before it said yes. Assumes nothing.
use Rattle.scene_reader.specs.declared.answer.Question.TheVariants.{Lines, Ranges, References, Depths, Twice, Sounds, Samples}
use Rattle.scene_reader.proofs.laws.Answer.{by_blocks, by_places, said_yes, said_no, said_last, residual, at_places}
use Rattle.scene_reader.proofs.answer.ask_tables.Goals as goal

pub returns-in_err-ask : goal.returns-in_err-ask
unfolding by_places
returns-in_err-ask c = at_places _ _ _ _ _ _ (said_no Lines c.counts_fit.ensures c.ask.ensures c.in_err-ask.was (residual _ _ c.from_residual.ensures.1))

pub returns-in_err-ask-2 : goal.returns-in_err-ask-2
unfolding by_places
returns-in_err-ask-2 c = at_places _ _ _ _ _ _ (said_yes Lines c.counts_fit.ensures c.ask.ensures c.in_ok-ask.was (said_no Ranges (by_blocks _ _ _ _ _ _ c.blocks_of-blocks.ensures c.tables_pass.ensures) c.ask-2.ensures c.in_err-ask-2.was (residual _ _ c.from_residual-in_err-ask-2.ensures.1)))

pub returns-in_err-ask-3 : goal.returns-in_err-ask-3
unfolding by_places
returns-in_err-ask-3 c = at_places _ _ _ _ _ _ (said_yes Lines c.counts_fit.ensures c.ask.ensures c.in_ok-ask.was (said_yes Ranges (by_blocks _ _ _ _ _ _ c.blocks_of-blocks.ensures c.tables_pass.ensures) c.ask-2.ensures c.in_ok-ask-2.was (said_no References c.tables_pass-2.ensures c.ask-3.ensures c.in_err-ask-3.was (residual _ _ c.from_residual-in_err-ask-3.ensures.1))))

pub returns-in_err-ask-4 : goal.returns-in_err-ask-4
unfolding by_places
returns-in_err-ask-4 c = at_places _ _ _ _ _ _ (said_yes Lines c.counts_fit.ensures c.ask.ensures c.in_ok-ask.was (said_yes Ranges (by_blocks _ _ _ _ _ _ c.blocks_of-blocks.ensures c.tables_pass.ensures) c.ask-2.ensures c.in_ok-ask-2.was (said_yes References c.tables_pass-2.ensures c.ask-3.ensures c.in_ok-ask-3.was (said_no Depths c.depths_fit.ensures c.ask-4.ensures c.in_err-ask-4.was (residual _ _ c.from_residual-in_err-ask-4.ensures.1)))))

pub returns-in_err-ask-5 : goal.returns-in_err-ask-5
unfolding by_places
returns-in_err-ask-5 c = at_places _ _ _ _ _ _ (said_yes Lines c.counts_fit.ensures c.ask.ensures c.in_ok-ask.was (said_yes Ranges (by_blocks _ _ _ _ _ _ c.blocks_of-blocks.ensures c.tables_pass.ensures) c.ask-2.ensures c.in_ok-ask-2.was (said_yes References c.tables_pass-2.ensures c.ask-3.ensures c.in_ok-ask-3.was (said_yes Depths c.depths_fit.ensures c.ask-4.ensures c.in_ok-ask-4.was (said_no Twice c.routes_fit.ensures c.ask-5.ensures c.in_err-ask-5.was (residual _ _ c.from_residual-in_err-ask-5.ensures.1))))))

pub returns-in_err-ask-6 : goal.returns-in_err-ask-6
unfolding by_places
returns-in_err-ask-6 c = at_places _ _ _ _ _ _ (said_yes Lines c.counts_fit.ensures c.ask.ensures c.in_ok-ask.was (said_yes Ranges (by_blocks _ _ _ _ _ _ c.blocks_of-blocks.ensures c.tables_pass.ensures) c.ask-2.ensures c.in_ok-ask-2.was (said_yes References c.tables_pass-2.ensures c.ask-3.ensures c.in_ok-ask-3.was (said_yes Depths c.depths_fit.ensures c.ask-4.ensures c.in_ok-ask-4.was (said_yes Twice c.routes_fit.ensures c.ask-5.ensures c.in_ok-ask-5.was (said_no Twice c.placings_fit.ensures c.ask-6.ensures c.in_err-ask-6.was (residual _ _ c.from_residual-in_err-ask-6.ensures.1)))))))

pub returns-in_err-ask-7 : goal.returns-in_err-ask-7
unfolding by_places
returns-in_err-ask-7 c = at_places _ _ _ _ _ _ (said_yes Lines c.counts_fit.ensures c.ask.ensures c.in_ok-ask.was (said_yes Ranges (by_blocks _ _ _ _ _ _ c.blocks_of-blocks.ensures c.tables_pass.ensures) c.ask-2.ensures c.in_ok-ask-2.was (said_yes References c.tables_pass-2.ensures c.ask-3.ensures c.in_ok-ask-3.was (said_yes Depths c.depths_fit.ensures c.ask-4.ensures c.in_ok-ask-4.was (said_yes Twice c.routes_fit.ensures c.ask-5.ensures c.in_ok-ask-5.was (said_yes Twice c.placings_fit.ensures c.ask-6.ensures c.in_ok-ask-6.was (said_no Sounds c.sounds_pass.ensures c.ask-7.ensures c.in_err-ask-7.was (residual _ _ c.from_residual-in_err-ask-7.ensures.1))))))))

pub returns-in_err-ask-8 : goal.returns-in_err-ask-8
unfolding by_places
returns-in_err-ask-8 c = at_places _ _ _ _ _ _ (said_yes Lines c.counts_fit.ensures c.ask.ensures c.in_ok-ask.was (said_yes Ranges (by_blocks _ _ _ _ _ _ c.blocks_of-blocks.ensures c.tables_pass.ensures) c.ask-2.ensures c.in_ok-ask-2.was (said_yes References c.tables_pass-2.ensures c.ask-3.ensures c.in_ok-ask-3.was (said_yes Depths c.depths_fit.ensures c.ask-4.ensures c.in_ok-ask-4.was (said_yes Twice c.routes_fit.ensures c.ask-5.ensures c.in_ok-ask-5.was (said_yes Twice c.placings_fit.ensures c.ask-6.ensures c.in_ok-ask-6.was (said_yes Sounds c.sounds_pass.ensures c.ask-7.ensures c.in_ok-ask-7.was (said_no Sounds c.sounds_pass-2.ensures c.ask-8.ensures c.in_err-ask-8.was (residual _ _ c.from_residual-in_err-ask-8.ensures.1)))))))))

pub returns-in_err-ask-9 : goal.returns-in_err-ask-9
unfolding by_places
returns-in_err-ask-9 c = at_places _ _ _ _ _ _ (said_yes Lines c.counts_fit.ensures c.ask.ensures c.in_ok-ask.was (said_yes Ranges (by_blocks _ _ _ _ _ _ c.blocks_of-blocks.ensures c.tables_pass.ensures) c.ask-2.ensures c.in_ok-ask-2.was (said_yes References c.tables_pass-2.ensures c.ask-3.ensures c.in_ok-ask-3.was (said_yes Depths c.depths_fit.ensures c.ask-4.ensures c.in_ok-ask-4.was (said_yes Twice c.routes_fit.ensures c.ask-5.ensures c.in_ok-ask-5.was (said_yes Twice c.placings_fit.ensures c.ask-6.ensures c.in_ok-ask-6.was (said_yes Sounds c.sounds_pass.ensures c.ask-7.ensures c.in_ok-ask-7.was (said_yes Sounds c.sounds_pass-2.ensures c.ask-8.ensures c.in_ok-ask-8.was (said_no Samples c.samples_ok.ensures c.ask-9.ensures c.in_err-ask-9.was (residual _ _ c.from_residual-in_err-ask-9.ensures.1))))))))))

pub returns : goal.returns
unfolding by_places
returns c = at_places _ _ _ _ _ _ (said_yes Lines c.counts_fit.ensures c.ask.ensures c.in_ok-ask.was (said_yes Ranges (by_blocks _ _ _ _ _ _ c.blocks_of-blocks.ensures c.tables_pass.ensures) c.ask-2.ensures c.in_ok-ask-2.was (said_yes References c.tables_pass-2.ensures c.ask-3.ensures c.in_ok-ask-3.was (said_yes Depths c.depths_fit.ensures c.ask-4.ensures c.in_ok-ask-4.was (said_yes Twice c.routes_fit.ensures c.ask-5.ensures c.in_ok-ask-5.was (said_yes Twice c.placings_fit.ensures c.ask-6.ensures c.in_ok-ask-6.was (said_yes Sounds c.sounds_pass.ensures c.ask-7.ensures c.in_ok-ask-7.was (said_yes Sounds c.sounds_pass-2.ensures c.ask-8.ensures c.in_ok-ask-8.was (said_yes Samples c.samples_ok.ensures c.ask-9.ensures c.in_ok-ask-9.was (said_last Samples c.samples_ok-2.ensures c.ask-10.ensures))))))))))
