-- `sends_steady` meets its contract: `all` asks of every line. Assumes nothing.
use Rattle.std.proofs.Common.{rules, tests}
use Rattle.steady_mixer.specs.Steady.{ahead}
use Rattle.steady_mixer.specs.MixerSteady.{steady_send}
use Rattle.steady_mixer.proofs.laws.Asked.{every_from_all}
use Rattle.steady_mixer.proofs.steady.Block.sends_steady.Goals as goal

pub returns : goal.returns
unfolding steady_send
returns c =
    let h = ahead c.args.self.now.waits c.args.self.now.nanos c.args.self.now.ends.now in
    every_from_all c.args.scene.now.send_count (steady_send h c.args.mixer.now.sends) _ _ _ c.all.ensures.ran (λ x b q k. search (rules, tests))
