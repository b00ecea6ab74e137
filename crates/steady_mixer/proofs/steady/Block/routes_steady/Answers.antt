-- `routes_steady` meets its contract: `all` asks of every line. Assumes nothing.
use Rattle.std.proofs.Common.{rules, tests}
use Rattle.steady_mixer.specs.Steady.{ahead, route_steady}
use Rattle.steady_mixer.specs.MixerSteady.{steady_route}
use Rattle.steady_mixer.proofs.laws.Asked.{every_from_all}
use Rattle.steady_mixer.proofs.steady.Block.routes_steady.Goals as goal

pub returns : goal.returns
unfolding steady_route route_steady
returns c =
    let h = ahead c.args.self.now.waits c.args.self.now.nanos c.args.self.now.ends.now in
    every_from_all c.args.scene.now.route_count (steady_route h c.args.scene.now.routes c.args.mixer.now.tracks c.args.mixer.now.routes) _ _ _ c.all.ensures.ran (λ x b q k. search (rules, tests))
