-- `placing_of` meets its contract. Assumes nothing.
use Rattle.scene.proofs.laws.Placings.{listener_in, position_in, distances_in, placing_unheard, placing_heard}
use Rattle.scene.proofs.scene.placing_of.Goals as goal

pub returns-then-lines-eq0 : goal.returns-then-lines-eq0
returns-then-lines-eq0 c = placing_unheard _ _ _ _ c.if-lines-eq0.true

pub attenuation-requires : goal.attenuation-requires
attenuation-requires c = record { positions_in_range = (listener_in c.args.values.now c.args.start _ c.if-lines-eq0.false c.requires.listeners_ok _ c.listener_of-listener.ensures, position_in c.requires.placing_ok _ c.position_of-position.ensures); distances_in_range = distances_in c.requires.placing_ok _ c.distances_of.ensures }

pub returns : goal.returns
returns c = placing_heard c.args.values.now c.args.start _ _ _ _ _ _ c.if-lines-eq0.false c.listener_of-listener.ensures c.position_of-position.ensures c.distances_of.ensures c.attenuation.ensures
