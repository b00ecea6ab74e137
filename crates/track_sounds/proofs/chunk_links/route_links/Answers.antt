use Rattle.std.proofs.Common.{◌+◌, ◌-◌}
use borrow.Author.Rules.{rules}
use Rattle.chunk.specs.Chunk.{route_row}
use Rattle.track_sounds.specs.Owners.{route_links}
use Rattle.track_sounds.proofs.chunk_links.route_links.Goals as goal

pub returns : goal.returns
unfolding route_links
returns c = c.links_of.ensures (λ k. (route_row c.args.chunk.now (c.args.chunk.now.route_count - (k + 1))).track) (λ k o b p. search rules)
