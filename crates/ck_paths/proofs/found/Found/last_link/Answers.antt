use Rattle.std.proofs.lemmas.List.{get_or_read}
use Rattle.ck_paths.specs.Found.{last_at}
use Rattle.ck_paths.proofs.found.Found.last_link.Goals as goal

pub returns : goal.returns
unfolding last_at
returns c = get_or_read c.args.self.now.last.items c.args.point.0 c.index.result.now c.requires c.index.ensures 0
