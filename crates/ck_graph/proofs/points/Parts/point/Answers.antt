use Rattle.ck_graph.proofs.PartLemmas.{point_at-parts}
use Rattle.ck_graph.proofs.points.Parts.point.Goals as goal

pub returns : goal.returns
returns c = point_at-parts c.args.self.now c.args.number c.index.result.now c.requires c.index.ensures
