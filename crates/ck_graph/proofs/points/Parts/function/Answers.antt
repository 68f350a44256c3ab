use Rattle.ck_graph.proofs.PartLemmas.{function_at-parts}
use Rattle.ck_graph.proofs.points.Parts.function.Goals as goal

pub returns : goal.returns
returns c = function_at-parts c.args.self.now c.args.number c.index.result.now c.requires c.index.ensures
