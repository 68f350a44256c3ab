use Rattle.std.proofs.Common.{◌<◌, ◌^◌, vec_len, arith}
use Rattle.ck_graph.proofs.PartLemmas.{IsSmall-from_parts}
use Rattle.ck_graph.specs.Flow.{flow_of}
use Rattle.ck_kinds.specs.KindedDrafts.{flow_program}
use Rattle.ck_flow.proofs.lowering.graph_within_limit.Goals as goal

pub graph_of-requires : goal.graph_of-requires
graph_of-requires c =
    record {
      program = flow_program c.args.program.now.linked c.args.program.now.rows;
      drafted = c.in_ok-drafts.ensures;
      kept = c.requires.kept;
    }

pub returns : goal.returns
returns c =
    let p = flow_program c.args.program.now.linked c.args.program.now.rows in
    let parts = c.in_ok-parts.parts in
    let made = c.in_ok-parts.ensures in
    let graph = made.graph p c.in_ok-drafts.ensures in
    let points : vec_len parts.points < 2 ^ 32 = omega (arith, made.points) in
    let functions : vec_len parts.functions < 2 ^ 32 = omega (arith, made.functions) in
    record {
      graph = graph;
      sound = record {
        points = points;
        functions = functions;
        edges = made.edges;
        sound =
            c.graphs_are_sound.ensures p (flow_of parts) graph
            (IsSmall-from_parts parts points functions made.edges);
      };
    }
