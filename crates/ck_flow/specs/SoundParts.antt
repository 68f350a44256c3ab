-- Parts of which `ck_graph::checked` makes a graph: their numbers fit 32 bits, and they have no fault.
use Rattle.std.specs.Prelude.{◌<◌, ◌^◌, vec_len, All}
use Rattle.ck_graph.specs.Faults.{IsSound}
use Rattle.ck_graph.specs.Flow.{flow_of}
use Rattle.ck_graph.specs.declared.points.Parts.{Parts}
use Rattle.ck_graph.specs.declared.points.PointPart.{PointPart}

pub record AreSound (parts : Parts) : Type 0 where
  pub points : vec_len parts.points < 2 ^ 32
  pub functions : vec_len parts.functions < 2 ^ 32
  pub edges : All (λ (part : PointPart). vec_len part.edges < 2 ^ 32) parts.points.items
  pub sound : IsSound (flow_of parts)
