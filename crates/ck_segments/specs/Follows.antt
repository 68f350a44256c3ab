-- Which step may lead from one point to another, when it isn't asked which state there is and what the cited segment
-- does: what is left of a move of `Walk.antt` in ck_graph, of a call that returns, and of one that is gone into.
use Rattle.std.specs.Prelude.{◌≡◌, ⊤, ℕ, List, [], ◌∷◌}
use Rattle.ck_graph.specs.declared.points.Edge.{Edge as EdgeOf}
use Rattle.ck_graph.specs.declared.points.PointKind.{PointKind}
use Rattle.ck_graph.specs.declared.points.PointKind.TheVariants.{Plain, Act, Call as CallPoint, Exit}
use Rattle.ck_graph.specs.Flow.{Flow}
use Rattle.ck_graph.specs.Steps.{kind_at, first_of, HasEdge, MayEnter}
use Rattle.ck_segments.specs.declared.segments.Step.{Step}
use Rattle.ck_segments.specs.declared.segments.Step.TheVariants.{Edge, Call, Enter}

-- a point of this kind may take its edge of this number: a plain point any, an act its first and only one
abbrev pub TakesEdge : PointKind → ℕ → Type 0
TakesEdge Plain k = ⊤
TakesEdge (Act op name) k = k ≡ 0
TakesEdge (CallPoint call) k = ⊥
TakesEdge Exit k = ⊥

-- the point has an edge of this number, which leads there
pub record EdgeLeads (flow : Flow) (from k to : ℕ) : Type 0 where
  pub edge : EdgeOf
  pub has : HasEdge flow from k edge
  pub leads : edge.to.0 ≡ to

-- a step may lead from one point to another
abbrev pub Follows : Flow → ℕ → Step → ℕ → Type 0
Follows flow from (Edge k) to = TakesEdge (kind_at flow from) k × EdgeLeads flow from k to
Follows flow from (Call target segment) to = MayEnter flow from target.0 × EdgeLeads flow from 0 to
Follows flow from (Enter target) to = MayEnter flow from target.0 × (first_of flow target.0 ≡ to)

-- steps may lead from one point to another
abbrev pub StepsLead : Flow → ℕ → List Step → ℕ → Type 0
StepsLead flow from [] to = from ≡ to
StepsLead flow from (step ∷ steps) to = (next : ℕ) × Follows flow from step next × StepsLead flow next steps to
