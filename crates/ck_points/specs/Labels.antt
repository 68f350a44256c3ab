-- Where jumps to labels lead (C99 6.8.1): the labels of a function, and those of a `switch`, each with its statement's
-- path, in written order.
use Rattle.std.specs.Prelude.{ℕ, suc, ℤ, List, [], ◌∷◌, ◌++◌, Some, if◌then◌else◌}
use Rattle.std.specs.Ordering.{int_eq}
use Rattle.std.specs.Str.{bytes_eq}
use Rattle.ck_graph.specs.declared.points.Label.TheVariants.{Plain, Case, Default}
use Rattle.ck_prog.specs.Paths as part
use Rattle.ck_prog.specs.Paths.{Path, below}
use Rattle.ck_prog.specs.Senses.{Constancy, Known}
use Rattle.ck_prog.specs.Sights.{LabelOfSwitch, CaseLabel, DefaultLabel}
use Rattle.ck_prog.specs.TypedBodies as bodies
use Rattle.ck_prog.specs.TypedBodies.{TypedStatement, TypedItems}
use Rattle.ck_points.specs.Places.{Place, before, Way, Edge, leads, edge}

-- labels with names --------------------------------------------------------------------------------------------------

pub record Labelled : Type 0 where
  pub name : List ℕ
  pub place : Place

abbrev mutual
  pub labels : Path → TypedStatement → List Labelled
  labels π (bodies.Block first is) = labels_from π 0 is
  labels π (bodies.If keyword x s) = labels (below π part.Controlled) s
  labels π (bodies.IfElse keyword x s t) = labels (below π part.Controlled) s ++ labels (below π part.Otherwise) t
  labels π (bodies.Switch keyword x s) = labels (below π part.Controlled) s
  labels π (bodies.While keyword x s) = labels (below π part.Controlled) s
  labels π (bodies.Do keyword s x) = labels (below π part.DoBody) s
  labels π (bodies.For keyword start x step s) = labels (below π part.ForBody) s
  labels π (bodies.Case keyword in_switch x v s) = labels (below π part.CaseBody) s
  labels π (bodies.Default keyword in_switch s) = labels (below π part.Labelled) s
  labels π (bodies.Label keyword name s) =
      record { name = name; place = before π } ∷ labels (below π part.Labelled) s
  labels π _ = []

  pub labels_from : Path → ℕ → TypedItems → List Labelled
  labels_from π k bodies.NoItems = []
  labels_from π k (bodies.DeclarationItem d rest) = labels_from π (suc k) rest
  labels_from π k (bodies.StatementItem s rest) = labels (below π (part.Item k)) s ++ labels_from π (suc k) rest

-- 6.8.6.1: to the statement with the label, or elsewhere where no label has the name
abbrev pub labelled : List ℕ → List Labelled → Place → Place
labelled name [] elsewhere = elsewhere
labelled name (l ∷ ls) elsewhere = if bytes_eq l.name name then l.place else labelled name ls elsewhere

-- labels of a `switch` -----------------------------------------------------------------------------------------------

pub record Marked : Type 0 where
  pub label : LabelOfSwitch
  pub place : Place

-- 6.8.4.2: those of an inner `switch` are its own
abbrev mutual
  pub marks : Path → TypedStatement → List Marked
  marks π (bodies.Block first is) = marks_from π 0 is
  marks π (bodies.If keyword x s) = marks (below π part.Controlled) s
  marks π (bodies.IfElse keyword x s t) = marks (below π part.Controlled) s ++ marks (below π part.Otherwise) t
  marks π (bodies.While keyword x s) = marks (below π part.Controlled) s
  marks π (bodies.Do keyword s x) = marks (below π part.DoBody) s
  marks π (bodies.For keyword start x step s) = marks (below π part.ForBody) s
  marks π (bodies.Case keyword in_switch x v s) =
      record { label = CaseLabel v; place = before π } ∷ marks (below π part.CaseBody) s
  marks π (bodies.Default keyword in_switch s) =
      record { label = DefaultLabel; place = before π } ∷ marks (below π part.Labelled) s
  marks π (bodies.Label keyword name s) = marks (below π part.Labelled) s
  marks π _ = []

  pub marks_from : Path → ℕ → TypedItems → List Marked
  marks_from π k bodies.NoItems = []
  marks_from π k (bodies.DeclarationItem d rest) = marks_from π (suc k) rest
  marks_from π k (bodies.StatementItem s rest) = marks (below π (part.Item k)) s ++ marks_from π (suc k) rest

-- to the `default`, or elsewhere where there is none
abbrev pub default_or : LabelOfSwitch → Place → Way → Way
default_or DefaultLabel p otherwise = leads p
default_or (CaseLabel v) p otherwise = otherwise

abbrev pub default_way : List Marked → Way → Way
default_way [] elsewhere = elsewhere
default_way (m ∷ ms) elsewhere = default_or m.label m.place (default_way ms elsewhere)

-- to the `case` of a value, or elsewhere where there is none
abbrev pub case_or : ℤ → LabelOfSwitch → Place → Way → Way
case_or v (CaseLabel (Some w)) p otherwise = if int_eq v w then leads p else otherwise
case_or v _ p otherwise = otherwise

abbrev pub case_way : ℤ → List Marked → Way → Way
case_way v [] elsewhere = elsewhere
case_way v (m ∷ ms) elsewhere = case_or v m.label m.place (case_way v ms elsewhere)

-- an edge for each `case`, numbered from here on
abbrev pub case_edge : ℕ → LabelOfSwitch → Place → List Edge
case_edge k (CaseLabel v) to = edge (Case k) (leads to) ∷ []
case_edge k DefaultLabel to = []

abbrev pub after_label : ℕ → LabelOfSwitch → ℕ
after_label k (CaseLabel v) = suc k
after_label k DefaultLabel = k

abbrev pub case_edges : ℕ → List Marked → List Edge
case_edges k [] = []
case_edges k (m ∷ ms) = case_edge k m.label m.place ++ case_edges (after_label k m.label) ms

-- the test of a `switch` leads to each `case` and to the `default`, or past the `switch` where there is none; of a
-- constant it leads one way
abbrev pub switch_edges : Constancy → List Marked → Way → List Edge
switch_edges (Known v) ms past = edge Plain (case_way v ms (default_way ms past)) ∷ []
switch_edges _ ms past = case_edges 0 ms ++ (edge Default (default_way ms past) ∷ [])
