-- The drafts of a function: its points (docs/FLOW.md) in any order, each with its kind, and with edges that have a
-- label and a place, and no deeds.
use Rattle.std.specs.Prelude.{◌≡◌, ℕ, List, map, length, slice_get, Some, Vec}
use Rattle.std.specs.List.Sorted.{IsPermutation}
use Rattle.ck_base.specs.declared.spans.Span.{Span}
use Rattle.ck_drafts.specs.declared.drafts.Draft.{Draft}
use Rattle.ck_drafts.specs.declared.drafts.DraftEdge.{DraftEdge}
use Rattle.ck_drafts.specs.declared.drafts.Place.{Place}
use Rattle.ck_drafts.specs.declared.drafts.Side.{Side}
use Rattle.ck_drafts.specs.declared.drafts.Side.TheVariants as made
use Rattle.ck_graph.specs.declared.points.Label.{Label}
use Rattle.ck_graph.specs.declared.points.PointKind.{PointKind}
use Rattle.ck_points.specs.Functions.{points}
use Rattle.ck_points.specs.Graphs.{Program, kind_of}
use Rattle.ck_points.specs.Places as plain
use Rattle.ck_points.specs.Places.{Split, Before, Enter, Test, Leave, After}
use Rattle.ck_prog.specs.TypedBodies.{TypedFunction}

-- a point without the deeds of its edges ------------------------------------------------------------------------------

pub record PlainEdge : Type 0 where
  pub label : Label
  pub to : plain.Place

pub record PlainDraft : Type 0 where
  pub at : plain.Place
  pub kind : PointKind
  pub site : Span
  pub edges : List PlainEdge

-- from the definition ------------------------------------------------------------------------------------------------

abbrev pub edge_drafted : plain.Edge → PlainEdge
edge_drafted e = record { label = e.label; to = e.way.to }

-- a point of the function of this number
abbrev pub point_drafted : Program → ℕ → TypedFunction → plain.Point → PlainDraft
point_drafted p i f d = record {
  at = d.place;
  kind = kind_of p i f d.place.path d.happening;
  site = d.site.span;
  edges = map edge_drafted d.edges;
}

-- from memory --------------------------------------------------------------------------------------------------------

abbrev pub plain_side : Side → plain.Side
plain_side made.Split = Split
plain_side made.Before = Before
plain_side made.Enter = Enter
plain_side made.Test = Test
plain_side made.Leave = Leave
plain_side made.After = After

abbrev pub plain_place : Place → plain.Place
plain_place at = record { path = at.path.items; orders = at.orders.items; side = plain_side at.side }

abbrev pub plain_edge : DraftEdge → PlainEdge
plain_edge e = record { label = e.label; to = plain_place e.to }

abbrev pub plain_draft : Draft → PlainDraft
plain_draft d = record {
  at = plain_place d.at;
  kind = d.kind;
  site = d.site;
  edges = map plain_edge d.edges.items;
}

-- drafts of functions ------------------------------------------------------------------------------------------------

-- these are the points of the function of this number, in some order
abbrev pub AreDraftsOf : Program → ℕ → TypedFunction → List Draft → Type 0
AreDraftsOf p i f ds = IsPermutation (map (point_drafted p i f) (points f)) (map plain_draft ds)

-- these are the points of all functions, each function's in some order, and the functions in the order of their numbers
pub record AreDrafts {A : Type 0} (p : Program) (all : List (Vec Draft A)) : Type 0 where
  pub functions : length all ≡ length p.functions
  pub each :
      (i : ℕ) (f : TypedFunction) (ds : Vec Draft A) → slice_get p.functions i ≡ Some f →
      slice_get all i ≡ Some ds → AreDraftsOf p i f ds.items
