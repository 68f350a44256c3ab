-- The points of a passage as they are made (docs/FLOW.md): from the last to the first, since an edge names the place
-- that comes next. No deeds: an edge has a label and a place.
use Rattle.std.specs.Prelude.{List, [], ◌∷◌, ◌++◌, map, slice_get, Option, Some, None}
use Rattle.std.specs.Option.{option_map}
use Rattle.ck_base.specs.declared.spans.Span.{Span}
use Rattle.ck_drafts.specs.Drafts.{PlainEdge, edge_drafted, plain_edge, plain_place}
use Rattle.ck_passages.specs.declared.drawing.Drawing.{Drawing}
use Rattle.ck_passages.specs.declared.drawing.Happening.{Happening as Made}
use Rattle.ck_passages.specs.declared.drawing.Happening.TheVariants as made
use Rattle.ck_passages.specs.declared.drawing.PassagePoint.{PassagePoint}
use Rattle.ck_points.specs.Passages.{Passage}
use Rattle.ck_points.specs.Places.{Place, Happening, Passes, Calls, EntersPair, LeavesPair, Ends, Point}
use Rattle.ck_prog.specs.Declarations.{Entry}
use Rattle.ck_tables.specs.Entries.{plain_entry}
use Rattle.ck_tables.specs.Program.{entry_readings}
use Rattle.ck_tables.specs.declared.facts.EntryId.{EntryId}
use Rattle.ck_tables.specs.declared.program.Linked.{Linked}

-- a point without the deeds of its edges
pub record PlainPoint : Type 0 where
  pub at : Place
  pub happening : Happening
  pub site : Span
  pub edges : List PlainEdge

-- the place that comes next, and all points after it, the last one first
pub record Drawn : Type 0 where
  pub to : Place
  pub points : List PlainPoint

-- from the definition ------------------------------------------------------------------------------------------------

abbrev pub without_deeds : Point → PlainPoint
without_deeds d =
    record { at = d.place; happening = d.happening; site = d.site.span; edges = map edge_drafted d.edges }

-- points are added from the last to the first
abbrev pub added : List PlainPoint → List Point → List PlainPoint
added ps [] = ps
added ps (d ∷ ds) = added ps ds ++ (without_deeds d ∷ [])

-- a passage comes before what is drawn
abbrev pub before_drawn : Passage → List PlainPoint → Drawn
before_drawn p ps = record { to = p.enters.to; points = added ps p.points }

-- from memory, where the tables say which declarations numbers stand for ----------------------------------------------

-- the declaration of a number, where the project has one
abbrev pub declared_at : Linked → Option EntryId → Option Entry
declared_at l None = None
declared_at l (Some id) = option_map (plain_entry (entry_readings l)) (slice_get l.entries.rows.items id.0)

abbrev pub plain_happening : Linked → Made → Happening
plain_happening l made.Passes = Passes
plain_happening l (made.Calls function) = Calls (declared_at l function)
plain_happening l made.EntersPair = EntersPair
plain_happening l made.LeavesPair = LeavesPair
plain_happening l made.Ends = Ends

abbrev pub plain_point : Linked → PassagePoint → PlainPoint
plain_point l d =
    record {
      at = plain_place d.at;
      happening = plain_happening l d.happening;
      site = d.site;
      edges = map plain_edge d.edges.items;
    }

unfoldable pub drawn : Linked → Drawing → Drawn
drawn l d = record { to = plain_place d.to; points = map (plain_point l) d.points.items }
