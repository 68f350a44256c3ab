-- The drafts of points of a function, each with its kind (docs/FLOW.md), from the tables of a typed project.
use Rattle.std.specs.Prelude.{ℕ}
use Rattle.ck_drafts.specs.Drafts.{PlainDraft}
use Rattle.ck_passages.specs.Points.{PlainPoint, plain_point}
use Rattle.ck_passages.specs.declared.drawing.PassagePoint.{PassagePoint}
use Rattle.ck_points.specs.Graphs.{Program, kind_of}
use Rattle.ck_prog.specs.TypedBodies.{TypedFunction}
use Rattle.ck_tables.specs.Program.{functions}
use Rattle.ck_call_rows.specs.TypedRows.{project, outside_ops}
use Rattle.ck_tables.specs.declared.program.Linked.{Linked}
use Rattle.ck_tables.specs.declared.program_rows.ProgramRows.{ProgramRows}

-- what graphs are made from, of a project in memory
abbrev pub flow_program : Linked → ProgramRows → Program
flow_program l r = record { project = project l r; ops = outside_ops r; functions = functions l }

-- a point of the function of this number, with its kind
abbrev pub with_kind : Program → ℕ → TypedFunction → PlainPoint → PlainDraft
with_kind p i f d =
    record { at = d.at; kind = kind_of p i f d.at.path d.happening; site = d.site; edges = d.edges }

abbrev pub drafted : Linked → ProgramRows → ℕ → TypedFunction → PassagePoint → PlainDraft
drafted l r i f d = with_kind (flow_program l r) i f (plain_point l d)
