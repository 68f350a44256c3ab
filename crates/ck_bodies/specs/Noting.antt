-- What is noted of a body before its points are made: its labels, those of its `switch`es, and the declarations of a
-- variable that keeps the kernel's status, in written order.
use Rattle.std.specs.Prelude.{◌≡◌, ◌<◌, ℕ, suc, Bool, true, false, ◌||◌, List, [], ◌∷◌, ◌++◌, length, map}
use Rattle.std.specs.Prelude.{slice_get, Option, Some, None, if◌then◌else◌}
use Rattle.std.specs.List.{list_all}
use Rattle.std.specs.Ordering.{int_eq}
use Rattle.ck_drafts.specs.Drafts.{PlainEdge}
use Rattle.ck_graph.specs.declared.points.Label.TheVariants.{Default}
use Rattle.ck_points.specs.Functions.{status_in_declaration, status_in_start}
use Rattle.ck_points.specs.Labels.{Labelled, labelled, Marked, case_edge, after_label}
use Rattle.ck_points.specs.Places.{Place, Edge, before}
use Rattle.ck_prog.specs.Paths as part
use Rattle.ck_prog.specs.Paths.{Path, below}
use Rattle.ck_prog.specs.Sights.{LabelOfSwitch, CaseLabel, DefaultLabel}
use Rattle.ck_prog.specs.TypedBodies as bodies
use Rattle.ck_prog.specs.TypedBodies.{TypedStatement, TypedItems}
use Rattle.ck_tables.specs.Numbers.{Numbers, numbers, name_fits}
use Rattle.ck_tables.specs.Program.{name_of, value_of, readings}
use Rattle.ck_tables.specs.Readings.{Readings, plain_value}
use Rattle.ck_tables.specs.declared.facts.ValueId.{ValueId}
use Rattle.ck_tables.specs.declared.program.Linked.{Linked}
use Rattle.ck_bodies.specs.declared.notes.Note.{Note}
use Rattle.ck_bodies.specs.declared.notes.Noted.{Noted}
use Rattle.ck_bodies.specs.declared.notes.Noted.TheVariants as made

pub data PlainNoted : Type 0 where
  StatusVariable : PlainNoted
  NamedLabel : List ℕ → PlainNoted
  SwitchLabel : LabelOfSwitch → PlainNoted

pub record PlainNote : Type 0 where
  pub noted : PlainNoted
  pub place : Place

abbrev pub note_of : PlainNoted → Path → PlainNote
note_of n π = record { noted = n; place = before π }

abbrev pub status_notes : Bool → Path → List PlainNote
status_notes status π = if status then note_of StatusVariable π ∷ [] else []

-- of a body -----------------------------------------------------------------------------------------------------------

-- what is in an inner `switch` counts where all is noted
abbrev mutual
  pub notes : Bool → Path → TypedStatement → List PlainNote
  notes all π (bodies.Block first is) = notes_from all π 0 is
  notes all π (bodies.If keyword x s) = notes all (below π part.Controlled) s
  notes all π (bodies.IfElse keyword x s t) =
      notes all (below π part.Controlled) s ++ notes all (below π part.Otherwise) t
  notes all π (bodies.Switch keyword x s) = if all then notes all (below π part.Controlled) s else []
  notes all π (bodies.While keyword x s) = notes all (below π part.Controlled) s
  notes all π (bodies.Do keyword s x) = notes all (below π part.DoBody) s
  notes all π (bodies.For keyword start x step s) =
      status_notes (status_in_start start) π ++ notes all (below π part.ForBody) s
  notes all π (bodies.Case keyword in_switch x v s) =
      note_of (SwitchLabel (CaseLabel v)) π ∷ notes all (below π part.CaseBody) s
  notes all π (bodies.Default keyword in_switch s) =
      note_of (SwitchLabel DefaultLabel) π ∷ notes all (below π part.Labelled) s
  notes all π (bodies.Label keyword name s) = note_of (NamedLabel name) π ∷ notes all (below π part.Labelled) s
  notes all π _ = []

  pub notes_from : Bool → Path → ℕ → TypedItems → List PlainNote
  notes_from all π k bodies.NoItems = []
  notes_from all π k (bodies.DeclarationItem d rest) =
      status_notes (status_in_declaration d) (below π (part.Item k)) ++ notes_from all π (suc k) rest
  notes_from all π k (bodies.StatementItem s rest) =
      notes all (below π (part.Item k)) s ++ notes_from all π (suc k) rest

-- what notes say ------------------------------------------------------------------------------------------------------

abbrev pub named_before : PlainNoted → Place → List Labelled → List Labelled
named_before (NamedLabel name) p ls = record { name = name; place = p } ∷ ls
named_before _ p ls = ls

abbrev pub named : List PlainNote → List Labelled
named [] = []
named (n ∷ ns) = named_before n.noted n.place (named ns)

abbrev pub marked_before : PlainNoted → Place → List Marked → List Marked
marked_before (SwitchLabel label) p ms = record { label = label; place = p } ∷ ms
marked_before _ p ms = ms

abbrev pub marked : List PlainNote → List Marked
marked [] = []
marked (n ∷ ns) = marked_before n.noted n.place (marked ns)

abbrev pub is_status : PlainNoted → Bool
is_status StatusVariable = true
is_status _ = false

abbrev pub has_status : List PlainNote → Bool
has_status [] = false
has_status (n ∷ ns) = is_status n.noted || has_status ns

-- from memory ---------------------------------------------------------------------------------------------------------

abbrev pub plain_noted : Readings → Noted → PlainNoted
plain_noted w made.Status = StatusVariable
plain_noted w (made.Label name) = NamedLabel (w.name_of name.0)
plain_noted w (made.Case value) = SwitchLabel (CaseLabel (plain_value w value))
plain_noted w made.Default = SwitchLabel DefaultLabel

abbrev pub plain_note : Readings → Note → PlainNote
plain_note w n = note_of (plain_noted w n.noted) n.path.items

abbrev pub plain_notes : Linked → List Note → List PlainNote
plain_notes l ns = map (plain_note (readings l)) ns

-- these were noted
abbrev pub AreNoted : Linked → List PlainNote → List Note → List Note → Type 0
AreNoted l more old new = plain_notes l new ≡ plain_notes l old ++ more

-- a label has a name of the project
abbrev pub noted_fits : Numbers → Noted → Bool
noted_fits n (made.Label name) = name_fits n name
noted_fits n _ = true

abbrev pub note_fits : Numbers → Note → Bool
note_fits n x = noted_fits n x.noted

abbrev pub notes_fit : Linked → List Note → Bool
notes_fit l ns = list_all (note_fits (numbers l)) ns

-- labels of a `switch` ------------------------------------------------------------------------------------------------

-- whether it is a `case` of the value of this number
abbrev pub is_case : Linked → ValueId → Noted → Bool
is_case l v (made.Case (Some w)) = int_eq (value_of l v.0) (value_of l w.0)
is_case l v _ = false

abbrev pub is_default : Noted → Bool
is_default made.Default = true
is_default _ = false

abbrev pub case_edge_of : ℕ → PlainNoted → Place → List Edge
case_edge_of k (SwitchLabel label) to = case_edge k label to
case_edge_of k _ to = []

abbrev pub number_after : ℕ → PlainNoted → ℕ
number_after k (SwitchLabel label) = after_label k label
number_after k _ = k

abbrev pub default_edge : Place → PlainEdge
default_edge to = record { label = Default; to = to }

-- labels by their names -----------------------------------------------------------------------------------------------

abbrev pub place_of : Option Note → Place → Place
place_of None elsewhere = elsewhere
place_of (Some n) elsewhere = before n.path.items

abbrev pub place_in : List Note → Option ℕ → Place → Place
place_in ns None elsewhere = elsewhere
place_in ns (Some i) elsewhere = place_of (slice_get ns i) elsewhere

-- a look-up by the number of a name finds the first of these labels with that name
pub record Finds (l : Linked) (all : List Note) (ns : List Note) (found : ℕ → Option ℕ) : Type 0 where
  pub place :
      (n : ℕ) → n < length l.names → (elsewhere : Place) →
      place_in all (found n) elsewhere ≡ labelled (name_of l n) (named (plain_notes l ns)) elsewhere
