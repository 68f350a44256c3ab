-- What the numbers of a linked project stand for, each table over those before it; and the typed trees of its files.
use Rattle.std.specs.Prelude.{ℕ, zero, suc, ℤ, pos, false, List, [], ◌∷◌, None, map}
use Rattle.ck_prog.specs.Declarations.{Entry, Label, MemberOf}
use Rattle.ck_prog.specs.Slots as slots
use Rattle.ck_prog.specs.Slots.{Slot, SlotOf}
use Rattle.ck_prog.specs.TypedBodies as bodies
use Rattle.ck_prog.specs.TypedBodies.{TypedDeclaration, TypedFunction, TypedExternal}
use Rattle.ck_prog.specs.TypedTrees.{NoParts}
use Rattle.ck_types.specs.Types.{CType, StructIdentity, ByPlace}
use Rattle.ck_types.specs.TypeTable.{entries_of, type_at}
use Rattle.ck_tables.specs.Entries.{EntryReadings, plain_struct, plain_member, plain_entry}
use Rattle.ck_tables.specs.ExprTable.{no_token, parts_of, tree_at}
use Rattle.ck_tables.specs.InitTable.{no_initialiser, init_at}
use Rattle.ck_tables.specs.Readings.{Readings, BodyReadings}
use Rattle.ck_tables.specs.StmtTable.{plain_declared_facts, plain_declaration, items_of, statement_at}
use Rattle.ck_tables.specs.Tables.{tree_in}
use Rattle.ck_tables.specs.SubobjectTable.{path_at}
use Rattle.ck_tables.specs.declared.program.Body.{Body}
use Rattle.ck_tables.specs.declared.program.External.{External}
use Rattle.ck_tables.specs.declared.program.External.TheVariants as externals
use Rattle.ck_tables.specs.declared.program.FileInfo.{FileInfo}
use Rattle.ck_tables.specs.declared.program.Linked.{Linked}
use Rattle.ck_tables.specs.declared.program.SlotInfo.{SlotInfo}
use Rattle.ck_tables.specs.declared.program.SlotKind.{SlotKind}
use Rattle.ck_tables.specs.declared.program.SlotKind.TheVariants as kinds

-- the row of a number as a plain value, or one for the numbers that no row has
abbrev pub read : {X Y : Type 0} → Y → (X → Y) → List X → ℕ → Y
read none plain [] i = none
read none plain (x ∷ xs) zero = plain x
read none plain (x ∷ xs) (suc i) = read none plain xs i

-- names, values, structs, types, members and declarations -------------------------------------------------------------

abbrev pub name_of : Linked → ℕ → List ℕ
name_of l i = read [] (λ n. n) l.names i

abbrev pub struct_of : Linked → ℕ → StructIdentity
struct_of l i = tree_in (ByPlace 0 0) (plain_struct (name_of l)) l.structs.rows.items i

abbrev pub type_of : Linked → ℕ → CType
type_of l i = type_at (entries_of (struct_of l) l.types) i

abbrev pub value_of : Linked → ℕ → ℤ
value_of l i = read (pos 0) (λ v. v) l.values.rows.items i

abbrev pub no_member : MemberOf
no_member = record { of = ByPlace 0 0; type = None; offset = None; front = None; constant = false }

abbrev pub member_of : Linked → ℕ → MemberOf
member_of l i = read no_member (plain_member (type_of l) (struct_of l)) l.members.rows.items i

abbrev pub entry_readings : Linked → EntryReadings
entry_readings l =
    record { type_of = type_of l; name_of = name_of l; struct_of = struct_of l; member_of = member_of l }

abbrev pub no_entry : Entry
no_entry = record { file = 0; scope = []; name = []; at = no_token; meaning = Label }

abbrev pub entry_of : Linked → ℕ → Entry
entry_of l i = read no_entry (plain_entry (entry_readings l)) l.entries.rows.items i

-- expressions, initialisers and declarations --------------------------------------------------------------------------

abbrev pub readings : Linked → Readings
readings l =
    record {
      type_of = type_of l;
      entry_of = entry_of l;
      member_of = member_of l;
      name_of = name_of l;
      value_of = value_of l;
      path_of = path_at l.subobjects;
    }

-- where initialisers and declarations aren't read yet
abbrev pub with_expressions : Linked → BodyReadings
with_expressions l =
    record {
      readings = readings l;
      expr_of = tree_at (readings l) l.exprs;
      init_of = λ i. no_initialiser;
      declaration_of = λ i. bodies.Declaration no_token NoParts bodies.NoDeclared;
    }

abbrev pub with_initialisers : Linked → BodyReadings
with_initialisers l = record (with_expressions l) { init_of = init_at (with_expressions l) l.inits }

abbrev pub declaration_of : Linked → ℕ → TypedDeclaration
declaration_of l i =
    read (bodies.Declaration no_token NoParts bodies.NoDeclared) (plain_declaration (with_initialisers l))
    l.declarations.rows.items i

abbrev pub body_readings : Linked → BodyReadings
body_readings l = record (with_initialisers l) { declaration_of = declaration_of l }

-- functions and files -------------------------------------------------------------------------------------------------

abbrev pub plain_body : Linked → Body → TypedFunction
plain_body l f =
    let b = body_readings l in
    record {
      declared = plain_declared_facts (readings l) f.declared;
      scope = f.scope.items;
      written = parts_of (readings l) b.expr_of f.written.items;
      parameters = parts_of (readings l) b.expr_of f.parameters.items;
      items = items_of b (statement_at b l.stmts) f.items.items;
    }

abbrev pub functions : Linked → List TypedFunction
functions l = map (plain_body l) l.bodies.rows.items

abbrev pub no_external : TypedExternal
no_external = bodies.FileDeclaration (bodies.Declaration no_token NoParts bodies.NoDeclared)

abbrev pub plain_external : Linked → External → TypedExternal
plain_external l (externals.Declaration d) = bodies.FileDeclaration (declaration_of l d.0)
plain_external l (externals.Definition f) =
    read no_external (λ g. bodies.FunctionDefinition (plain_body l g)) l.bodies.rows.items f.0

abbrev pub plain_file : Linked → FileInfo → List TypedExternal
plain_file l f = map (plain_external l) f.externals.items

-- the typed trees of each file
abbrev pub files : Linked → List (List TypedExternal)
files l = map (plain_file l) l.files.rows.items

-- slots ---------------------------------------------------------------------------------------------------------------

abbrev pub plain_kind : (ℕ → StructIdentity) → SlotKind → SlotOf
plain_kind struct_of kinds.Variable = slots.OfVariable
plain_kind struct_of (kinds.Member s) = slots.OfMember (struct_of s.0)
plain_kind struct_of kinds.Result = slots.OfResult

abbrev pub plain_slot : (ℕ → StructIdentity) → SlotInfo → Slot
plain_slot struct_of s = record { of = plain_kind struct_of s.of; at = s.at }
