-- The points of a whole function, with their edges (docs/FLOW.md). It is entered at its body's `before`, and `return`
-- and the body's end lead to its exit, which is the body's `after`. A function that keeps the kernel's status has two
-- points more: one where it is entered, and one where it is left.
use Rattle.std.specs.Prelude.{Bool, false, ◌||◌, List, [], ◌∷◌, if◌then◌else◌}
use Rattle.ck_base.specs.declared.tokens.Token.{Token}
use Rattle.ck_prog.specs.TypedBodies as bodies
use Rattle.ck_prog.specs.TypedBodies.{TypedDeclarators, TypedDeclaration, TypedStart, TypedStatement, TypedItems}
use Rattle.ck_prog.specs.TypedBodies.{TypedFunction}
use Rattle.ck_points.specs.Labels.{labels_from}
use Rattle.ck_points.specs.Passages.{Passage, all_in_turn, point, passing}
use Rattle.ck_points.specs.Places.{Place, place, before, after, Enter, Leave, Passes, EntersPair, LeavesPair, Ends}
use Rattle.ck_points.specs.Places.{Point, Way, leads}
use Rattle.ck_points.specs.Statements.{items}

-- status variables ---------------------------------------------------------------------------------------------------

abbrev pub status_declared : TypedDeclarators → Bool
status_declared bodies.NoDeclared = false
status_declared (bodies.Declared written f i rest) = f.status || status_declared rest

abbrev pub status_in_declaration : TypedDeclaration → Bool
status_in_declaration (bodies.Declaration first written ds) = status_declared ds

abbrev pub status_in_start : TypedStart → Bool
status_in_start (bodies.StartDeclaration d) = status_in_declaration d
status_in_start _ = false

abbrev mutual
  pub status_in_statement : TypedStatement → Bool
  status_in_statement (bodies.Block first is) = status_in is
  status_in_statement (bodies.If keyword x s) = status_in_statement s
  status_in_statement (bodies.IfElse keyword x s t) = status_in_statement s || status_in_statement t
  status_in_statement (bodies.Switch keyword x s) = status_in_statement s
  status_in_statement (bodies.While keyword x s) = status_in_statement s
  status_in_statement (bodies.Do keyword s x) = status_in_statement s
  status_in_statement (bodies.For keyword start x step s) = status_in_start start || status_in_statement s
  status_in_statement (bodies.Case keyword in_switch x v s) = status_in_statement s
  status_in_statement (bodies.Default keyword in_switch s) = status_in_statement s
  status_in_statement (bodies.Label keyword name s) = status_in_statement s
  status_in_statement _ = false

  pub status_in : TypedItems → Bool
  status_in bodies.NoItems = false
  status_in (bodies.DeclarationItem d rest) = status_in_declaration d || status_in rest
  status_in (bodies.StatementItem s rest) = status_in_statement s || status_in rest

-- whole functions ----------------------------------------------------------------------------------------------------

abbrev pub entry : Place
entry = before []

abbrev pub exit : Place
exit = after []

abbrev pub pair_entered : Place
pair_entered = place [] [] Enter

abbrev pub pair_left : Place
pair_left = place [] [] Leave

-- the statements of a body, where `return` and the body's end lead this way
abbrev pub inside : TypedFunction → Way → Passage
inside f out =
    items (record { broken = out; continued = out; returned = out; labels = labels_from [] 0 f.items }) [] 0 f.items out

abbrev pub ending : Token → Passage
ending name = point exit Ends name []

abbrev pub plain_body : Token → Passage → Passage
plain_body name statements = all_in_turn (passing entry Passes name statements.enters) (statements ∷ ending name ∷ [])

abbrev pub pair_body : Token → Passage → Passage
pair_body name statements =
    all_in_turn (passing entry Passes name (leads pair_entered))
    (passing pair_entered EntersPair name statements.enters ∷ statements
    ∷ passing pair_left LeavesPair name (leads exit) ∷ ending name ∷ [])

abbrev pub whole : TypedFunction → Passage
whole f =
    let name = f.declared.entry.at in
    if status_in f.items then pair_body name (inside f (leads pair_left))
    else plain_body name (inside f (leads exit))

abbrev pub points : TypedFunction → List Point
points f = (whole f).points
