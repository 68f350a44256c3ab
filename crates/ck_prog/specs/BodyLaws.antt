-- Laws of initialisers, declarations, statements, files, types over files and refusals.
use Rattle.std.specs.Prelude.{◌≡◌, true, false, All, List, [], Contains, IfNone, Some}
use Rattle.ck_grammar.specs.Statements.{Init, Declaration, Statement, BlockItems, External}
use Rattle.ck_types.specs.Types.{CType, compatible}
use Rattle.ck_prog.specs.Declarations.{Entry, Place}
use Rattle.ck_prog.specs.Growing.{ComesAfter}
use Rattle.ck_prog.specs.OverFiles.{compatible_over_files}
use Rattle.ck_prog.specs.Refused.{RefusedAt, comes_before, first_refused}
use Rattle.ck_prog.specs.TypedDeclarations.{after_declaration}
use Rattle.ck_prog.specs.TypedFiles.{after_external, after_externals}
use Rattle.ck_prog.specs.TypedInitialisers.{after_initialiser}
use Rattle.ck_prog.specs.TypedStatements.{after_statement, after_items}

-- bodies and files declare, each name in its scopes, and take nothing back
pub record BodiesDeclare : Type 0 where
  pub initialiser : (p : Place) (i : Init) → ComesAfter p (after_initialiser p i)
  pub declaration : (p : Place) (d : Declaration) → ComesAfter p (after_declaration p d)
  pub statement : (p : Place) (s : Statement) → ComesAfter p (after_statement p s)
  pub items : (p : Place) (is : BlockItems) → ComesAfter p (after_items p is)
  pub external : (p : Place) (x : External) → ComesAfter p (after_external p x)
  pub externals : (p : Place) (xs : List External) → ComesAfter p (after_externals p xs)

-- 6.2.7: types that are compatible in a file are so over files, whatever is declared
abbrev pub StaysCompatible : Type 0
StaysCompatible =
    (all : List Entry) (t u : CType) → compatible t u ≡ true → compatible_over_files all t u ≡ true

-- one of these is told, and none of them comes before it
pub record IsFirst (rs : List RefusedAt) (r : RefusedAt) : Type 0 where
  pub one_of_them : Contains rs r
  pub none_before : All (λ s. comes_before s r ≡ false) rs

abbrev pub TellsTheFirst : Type 0
TellsTheFirst = (rs : List RefusedAt) (r : RefusedAt) → first_refused rs ≡ Some r → IsFirst rs r

-- nothing is told only where nothing is refused
abbrev pub TellsSome : Type 0
TellsSome = (rs : List RefusedAt) → IfNone (first_refused rs) (rs ≡ [])
