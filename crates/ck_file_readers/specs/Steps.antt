-- The grammar's readers of external declarations by their parts (C99 6.7, 6.9), at a source as it is then.
use Rattle.std.specs.Prelude.{ℕ, suc, true, List, length, Some, if◌then◌else◌}
use Rattle.ck_base.specs.declared.tokens.Token.{Token}
use Rattle.ck_grammar.specs.Fitting.{NewName}
use Rattle.ck_grammar.specs.Readers.{Reader, ◌>>=◌, is_at, mark}
use Rattle.ck_grammar.specs.Reading.{declarator_at, specifiers_at}
use Rattle.ck_grammar.specs.ReadingStatements.{body_at, declares, defines, init_at, more_declared}
use Rattle.ck_grammar.specs.Specified.{InFile}
use Rattle.ck_grammar.specs.Statements.{BlockItems, Declaration, External, FileDeclaration, Init, MoreDeclared}
use Rattle.ck_grammar.specs.Statements.{AndPlainly}
use Rattle.ck_grammar.specs.StatementsFitting.{external_after, more_after, names_after}
use Rattle.ck_grammar.specs.Trees.{Declarator, Specifiers}
use Rattle.ck_readers.specs.SourceView.{SourceView, words}

-- the typedef names after an external declaration, a declaration at file scope, further declarators of types
abbrev pub typedefs_after : SourceView → External → List (List ℕ)
typedefs_after source x = external_after source.bytes x source.typedefs

abbrev pub declaration_typedefs : SourceView → Declaration → List (List ℕ)
declaration_typedefs source d = typedefs_after source (FileDeclaration d)

abbrev pub more_typedefs : SourceView → MoreDeclared → List (List ℕ)
more_typedefs source m = more_after true source.bytes m source.typedefs

-- how deep what is read may nest
module _ (n : ℕ) where
  -- the specifiers of an external declaration, a declarator of a name, an initialiser, the items of a function's body
  abbrev pub specifiers_in : SourceView → Reader Specifiers
  specifiers_in source = specifiers_at (words source) n InFile

  abbrev pub declarator_in : SourceView → Reader Declarator
  declarator_in source = declarator_at (words source) n NewName

  abbrev pub init_in : SourceView → Reader Init
  init_in source = init_at (words source) n

  abbrev pub body_in : SourceView → List Token → BlockItems × List Token
  body_in source = body_at source.bytes source.typedefs n

  -- further declarators of types, as many as come
  abbrev pub types_from : SourceView → List Token → MoreDeclared × List Token
  types_from source ts = more_declared source.bytes n true (length ts) source.typedefs ts

  -- a comma and a declarator of a type; `go` reads the others, where its name is a typedef name
  abbrev pub type_step : SourceView → (List (List ℕ) → List Token → MoreDeclared × List Token) → Reader MoreDeclared
  type_step source go ts = do
    (comma, ts) ← mark (words source) "," ts
    (d, ts) ← declarator_in source ts
    let (rest, ts) = go (names_after true source.bytes d source.typedefs) ts
    Some (AndPlainly comma d rest, ts)

  -- an external declaration after its specifiers, where no `;` comes
  abbrev pub named_from : SourceView → Specifiers → Reader External
  named_from source s ts = do
    (d, ts) ← declarator_at (words source) (suc n) NewName ts
    if is_at (words source) "{" ts
        then defines source.bytes source.typedefs n s d ts
        else (do
          (declaration, ts) ← declares source.bytes source.typedefs (suc n) s d ts
          Some (FileDeclaration declaration, ts))
