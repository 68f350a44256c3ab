-- The flat list of declarations of a project, the latest first, and what a use of a name means (C99 6.2.1, 6.2.3).
use Rattle.std.specs.Prelude.{ℕ, Bool, true, false, ◌&&◌, ◌||◌, ◌==◌, List, [], ◌∷◌, length, codes, Option, Some, None}
use Rattle.std.specs.Prelude.{if◌then◌else◌, ℤ}
use Rattle.std.specs.Str.{bytes_eq}
use Rattle.ck_base.specs.declared.tokens.Token.{Token}
use Rattle.ck_base.specs.TokenText.{text_of}
use Rattle.ck_types.specs.Types.{StructIdentity, CType}
use Rattle.ck_prog.specs.TypeClasses.{Qualified}
use Rattle.ck_prog.specs.declared.names.Linkage.{Linkage}
use Rattle.ck_prog.specs.declared.names.Defining.{Defining}
use Rattle.ck_prog.specs.declared.names.Storage.{Storage}
use Prim.Native.String.{String}

-- 6.2.5, 6.5.3.4: how many bytes an object has, and which number divides its address
pub record Layout : Type 0 where
  pub size : ℕ
  pub alignment : ℕ

-- 6.7.2.1: a member of a struct
pub record MemberOf : Type 0 where
  pub of : StructIdentity
  pub type : Option Qualified
  pub offset : Option ℕ
  -- the struct up to and with this member, without bytes after it
  pub front : Option Layout
  -- up to and with this member some member is const, or has a member that is (6.3.2.1)
  pub constant : Bool

-- What a name is declared as. A type, value or size is missing where it was refused.
pub data Meaning : Type 0 where
  Variable : Option Qualified → Linkage → Defining → Storage → Meaning
  FunctionNamed : Option CType → Linkage → Defining → Meaning
  -- 6.7.7
  TypeNamed : Option Qualified → Meaning
  -- 6.7.2.2: an enumeration constant
  Enumerator : Option ℤ → Meaning
  -- 6.7.2.3
  StructTag : StructIdentity → Meaning
  EnumTag : Meaning
  Member : MemberOf → Meaning
  -- 6.7.2.1: from here on the file knows the struct's members: the size of all, and whether some is const
  Completed : StructIdentity → Option Layout → Bool → Meaning
  -- 6.8.1
  Label : Meaning

pub record Entry : Type 0 where
  pub file : ℕ
  -- the scopes that are open there, the innermost first, none at file scope; a scope is named by how many declarations
  -- stand before it
  pub scope : List ℕ
  pub name : List ℕ
  pub at : Token
  pub meaning : Meaning

-- where a use is: after these declarations of all files, in this file with these bytes, and in these scopes
pub record Place : Type 0 where
  pub declared : List Entry
  pub file : ℕ
  pub bytes : List ℕ
  pub scope : List ℕ

-- what a token of the place's file is written with
abbrev pub text : Place → Token → List ℕ
text p t = text_of p.bytes t

abbrev pub is_written : Place → Token → String → Bool
is_written p t line = bytes_eq (text p t) (codes line)

abbrev pub is_file_scope : List ℕ → Bool
is_file_scope [] = true
is_file_scope (n ∷ ns) = false

-- 6.2.1: these scopes are the outermost of those
abbrev pub ends_with : List ℕ → List ℕ → Bool
ends_with [] outer = bytes_eq [] outer
ends_with (n ∷ ns) outer = bytes_eq (n ∷ ns) outer || ends_with ns outer

-- 6.2.1: the entry is in sight from a file and its open scopes
abbrev pub is_open : ℕ → List ℕ → Entry → Bool
is_open file scope e = e.file == file && ends_with scope e.scope

-- 6.2.3: name spaces
abbrev pub is_ordinary : Meaning → Bool
is_ordinary (Variable t l d s) = true
is_ordinary (FunctionNamed t l d) = true
is_ordinary (TypeNamed t) = true
is_ordinary (Enumerator v) = true
is_ordinary _ = false

abbrev pub is_tag : Meaning → Bool
is_tag (StructTag s) = true
is_tag EnumTag = true
is_tag _ = false

abbrev pub is_named : (Meaning → Bool) → ℕ → List ℕ → List ℕ → Entry → Bool
is_named space file scope name e = space e.meaning && is_open file scope e && bytes_eq e.name name

-- the latest entry that passes a test
abbrev pub latest : (Entry → Bool) → List Entry → Option Entry
latest test [] = None
latest test (e ∷ es) = if test e then Some e else latest test es

-- 6.2.1: what a name means at a place: its latest entry in an open scope. That is the innermost one, since a scope
-- closes before the one around it goes on.
abbrev pub meant_in : (Meaning → Bool) → Place → List ℕ → Option Entry
meant_in space p name = latest (is_named space p.file p.scope name) p.declared

abbrev pub meant : Place → List ℕ → Option Entry
meant p name = meant_in is_ordinary p name

abbrev pub meant_tag : Place → List ℕ → Option Entry
meant_tag p name = meant_in is_tag p name

-- the tag in the innermost scope alone
abbrev pub tag_of_scope : Place → List ℕ → Option Entry
tag_of_scope p name =
    latest (λ e. is_tag e.meaning && e.file == p.file && bytes_eq e.scope p.scope && bytes_eq e.name name) p.declared

-- the place in a scope that opens there
abbrev pub inside : Place → Place
inside p = record p { scope = length p.declared ∷ p.scope }

-- the place after one more declaration
abbrev pub declaring : Place → List ℕ → Token → Meaning → Place
declaring p name at meaning =
    record p {
      declared =
          record { file = p.file; scope = p.scope; name = name; at = at; meaning = meaning } ∷ p.declared;
    }

-- the place after a scope that has closed: what was declared there stays in the list
abbrev pub outside : Place → Place → Place
outside p inner = record p { declared = inner.declared }

-- the place after a declaration of a name, where one is written
abbrev pub declaring_name : Place → Option Token → Meaning → Place
declaring_name p None meaning = p
declaring_name p (Some name) meaning = declaring p (text p name) name meaning

abbrev pub meaning_of : Option Entry → Option Meaning
meaning_of None = None
meaning_of (Some e) = Some e.meaning
