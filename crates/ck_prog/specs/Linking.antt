-- What the declaration of an object, a function or a typedef name declares: linkage (C99 6.2.2), tentative definitions
-- (6.9.2), storage (6.2.4) and the composite type (6.2.7).
use Rattle.std.specs.Prelude.{ℕ, Bool, true, false, ◌&&◌, ◌||◌, ◌==◌, List, [], codes, Option, Some, None}
use Rattle.std.specs.Prelude.{if◌then◌else◌, nat_le}
use Rattle.std.specs.Str.{bytes_eq}
use Rattle.ck_base.specs.declared.tokens.Token.{Token}
use Rattle.ck_grammar.specs.Specified.{count}
use Rattle.ck_grammar.specs.Trees.{Specifiers}
use Rattle.ck_grammar.specs.Words.{Word, is_text, word_of}
use Rattle.ck_types.specs.Types.{CType, compatible, composite}
use Rattle.ck_prog.specs.Declarations.{Meaning, Variable, FunctionNamed, TypeNamed, Entry, Place, is_file_scope, meant}
use Rattle.ck_prog.specs.Declarations.{meaning_of}
use Rattle.ck_prog.specs.TypeClasses.{Qualified}
use Rattle.ck_prog.specs.declared.names.Linkage.{Linkage}
use Rattle.ck_prog.specs.declared.names.Linkage.TheVariants.{NoLinkage, Internal, External}
use Rattle.ck_prog.specs.declared.names.Defining.{Defining}
use Rattle.ck_prog.specs.declared.names.Defining.TheVariants.{Declares, Tentative, Defines}
use Rattle.ck_prog.specs.declared.names.Storage.{Storage}
use Rattle.ck_prog.specs.declared.names.Storage.TheVariants.{Static, Automatic, Register}
use Prim.Native.String.{String}

-- 6.7.1: the storage class among specifiers; `auto` is none
pub data StorageClass : Type 0 where
  TypedefClass : StorageClass
  ExternClass : StorageClass
  StaticClass : StorageClass
  RegisterClass : StorageClass
  NoClass : StorageClass

-- keywords and punctuators are the same whatever names are typedef names
abbrev pub word_at : Place → Token → Word
word_at p t = word_of p.bytes [] t

abbrev pub has_word : Place → String → Specifiers → Bool
has_word p line s = nat_le 1 (count (word_at p) (is_text (codes line)) s)

abbrev pub storage_class : Place → Specifiers → StorageClass
storage_class p s =
    if has_word p "typedef" s then TypedefClass
    else if has_word p "extern" s then ExternClass
    else if has_word p "static" s then StaticClass
    else if has_word p "register" s then RegisterClass
    else NoClass

-- 6.2.2 ---------------------------------------------------------------------------------------------------------------

abbrev pub is_linked : Linkage → Bool
is_linked NoLinkage = false
is_linked _ = true

abbrev pub is_external : Linkage → Bool
is_external External = true
is_external _ = false

abbrev pub linkage_of : Meaning → Linkage
linkage_of (Variable t l d s) = l
linkage_of (FunctionNamed t l d) = l
linkage_of _ = NoLinkage

abbrev pub linkage_in_sight : Option Meaning → Linkage
linkage_in_sight None = NoLinkage
linkage_in_sight (Some m) = linkage_of m

abbrev pub or_external : Linkage → Linkage
or_external NoLinkage = External
or_external l = l

-- as the declaration in sight has, where it has linkage, else external
abbrev pub as_in_sight : Place → List ℕ → Linkage
as_in_sight p name = or_external (linkage_in_sight (meaning_of (meant p name)))

-- 6.2.2: a function without a storage class is declared as with `extern`
abbrev pub function_linkage : Place → StorageClass → List ℕ → Linkage
function_linkage p StaticClass name = Internal
function_linkage p _ name = as_in_sight p name

abbrev pub object_linkage : Place → StorageClass → List ℕ → Linkage
object_linkage p ExternClass name = as_in_sight p name
object_linkage p StaticClass name = if is_file_scope p.scope then Internal else NoLinkage
object_linkage p _ name = if is_file_scope p.scope then External else NoLinkage

-- 6.2.4, 6.7.1
abbrev pub storage : StorageClass → Linkage → Storage
storage StaticClass l = Static
storage RegisterClass NoLinkage = Register
storage _ NoLinkage = Automatic
storage _ l = Static

-- 6.7, 6.9.2: an object with an initialiser is defined, and so is one of a block without `extern`
abbrev pub defining : Place → StorageClass → Bool → Defining
defining p class true = Defines
defining p ExternClass false = Declares
defining p class false = if is_file_scope p.scope then Tentative else Defines

-- 6.2.7 ---------------------------------------------------------------------------------------------------------------

abbrev pub unqualified_type : Option Qualified → Option CType
unqualified_type None = None
unqualified_type (Some t) = Some t.type

abbrev pub type_of : Meaning → Option CType
type_of (Variable t l d s) = unqualified_type t
type_of (FunctionNamed t l d) = t
type_of _ = None

abbrev pub linked_type : Option Meaning → Option CType
linked_type None = None
linked_type (Some m) = if is_linked (linkage_of m) then type_of m else None

-- the composite type, where the types are compatible
abbrev pub joined_with : Option CType → CType → CType
joined_with None t = t
joined_with (Some u) t = if compatible u t then composite u t else t

-- the type of a name with linkage, joined with the one in sight
abbrev pub type_joined : Place → Linkage → List ℕ → CType → CType
type_joined p NoLinkage name t = t
type_joined p l name t = joined_with (linked_type (meaning_of (meant p name))) t

abbrev pub object_type : Place → Linkage → List ℕ → Option Qualified → Option Qualified
object_type p l name None = None
object_type p l name (Some t) = Some (record t { type = type_joined p l name t.type })

-- 6.2.2: entries that mean one object or function: of one name, both with external linkage, or of one file with linkage
abbrev pub are_one : Entry → Entry → Bool
are_one e d =
    bytes_eq e.name d.name
    && ((is_external (linkage_of e.meaning) && is_external (linkage_of d.meaning))
    || (is_linked (linkage_of e.meaning) && is_linked (linkage_of d.meaning) && e.file == d.file))

-- declarations --------------------------------------------------------------------------------------------------------

abbrev pub function_type : Place → Linkage → List ℕ → Option Qualified → Option CType
function_type p l name None = None
function_type p l name (Some t) = Some (type_joined p l name t.type)

abbrev pub function_declared : Place → StorageClass → Defining → List ℕ → Option Qualified → Meaning
function_declared p class d name t =
    let l = function_linkage p class name in FunctionNamed (function_type p l name t) l d

abbrev pub object_declared : Place → StorageClass → Bool → List ℕ → Option Qualified → Meaning
object_declared p class initialised name t =
    let l = object_linkage p class name in
    Variable (object_type p l name t) l (defining p class initialised) (storage class l)

-- 6.7: what a declarator with this type declares, a function or not, after specifiers with this storage class, before
-- an initialiser or not
abbrev pub declared_as : Place → StorageClass → Bool → Bool → List ℕ → Option Qualified → Meaning
declared_as p TypedefClass is_function initialised name t = TypeNamed t
declared_as p class true initialised name t = function_declared p class Declares name t
declared_as p class false initialised name t = object_declared p class initialised name t
