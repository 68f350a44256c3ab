-- Structs by identity, tags, enumeration constants and parameters (C99 6.7.2.1 to 6.7.2.3, 6.7.5.3): what they declare.
use Rattle.std.specs.Prelude.{ℕ, Bool, true, false, ◌&&◌, not, List, [], ◌∷◌, length, Option, Some, None}
use Rattle.std.specs.Prelude.{if◌then◌else◌, ℤ, pos}
use Rattle.std.specs.Option.{is_some}
use lib.IntN.{◌+ℤ◌}
use Rattle.ck_base.specs.declared.tokens.Token.{Token}
use Rattle.ck_grammar.specs.Trees.{Specifiers}
use Rattle.ck_types.specs.IntegerTypes.{represents}
use Rattle.ck_types.specs.Types.{StructIdentity, ByTag, ByPlace, ByMember, ByParameter, Struct}
use Rattle.ck_types.specs.declared.integer_types.IntegerType.TheVariants.{Int}
use Rattle.ck_prog.specs.Declarations.{Meaning, Variable, StructTag, EnumTag, Enumerator, Member, Place, text}
use Rattle.ck_prog.specs.Declarations.{is_written, is_file_scope, meant_tag, tag_of_scope, declaring, declaring_name}
use Rattle.ck_prog.specs.Declarations.{meaning_of}
use Rattle.ck_prog.specs.Linking.{storage, storage_class}
use Rattle.ck_prog.specs.Senses.{Constancy, Valueless, Known}
use Rattle.ck_prog.specs.Sizes.{completed, next_member, members_of}
use Rattle.ck_prog.specs.TypeClasses.{Qualified, unqualified, int, as_value, is_void}
use Rattle.ck_prog.specs.declared.names.Linkage.TheVariants.{NoLinkage}
use Rattle.ck_prog.specs.declared.names.Defining.{Defining}
use Rattle.ck_prog.specs.declared.names.Storage.{Storage}

-- What is around specifiers that matters to a struct in them: whether they are a whole declaration, as in `struct s;`
-- (6.7.2.3), whether they are in a parameter list, and which struct one without a tag is there, if not by its place.
pub record Around : Type 0 where
  pub alone : Bool
  pub parameter : Bool
  pub untagged : Option StructIdentity

abbrev pub nothing_around : Around
nothing_around = record { alone = false; parameter = false; untagged = None }

abbrev pub parameter_around : Around
parameter_around = record nothing_around { parameter = true }

-- around the specifiers of the next member of a struct, whose body is in specifiers with this around them: without a
-- tag a struct is by the one that it is in, and by how many members are before it, in each file that has the body
abbrev pub member_around : Place → Around → StructIdentity → Around
member_around p around of = record around { alone = false; untagged = Some (ByMember of (length (members_of p of))) }

-- 6.7.2.3 -------------------------------------------------------------------------------------------------------------

-- a struct without a tag is declared under a text that is spelled like no tag, with the place of `struct`
abbrev pub tag_name : Place → Token → Option Token → List ℕ
tag_name p keyword None = 0 ∷ keyword.span.start ∷ []
tag_name p keyword (Some tag) = text p tag

abbrev pub tag_token : Token → Option Token → Token
tag_token keyword None = keyword
tag_token keyword (Some tag) = tag

abbrev pub or_by_place : Place → Token → Option StructIdentity → StructIdentity
or_by_place p keyword None = ByPlace p.file keyword.span.start
or_by_place p keyword (Some s) = s

-- a struct of this tag: one of an inner scope is by its place
abbrev pub tagged_struct : Place → Token → StructIdentity
tagged_struct p tag = if is_file_scope p.scope then ByTag (text p tag) else ByPlace p.file tag.span.start

-- a struct whose body begins here
abbrev pub new_struct : Place → Around → Token → Option Token → StructIdentity
new_struct p around keyword None = or_by_place p keyword around.untagged
new_struct p around keyword (Some tag) = tagged_struct p tag

-- 6.2.1: a struct that its tag begins without a body; each parameter list has its own
abbrev pub mentioned_struct : Place → Around → Token → StructIdentity
mentioned_struct p around tag =
    if around.parameter then ByParameter (text p tag) p.file tag.span.start else tagged_struct p tag

abbrev pub identity_or : StructIdentity → Option Meaning → StructIdentity
identity_or new (Some (StructTag s)) = s
identity_or new _ = new

-- the struct that a body is the body of: the one of this tag in this scope, else a new one
abbrev pub struct_of_body : Place → Around → Token → Option Token → StructIdentity
struct_of_body p around keyword tag =
    identity_or (new_struct p around keyword tag) (meaning_of (tag_of_scope p (tag_name p keyword tag)))

abbrev pub with_struct : Place → StructIdentity → Token → Option Token → Place
with_struct p s keyword tag = declaring p (tag_name p keyword tag) (tag_token keyword tag) (StructTag s)

-- a `struct` and a tag without a body declare it, where it isn't in sight, or they are a whole declaration and it isn't
-- of this scope
abbrev pub is_new_tag : Place → Around → Token → Bool
is_new_tag p around tag =
    not (is_some (if around.alone then tag_of_scope p (text p tag) else meant_tag p (text p tag)))

abbrev pub with_mention : Place → Around → Token → Token → Place
with_mention p around keyword tag =
    if is_written p keyword "struct" && is_new_tag p around tag
    then with_struct p (mentioned_struct p around tag) keyword (Some tag) else p

-- the type that `struct` or `enum` and a tag name; none where the tag is of the other kind or isn't in sight
abbrev pub type_of_tag : Bool → Option Meaning → Option Qualified
type_of_tag true (Some (StructTag s)) = Some (unqualified (Struct s))
type_of_tag false (Some EnumTag) = Some (unqualified int)
type_of_tag _ _ = None

abbrev pub type_named_by_tag : Place → Token → List ℕ → Option Qualified
type_named_by_tag p keyword name = type_of_tag (is_written p keyword "struct") (meaning_of (meant_tag p name))

-- 6.7.2.1 -------------------------------------------------------------------------------------------------------------

abbrev pub with_member : Place → StructIdentity → Option Token → Option Qualified → Place
with_member p s name t = declaring_name p name (Member (next_member p s t))

-- after the `}` the struct's members are known
abbrev pub with_completion : Place → StructIdentity → Token → Option Token → Place
with_completion p s keyword tag = declaring p (tag_name p keyword tag) (tag_token keyword tag) (completed p s)

-- 6.7.2.2 -------------------------------------------------------------------------------------------------------------

abbrev pub with_enum : Place → Option Token → Place
with_enum p tag = declaring_name p tag EnumTag

-- the value of an enumeration constant is one of `int`
abbrev pub enumerator_value : Constancy → Option ℤ
enumerator_value (Known v) = if represents Int v then Some v else None
enumerator_value _ = None

-- the value of the next one, where it has none written
abbrev pub next_value : Constancy → Constancy
next_value (Known v) = Known (v +ℤ pos 1)
next_value c = Valueless

abbrev pub first_value : Constancy
first_value = Known (pos 0)

abbrev pub with_enumerator : Place → Token → Constancy → Place
with_enumerator p name v = declaring p (text p name) name (Enumerator (enumerator_value v))

-- 6.7.5.3 -------------------------------------------------------------------------------------------------------------

-- a parameter of an array or function type is a pointer; none is `void`
abbrev pub as_parameter : Qualified → Qualified
as_parameter t = record t { type = as_value t.type }

abbrev pub adjusted : Option Qualified → Option Qualified
adjusted None = None
adjusted (Some t) = if is_void t.type then None else Some (as_parameter t)

-- 6.7.5.3: the only storage class of a parameter is `register`
abbrev pub parameter_storage : Place → Specifiers → Storage
parameter_storage p s = storage (storage_class p s) NoLinkage

abbrev pub parameter_meaning : Place → Defining → Specifiers → Option Qualified → Meaning
parameter_meaning p d s t = Variable (adjusted t) NoLinkage d (parameter_storage p s)

abbrev pub with_parameter : Place → Defining → Specifiers → Option Token → Option Qualified → Place
with_parameter p d s name t = declaring_name p name (parameter_meaning p d s t)
