-- The size and the alignment of a type at a place, none where the type is incomplete there (C99 6.2.5, 6.5.3.4); the
-- members of structs, which are aligned naturally (6.7.2.1).
use Rattle.std.specs.Prelude.{ℕ, ◌+◌, ◌-◌, ◌*◌, ◌/◌, ◌==◌, max, Bool, true, false, ◌&&◌, ◌||◌, not, nat_le, List}
use Rattle.std.specs.Prelude.{[], ◌∷◌, reverse, Option, Some, None, if◌then◌else◌}
use Rattle.std.specs.Option.{is_some}
use Rattle.std.specs.Str.{bytes_eq}
use Rattle.ck_types.specs.IntegerTypes.{size}
use Rattle.ck_types.specs.Types.{StructIdentity, CType, Void, Integer, Pointer, Array, Struct, Function, same_struct}
use Rattle.ck_prog.specs.Declarations.{Layout, MemberOf, Meaning, StructTag, Member, Completed, Entry, Place}
use Rattle.ck_prog.specs.Declarations.{latest, meaning_of}
use Rattle.ck_prog.specs.TypeClasses.{Qualified}

-- an array has at most so many elements, and an object of a type at most so many bytes
abbrev pub most_elements : ℕ
most_elements = 1048576

abbrev pub most_bytes : ℕ
most_bytes = 16777216

abbrev pub is_small : Option Layout → Bool
is_small None = false
is_small (Some l) = nat_le l.size most_bytes

abbrev pub is_large : Option Layout → Bool
is_large None = false
is_large (Some l) = not (nat_le l.size most_bytes)

abbrev pub if_small : Option Layout → Option Layout
if_small l = if is_small l then l else None

abbrev pub bytes : ℕ → Layout
bytes n = record { size = n; alignment = n }

abbrev pub times : Option ℕ → Option Layout → Option Layout
times (Some n) (Some l) = Some (record { size = n * l.size; alignment = l.alignment })
times _ _ = None

-- structs -------------------------------------------------------------------------------------------------------------

abbrev pub completes : StructIdentity → Meaning → Bool
completes s (Completed t layout constant) = same_struct s t
completes s _ = false

-- where a file has come to know the struct's members
abbrev pub completion : Place → StructIdentity → Option Meaning
completion p s = meaning_of (latest (λ e. completes s e.meaning && e.file == p.file) p.declared)

abbrev pub completed_layout : Option Meaning → Option Layout
completed_layout (Some (Completed s layout constant)) = if_small layout
completed_layout _ = None

abbrev pub completed_constant : Option Meaning → Bool
completed_constant (Some (Completed s layout constant)) = constant
completed_constant _ = false

-- types ---------------------------------------------------------------------------------------------------------------

abbrev pub layout : Place → CType → Option Layout
layout p Void = None
layout p (Integer t) = Some (bytes (size t))
layout p (Pointer q t) = Some (bytes 4)
layout p (Array q t n) = times n (layout p t)
layout p (Struct s) = completed_layout (completion p s)
layout p (Function q t ps more) = None

-- 6.2.5: objects of the type can be there
abbrev pub is_complete : Place → CType → Bool
is_complete p t = is_some (layout p t)

-- where the type is missing nothing more is refused
abbrev pub is_complete_type : Place → Option CType → Bool
is_complete_type p None = true
is_complete_type p (Some t) = is_complete p t

-- 6.3.2.1: a part of an object of the type is const
abbrev pub has_constant : Place → CType → Bool
has_constant p (Array q t n) = q.constant || has_constant p t
has_constant p (Struct s) = completed_constant (completion p s)
has_constant p _ = false

-- members -------------------------------------------------------------------------------------------------------------

abbrev pub is_member : StructIdentity → Meaning → Bool
is_member s (Member m) = same_struct s m.of
is_member s _ = false

abbrev pub is_tag_of : StructIdentity → Meaning → Bool
is_tag_of s (StructTag t) = same_struct s t
is_tag_of s m = false

-- the members after the latest tag of a struct, the latest first
abbrev pub members_down : ℕ → StructIdentity → List Entry → List Entry
members_down file s [] = []
members_down file s (e ∷ es) =
    if e.file == file && is_tag_of s e.meaning then []
    else if e.file == file && is_member s e.meaning then e ∷ members_down file s es
    else members_down file s es

-- 6.7.2.1: the members of a struct that a file knows, in order
abbrev pub members_in : ℕ → StructIdentity → List Entry → List Entry
members_in file s declared = reverse (members_down file s declared)

abbrev pub members_of : Place → StructIdentity → List Entry
members_of p s = members_in p.file s p.declared

-- a tag stands before the members of its body
abbrev pub is_in_body : StructIdentity → Meaning → Bool
is_in_body s m = is_tag_of s m || is_member s m

-- the last member of the body that is open, or its tag. The parameters of a function that is defined are declared
-- twice, and with them the bodies in them.
abbrev pub last_in_body : Place → StructIdentity → Option Meaning
last_in_body p s = meaning_of (latest (λ e. is_in_body s e.meaning && e.file == p.file) p.declared)

-- the member of a name
abbrev pub member_named : Place → StructIdentity → List ℕ → Option Meaning
member_named p s name =
    meaning_of (latest (λ e. is_member s e.meaning && e.file == p.file && bytes_eq e.name name) p.declared)

-- the next multiple of an alignment
abbrev pub aligned : ℕ → ℕ → ℕ
aligned n alignment = (n + (alignment - 1)) / alignment * alignment

-- the struct before a next member
abbrev pub front_before : Option Meaning → Option Layout
front_before (Some (Member m)) = m.front
front_before _ = Some (record { size = 0; alignment = 1 })

abbrev pub constant_before : Option Meaning → Bool
constant_before (Some (Member m)) = m.constant
constant_before _ = false

abbrev pub offset_after : Option Layout → Option Layout → Option ℕ
offset_after (Some front) (Some l) = Some (aligned front.size l.alignment)
offset_after _ _ = None

abbrev pub front_with : Option Layout → Option Layout → Option Layout
front_with (Some front) (Some l) =
    Some (record { size = aligned front.size l.alignment + l.size; alignment = max front.alignment l.alignment })
front_with _ _ = None

abbrev pub type_layout : Place → Option Qualified → Option Layout
type_layout p None = None
type_layout p (Some t) = layout p t.type

abbrev pub is_constant_member : Place → Option Qualified → Bool
is_constant_member p None = false
is_constant_member p (Some t) = t.qualifiers.constant || has_constant p t.type

-- a member of a type after those so far
abbrev pub next_member : Place → StructIdentity → Option Qualified → MemberOf
next_member p s t =
    let before = last_in_body p s in
    record {
      of = s;
      type = t;
      offset = offset_after (front_before before) (type_layout p t);
      front = front_with (front_before before) (type_layout p t);
      constant = constant_before before || is_constant_member p t;
    }

-- the struct of all members so far, with bytes at its end up to its alignment
abbrev pub padded : Option Layout → Option Layout
padded None = None
padded (Some front) = Some (record front { size = aligned front.size front.alignment })

abbrev pub completed : Place → StructIdentity → Meaning
completed p s = let last = last_in_body p s in Completed s (padded (front_before last)) (constant_before last)
