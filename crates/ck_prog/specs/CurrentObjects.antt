-- The object that an initialiser in braces is for (C99 6.7.8). Where braces are left out, the parts of a part come
-- next, so what is open is a list, the innermost first, each with the number of the part that is next.
use Rattle.std.specs.Prelude.{ℕ, suc, ◌-◌, ◌==◌, Bool, true, false, ◌&&◌, not, nat_lt, List, [], ◌∷◌, ◌++◌}
use Rattle.std.specs.Prelude.{position, Option, Some, None, if◌then◌else◌, pos}
use Rattle.std.specs.Option.{is_some}
use Rattle.std.specs.Str.{bytes_eq}
use Rattle.ck_grammar.specs.Statements.{Designators, Equals, DotName, AtIndex}
use Rattle.ck_grammar.specs.Trees.{Expr, Strings}
use Rattle.ck_types.specs.Types.{CType, Integer, Array, Struct}
use Rattle.ck_types.specs.declared.integer_types.IntegerType.TheVariants.{Char, SignedChar}
use Rattle.ck_prog.specs.Declarations.{MemberOf, Meaning, Member, Entry, Place, text}
use Rattle.ck_prog.specs.Linking.{unqualified_type}
use Rattle.ck_prog.specs.Senses.{Constancy, Known}
use Rattle.ck_prog.specs.Sizes.{is_complete_type, members_of, most_elements}
use Rattle.ck_prog.specs.TypeClasses.{is_same_struct}
use Rattle.ck_prog.specs.Typing.{sense, after}

-- the object that is initialised, or a part of it
pub record Object : Type 0 where
  -- the numbers of the parts that lead to it from the whole object: members and elements from 0
  pub path : List ℕ
  -- none where it is missing
  pub type : Option CType
  -- the last member on the path, if any
  pub member : Option MemberOf

-- what is open
pub data Open : Type 0 where
  -- an array or struct, and which part of it is next
  PartsOf : Object → ℕ → Open
  -- the braces round one initialiser of a whole object, and how many initialisers they have had
  WholeOf : Object → ℕ → Open

abbrev pub whole_object : Option CType → Object
whole_object t = record { path = []; type = t; member = None }

-- parts --------------------------------------------------------------------------------------------------------------

abbrev pub part_as : Object → ℕ → Option CType → Option MemberOf → Option Object
part_as o k t m = Some (record { path = o.path ++ (k ∷ []); type = t; member = m })

abbrev pub member_part : Object → ℕ → Option Meaning → Option Object
member_part o k (Some (Member m)) = part_as o k (unqualified_type m.type) (Some m)
member_part o k _ = None

abbrev pub meaning_at : List Entry → ℕ → Option Meaning
meaning_at [] k = None
meaning_at (e ∷ es) k = if k == 0 then Some e.meaning else meaning_at es (k - 1)

-- how many elements an array has, or may have
abbrev pub element_bound : Option ℕ → ℕ
element_bound None = most_elements
element_bound (Some n) = n

-- the part of this number, if there is one
abbrev pub part_by : Place → Object → ℕ → Option CType → Option Object
part_by p o k None = part_as o k None o.member
part_by p o k (Some (Array q t n)) = if nat_lt k (element_bound n) then part_as o k (Some t) o.member else None
part_by p o k (Some (Struct s)) = member_part o k (meaning_at (members_of p s) k)
part_by p o k _ = None

abbrev pub part : Place → Open → Option Object
part p (PartsOf o k) = part_by p o k o.type
part p (WholeOf o k) = if k == 0 then Some o else None

-- what is next, and what is after it ---------------------------------------------------------------------------------

abbrev pub next_object : Place → List Open → Option Object
next_object p [] = None
next_object p (o ∷ os) = part p o

abbrev pub stepped : Open → Open
stepped (PartsOf o k) = PartsOf o (suc k)
stepped (WholeOf o k) = WholeOf o (suc k)

-- 6.7.8: the next part of the innermost that has one; the outermost stays open
abbrev pub past : Place → List Open → List Open
past p [] = []
past p (o ∷ []) = stepped o ∷ []
past p (o ∷ (outer ∷ os)) = if is_some (part p (stepped o)) then stepped o ∷ (outer ∷ os) else past p (outer ∷ os)

-- values -------------------------------------------------------------------------------------------------------------

-- 6.4.5: string literals, without parentheses
abbrev pub is_string : Expr → Bool
is_string (Strings t ts) = true
is_string _ = false

abbrev pub is_character_type : CType → Bool
is_character_type (Integer Char) = true
is_character_type (Integer SignedChar) = true
is_character_type _ = false

-- an array of characters, which a string literal initialises (6.7.8)
abbrev pub is_for_string : Option CType → Bool
is_for_string (Some (Array q t n)) = is_character_type t
is_for_string _ = false

abbrev pub is_struct_of : CType → Option CType → Bool
is_struct_of t None = false
is_struct_of t (Some u) = is_same_struct t u

-- 6.7.8: an expression is for an array or a struct as a whole where it is a string for an array of characters, or has
-- the struct's type; else it is for its first part. It is for a scalar as a whole.
abbrev pub is_for_whole : Bool → Option CType → Option CType → Bool
is_for_whole string value (Some (Array q t n)) = string && is_character_type t
is_for_whole string value (Some (Struct s)) = is_struct_of (Struct s) value
is_for_whole string value _ = true

-- an object of an incomplete type isn't gone into
abbrev pub is_for_part : Place → Bool → Option CType → Option Object → Bool
is_for_part p string value None = false
is_for_part p string value (Some o) = is_complete_type p o.type && not (is_for_whole string value o.type)

abbrev pub opened : Option Object → List Open → List Open
opened None os = os
opened (Some o) os = PartsOf o 0 ∷ os

-- 6.7.8: where braces are left out, down to the first part that an expression is for. No type nests deeper than its
-- file has bytes.
abbrev pub entered : List ℕ → Place → Bool → Option CType → List Open → List Open
entered [] p string value os = os
entered (b ∷ bs) p string value os =
    if is_for_part p string value (next_object p os)
    then entered bs p string value (opened (next_object p os) os)
    else os

-- the object of an expression, among what is open
abbrev pub down_to : Place → Expr → List Open → List Open
down_to p e os = entered p.bytes p (is_string e) (sense p e).type os

-- designators --------------------------------------------------------------------------------------------------------

-- which member has this name
abbrev pub member_number : Place → Option CType → List ℕ → Option ℕ
member_number p (Some (Struct s)) name = position (λ e. bytes_eq e.name name) (members_of p s)
member_number p None name = Some 0
member_number p _ name = None

abbrev pub is_array_or_missing : Option CType → Bool
is_array_or_missing None = true
is_array_or_missing (Some (Array q t n)) = true
is_array_or_missing _ = false

-- which element a constant names
abbrev pub element_number : Place → Object → Constancy → Option ℕ
element_number p o (Known (pos n)) =
    if is_array_or_missing o.type && is_some (part_by p o n o.type) then Some n else None
element_number p o _ = None

-- an object that is open at the part of a number; nothing is open where there is no such object or part
abbrev pub opened_at : Option Object → Option ℕ → List Open → List Open
opened_at (Some o) (Some k) os = PartsOf o k ∷ os
opened_at _ _ os = []

abbrev pub member_in_object : Place → Option Object → List ℕ → Option ℕ
member_in_object p None name = None
member_in_object p (Some o) name = member_number p o.type name

abbrev pub element_in_object : Place → Option Object → Constancy → Option ℕ
element_in_object p None c = None
element_in_object p (Some o) c = element_number p o c

-- 6.7.8: what designators open, in the object that the braces are for
abbrev pub designated : Place → Option Object → List Open → Designators → List Open
designated p o os (Equals equals) = os
designated p o os (DotName dot name rest) =
    let inner = opened_at o (member_in_object p o (text p name)) os in
    designated p (next_object p inner) inner rest
designated p o os (AtIndex opening e closing rest) =
    let inner = opened_at o (element_in_object p o (sense p e).constancy) os in
    designated (after p e) (next_object p inner) inner rest
