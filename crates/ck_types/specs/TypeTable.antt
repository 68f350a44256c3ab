-- The plain types that the numbers of a table stand for: each node over the types of the nodes before it. Lists of
-- parameters are nodes too, and share their ends.
use Rattle.std.specs.Prelude.{◌≡◌, ◌≢◌, ◌<◌, ℕ, zero, suc, Bool, true, false, ◌&&◌, not, if◌then◌else◌}
use Rattle.std.specs.Prelude.{List, [], ◌∷◌, ◌++◌}
use Rattle.std.specs.Prelude.{⊤, length, slice_index_or, Option, Some, None}
use Rattle.ck_types.specs.declared.integer_types.IntegerType.{IntegerType}
use Rattle.ck_types.specs.declared.types.CType.{CType as TypeNode}
use Rattle.ck_types.specs.declared.types.CType.TheVariants as types
use Rattle.ck_types.specs.declared.types.Node.{Node}
use Rattle.ck_types.specs.declared.types.Node.TheVariants as nodes
use Rattle.ck_types.specs.declared.types.ParametersId.{ParametersId}
use Rattle.ck_types.specs.declared.types.Qualifiers.{Qualifiers as Written}
use Rattle.ck_types.specs.declared.types.TypeId.{TypeId}
use Rattle.ck_types.specs.Types.{CType, Void, Integer, Pointer, Array, Struct, Function, Parameters, NoParameters}
use Rattle.ck_types.specs.Types.{Parameter, Qualifiers, StructIdentity}

-- what a number stands for: a type, or a list of parameters
pub data Entry : Type 0 where
  AType : CType → Entry
  AList : Parameters → Entry

abbrev pub entry_at : List Entry → ℕ → Entry
entry_at [] i = AType Void
entry_at (e ∷ es) zero = e
entry_at (e ∷ es) (suc i) = entry_at es i

abbrev pub as_type : Entry → CType
as_type (AType t) = t
as_type (AList ps) = Void

abbrev pub as_list : Entry → Parameters
as_list (AType t) = NoParameters
as_list (AList ps) = ps

abbrev pub type_at : List Entry → ℕ → CType
type_at es i = as_type (entry_at es i)

abbrev pub list_at : List Entry → ℕ → Parameters
list_at es i = as_list (entry_at es i)

abbrev pub plain_qualifiers : Written → Qualifiers
plain_qualifiers q = record { constant = q.constant; volatile = q.volatile }

-- the type of a node, where these entries are before it; `identity` says which struct a number names
abbrev pub type_of : (ℕ → StructIdentity) → List Entry → TypeNode → CType
type_of identity es types.Void = Void
type_of identity es (types.Integer t) = Integer t
type_of identity es (types.Pointer q to) = Pointer (plain_qualifiers q) (type_at es to.0)
type_of identity es (types.Array q of count) = Array (plain_qualifiers q) (type_at es of.0) count
type_of identity es (types.Struct s) = Struct (identity s.0)
type_of identity es (types.Function q result parameters variadic) =
    Function (plain_qualifiers q) (type_at es result.0) (list_at es parameters.0) variadic

abbrev pub entry_of : (ℕ → StructIdentity) → List Entry → Node → Entry
entry_of identity es (nodes.Type t) = AType (type_of identity es t)
entry_of identity es nodes.NoParameters = AList NoParameters
entry_of identity es (nodes.Parameter first rest) = AList (Parameter (type_at es first.0) (list_at es rest.0))

abbrev pub entries_after : (ℕ → StructIdentity) → List Entry → List Node → List Entry
entries_after identity done [] = done
entries_after identity done (n ∷ ns) = entries_after identity (done ++ entry_of identity done n ∷ []) ns

-- what the numbers of a table stand for
unfoldable pub entries_of : (ℕ → StructIdentity) → List Node → List Entry
entries_of identity ns = entries_after identity [] ns

abbrev pub is_type : Node → Bool
is_type (nodes.Type t) = true
is_type _ = false

-- before these nodes a number is one of a type, or of a list
abbrev pub names_type : List Node → ℕ → Bool
names_type [] i = false
names_type (n ∷ ns) zero = is_type n
names_type (n ∷ ns) (suc i) = names_type ns i

abbrev pub names_list : List Node → ℕ → Bool
names_list [] i = false
names_list (n ∷ ns) zero = not (is_type n)
names_list (n ∷ ns) (suc i) = names_list ns i

-- a type node names types and lists among these nodes
abbrev pub fits_type : List Node → TypeNode → Bool
fits_type before types.Void = true
fits_type before (types.Integer t) = true
fits_type before (types.Pointer q to) = names_type before to.0
fits_type before (types.Array q of count) = names_type before of.0
fits_type before (types.Struct s) = true
fits_type before (types.Function q result parameters variadic) =
    names_type before result.0 && names_list before parameters.0

abbrev pub fits : List Node → Node → Bool
fits before (nodes.Type t) = fits_type before t
fits before nodes.NoParameters = true
fits before (nodes.Parameter first rest) = names_type before first.0 && names_list before rest.0

-- these nodes, after those before them, each name what is before them alone
abbrev pub fits_after : List Node → List Node → Bool
fits_after before [] = true
fits_after before (n ∷ ns) = fits before n && fits_after (before ++ n ∷ []) ns

abbrev pub AreDistinct : List Node → Type 0
AreDistinct ns = (i j : ℕ) (d : Node) → i < j → j < length ns → slice_index_or ns i d ≢ slice_index_or ns j d

-- each node names those before it alone, and none comes twice
pub record IsTable (ns : List Node) : Type 0 where
  pub fitting : fits_after [] ns ≡ true
  pub distinct : AreDistinct ns

-- a table has grown at its end, or not at all
pub record Extends (old new : List Node) : Type 0 where
  pub more : List Node
  pub is : new ≡ old ++ more

-- a table has this node at this number
pub record IsNode (ns : List Node) (i : ℕ) (n : Node) : Type 0 where
  pub within : i < length ns
  pub is : (d : Node) → slice_index_or ns i d ≡ n

-- what is named in a table stays named when it grows
abbrev pub KeepsTypes : List Node → List Node → Type 0
KeepsTypes old new = (i : ℕ) → names_type old i ≡ true → names_type new i ≡ true

abbrev pub KeepsLists : List Node → List Node → Type 0
KeepsLists old new = (i : ℕ) → names_list old i ≡ true → names_list new i ≡ true

-- a number is one of a type where the node is, else one of a list
abbrev pub names_as : Node → List Node → ℕ → Bool
names_as n ns i = if is_type n then names_type ns i else names_list ns i

-- the type is an integer type
abbrev pub is_integer : TypeNode → Bool
is_integer (types.Integer t) = true
is_integer _ = false

abbrev pub IfInteger : TypeNode → (IntegerType → Type 0) → Type 0
IfInteger (types.Integer t) P = P t
IfInteger _ P = ⊤

abbrev pub type_node : TypeNode → Node
type_node t = nodes.Type t

abbrev pub no_parameters : Node
no_parameters = nodes.NoParameters

abbrev pub parameter_node : TypeId → ParametersId → Node
parameter_node first rest = nodes.Parameter first rest

abbrev pub list_node : Option (TypeId × ParametersId) → Node
list_node None = nodes.NoParameters
list_node (Some (first, rest)) = nodes.Parameter first rest
