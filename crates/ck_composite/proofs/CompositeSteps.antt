-- The node of a composite stands for the composite of what two nodes stand for, where its parts do.
use Rattle.std.proofs.Common.{◌≡◌, ℕ, true, List, Option, Some, refl, ap, ◌∙◌}
use Rattle.std.specs.Prelude.{⊤}
use Rattle.ck_compatible.specs.Agreement.{agree, named_list, named_type, types_agree}
use Rattle.ck_composite.specs.Composite.{IsComposite}
use Rattle.ck_composite.specs.CompositeNodes.{composite_node, composite_type, size_in}
use Rattle.ck_composite.specs.Made.{composite_entry}
use Rattle.ck_types.specs.NodeEquality.{and-true}
use Rattle.ck_types.specs.TypeTable.{AList, AType, Entry, entries_of, entry_of, fits, fits_type, is_type, list_at}
use Rattle.ck_types.specs.TypeTable.{names_list, names_type, plain_qualifiers, type_at, type_of}
use Rattle.ck_types.specs.Types.{Array, Function, Parameter, Pointer, StructIdentity, all_composite, composite}
use Rattle.ck_types.specs.Types.{known_size}
use Rattle.ck_types.specs.declared.types.CType.{CType}
use Rattle.ck_types.specs.declared.types.CType.TheVariants as types
use Rattle.ck_types.specs.declared.types.Node.{Node}
use Rattle.ck_types.specs.declared.types.Node.TheVariants as nodes
use Rattle.ck_types.specs.declared.types.ParametersId.{ParametersId}
use Rattle.ck_types.specs.declared.types.TypeId.{TypeId}

pub composite_node-kind : (n m : Node) (part : TypeId) (list : ParametersId)
    → is_type (composite_node n m part list) ≡ is_type n
composite_node-kind (nodes.Type t) m part list = refl
composite_node-kind nodes.NoParameters m part list = refl
composite_node-kind (nodes.Parameter first rest) m part list = refl

module _ (old new : List Node) where
  -- a number is that of the composite of two parts, where there are two
  abbrev pub IsTypePart : Option ℕ → Option ℕ → ℕ → Type 0
  IsTypePart (Some c) (Some d) t = (names_type new t ≡ true) × IsComposite old new c d t
  IsTypePart _ _ t = ⊤

  abbrev pub IsListPart : Option ℕ → Option ℕ → ℕ → Type 0
  IsListPart (Some c) (Some d) l = (names_list new l ≡ true) × ((identity : ℕ → StructIdentity)
      → list_at (entries_of identity new) l
      ≡ all_composite (list_at (entries_of identity old) c) (list_at (entries_of identity old) d))
  IsListPart _ _ l = ⊤

  module _ (part : TypeId) (list : ParametersId) where
    type-fits : (t u : CType) → types_agree t u ≡ true
        → IsTypePart (named_type (nodes.Type t)) (named_type (nodes.Type u)) part.0
        → IsListPart (named_list (nodes.Type t)) (named_list (nodes.Type u)) list.0
        → fits_type new (composite_type t (size_in (nodes.Type u)) part list) ≡ true
    type-fits types.Void types.Void agrees made lists = refl
    type-fits (types.Integer t) (types.Integer u) agrees made lists = refl
    type-fits (types.Pointer p t) (types.Pointer q u) agrees made lists = made.0
    type-fits (types.Array p t n) (types.Array q u m) agrees made lists = made.0
    type-fits (types.Struct s) (types.Struct t) agrees made lists = refl
    type-fits (types.Function p t ps v) (types.Function q u qs w) agrees made lists = and-true made.0 lists.0
    type-fits _ _ agrees made lists = absurd (cc)

    -- the node names what is in the table
    pub node-fits : (n m : Node) → agree n m ≡ true → IsTypePart (named_type n) (named_type m) part.0
        → IsListPart (named_list n) (named_list m) list.0 → fits new (composite_node n m part list) ≡ true
    node-fits (nodes.Type t) (nodes.Type u) agrees made lists = type-fits t u agrees made lists
    node-fits nodes.NoParameters nodes.NoParameters agrees made lists = refl
    node-fits (nodes.Parameter t ps) (nodes.Parameter u qs) agrees made lists = and-true made.0 lists.0
    node-fits _ _ agrees made lists = absurd (cc)

    module _ (identity : ℕ → StructIdentity) where
      abbrev es : List Entry
      es = entries_of identity old

      abbrev fs : List Entry
      fs = entries_of identity new

      type-step : (t u : CType) → types_agree t u ≡ true
          → IsTypePart (named_type (nodes.Type t)) (named_type (nodes.Type u)) part.0
          → IsListPart (named_list (nodes.Type t)) (named_list (nodes.Type u)) list.0
          → type_of identity fs (composite_type t (size_in (nodes.Type u)) part list)
          ≡ composite (type_of identity es t) (type_of identity es u)
      type-step types.Void types.Void agrees made lists = refl
      type-step (types.Integer t) (types.Integer u) agrees made lists = refl
      type-step (types.Pointer p t) (types.Pointer q u) agrees made lists =
          ap (Pointer (plain_qualifiers p)) (made.1 identity)
      type-step (types.Array p t n) (types.Array q u m) agrees made lists =
          ap (λ x. Array (plain_qualifiers p) x (known_size n m)) (made.1 identity)
      type-step (types.Struct s) (types.Struct t) agrees made lists = refl
      type-step (types.Function p t ps v) (types.Function q u qs w) agrees made lists =
          ap (λ x. Function (plain_qualifiers p) x (list_at fs list.0) v) (made.1 identity)
          ∙ ap (λ xs. Function (plain_qualifiers p) (composite (type_at es t.0) (type_at es u.0)) xs v)
          (lists.1 identity)
      type-step _ _ agrees made lists = absurd (cc)

      pub node-step : (n m : Node) → agree n m ≡ true → IsTypePart (named_type n) (named_type m) part.0
          → IsListPart (named_list n) (named_list m) list.0 → entry_of identity fs (composite_node n m part list)
          ≡ composite_entry (entry_of identity es n) (entry_of identity es m)
      node-step (nodes.Type t) (nodes.Type u) agrees made lists = ap AType (type-step t u agrees made lists)
      node-step nodes.NoParameters nodes.NoParameters agrees made lists = refl
      node-step (nodes.Parameter t ps) (nodes.Parameter u qs) agrees made lists =
          ap (λ x. AList (Parameter x (list_at fs list.0))) (made.1 identity)
          ∙ ap (λ xs. AList (Parameter (composite (type_at es t.0) (type_at es u.0)) xs)) (lists.1 identity)
      node-step _ _ agrees made lists = absurd (cc)
