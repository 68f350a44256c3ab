-- What two nodes of a table have in common apart from the numbers that they name, and what they name (C99 6.2.7).
use Rattle.std.specs.Prelude.{ℕ, Bool, true, false, ◌&&◌, ◌==◌, Option, Some, None}
use Rattle.ck_types.specs.SameNodes.{same_written}
use Rattle.ck_types.specs.Types.{same_integer, same_size, same_truth}
use Rattle.ck_types.specs.declared.types.CType.{CType}
use Rattle.ck_types.specs.declared.types.CType.TheVariants as types
use Rattle.ck_types.specs.declared.types.Node.{Node}
use Rattle.ck_types.specs.declared.types.Node.TheVariants as nodes

abbrev pub types_agree : CType → CType → Bool
types_agree types.Void types.Void = true
types_agree (types.Integer t) (types.Integer u) = same_integer t u
types_agree (types.Pointer p t) (types.Pointer q u) = same_written p q
types_agree (types.Array p t n) (types.Array q u m) = same_written p q && same_size n m
types_agree (types.Struct s) (types.Struct t) = s.0 == t.0
types_agree (types.Function p t ps v) (types.Function q u qs w) = same_written p q && same_truth v w
types_agree _ _ = false

abbrev pub agree : Node → Node → Bool
agree (nodes.Type t) (nodes.Type u) = types_agree t u
agree nodes.NoParameters nodes.NoParameters = true
agree (nodes.Parameter t ps) (nodes.Parameter u qs) = true
agree _ _ = false

-- the type that a node is made of, or the first parameter of a list
abbrev pub named_type : Node → Option ℕ
named_type (nodes.Type (types.Pointer q to)) = Some to.0
named_type (nodes.Type (types.Array q of n)) = Some of.0
named_type (nodes.Type (types.Function q result ps v)) = Some result.0
named_type (nodes.Parameter first rest) = Some first.0
named_type _ = None

-- the parameters of a function, or those of a list after its first
abbrev pub named_list : Node → Option ℕ
named_list (nodes.Type (types.Function q result ps v)) = Some ps.0
named_list (nodes.Parameter first rest) = Some rest.0
named_list _ = None
