-- The node of a composite type (C99 6.2.7): that of the first type, over the numbers of the composites of the parts, of
-- known size where one is. Private contracts alone speak of it.
use Rattle.std.specs.Prelude.{ℕ, Option, None}
use Rattle.ck_types.specs.Types.{known_size}
use Rattle.ck_types.specs.declared.types.CType.{CType}
use Rattle.ck_types.specs.declared.types.CType.TheVariants as types
use Rattle.ck_types.specs.declared.types.Node.{Node}
use Rattle.ck_types.specs.declared.types.Node.TheVariants as nodes
use Rattle.ck_types.specs.declared.types.ParametersId.{ParametersId}
use Rattle.ck_types.specs.declared.types.TypeId.{TypeId}

abbrev pub size_in : Node → Option ℕ
size_in (nodes.Type (types.Array q of n)) = n
size_in _ = None

abbrev pub composite_type : CType → Option ℕ → TypeId → ParametersId → CType
composite_type (types.Pointer q to) size part list = types.Pointer q part
composite_type (types.Array q of n) size part list = types.Array q part (known_size n size)
composite_type (types.Function q result ps v) size part list = types.Function q part list v
composite_type t size part list = t

abbrev pub composite_node : Node → Node → TypeId → ParametersId → Node
composite_node (nodes.Type t) m part list = nodes.Type (composite_type t (size_in m) part list)
composite_node nodes.NoParameters m part list = nodes.NoParameters
composite_node (nodes.Parameter first rest) m part list = nodes.Parameter part list
