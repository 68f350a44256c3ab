-- Nodes of a table beside each other, as the code compares them and hashes them.
use Rattle.std.specs.Prelude.{ℕ, Bool, true, false, ◌&&◌, ◌==◌, Option, Some, None, List, ◌++◌}
use Rattle.std.specs.Hash as fed
use Rattle.ck_types.specs.IntegerTypes.{rank}
use Rattle.ck_types.specs.Types.{same_integer, same_truth}
use Rattle.ck_types.specs.declared.types.CType.{CType}
use Rattle.ck_types.specs.declared.types.CType.TheVariants as types
use Rattle.ck_types.specs.declared.types.Node.{Node}
use Rattle.ck_types.specs.declared.types.Node.TheVariants as nodes
use Rattle.ck_types.specs.declared.types.Qualifiers.{Qualifiers}

abbrev pub same_written : Qualifiers → Qualifiers → Bool
same_written p q = same_truth p.constant q.constant && same_truth p.volatile q.volatile

abbrev pub same_count : Option ℕ → Option ℕ → Bool
same_count None None = true
same_count (Some n) (Some m) = n == m
same_count _ _ = false

abbrev pub same_type : CType → CType → Bool
same_type types.Void types.Void = true
same_type (types.Integer t) (types.Integer u) = same_integer t u
same_type (types.Pointer p t) (types.Pointer q u) = same_written p q && t.0 == u.0
same_type (types.Array p t n) (types.Array q u m) = same_written p q && t.0 == u.0 && same_count n m
same_type (types.Struct s) (types.Struct t) = s.0 == t.0
same_type (types.Function p t ps v) (types.Function q u qs w) =
    same_written p q && t.0 == u.0 && ps.0 == qs.0 && same_truth v w
same_type _ _ = false

abbrev pub same_node : Node → Node → Bool
same_node (nodes.Type t) (nodes.Type u) = same_type t u
same_node nodes.NoParameters nodes.NoParameters = true
same_node (nodes.Parameter t ps) (nodes.Parameter u qs) = t.0 == u.0 && ps.0 == qs.0
same_node _ _ = false

-- what a node is hashed by: its kind, and two numbers of what it is made of
abbrev pub count_or_none : Option ℕ → ℕ
count_or_none None = 0
count_or_none (Some n) = n

abbrev pub digest : Node → ℕ × ℕ × ℕ
digest nodes.NoParameters = (0, 0, 0)
digest (nodes.Parameter first rest) = (1, first.0, rest.0)
digest (nodes.Type types.Void) = (2, 0, 0)
digest (nodes.Type (types.Integer t)) = (3, rank t, 0)
digest (nodes.Type (types.Pointer q to)) = (4, to.0, 0)
digest (nodes.Type (types.Array q of n)) = (5, of.0, count_or_none n)
digest (nodes.Type (types.Struct s)) = (6, s.0, 0)
digest (nodes.Type (types.Function q result parameters variadic)) = (7, result.0, parameters.0)

abbrev pub writes : Node → List (List ℕ)
writes n = let (kind, first, second) = digest n in fed.u8 kind ++ (fed.u32 first ++ fed.u32 second)
