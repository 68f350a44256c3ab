-- The classes of types, their qualifiers and the types that values have (C99 6.2.5, 6.3.1, 6.3.2.1, 6.7.3).
use Rattle.std.specs.Prelude.{Bool, true, false, ◌&&◌, ◌||◌, not, if◌then◌else◌}
use Rattle.ck_types.specs.Types.{Qualifiers, CType, Void, Integer, Pointer, Array, Struct, Function, same_struct}
use Rattle.ck_types.specs.declared.integer_types.IntegerType.TheVariants as integers

-- a type with its qualifiers
pub record Qualified : Type 0 where
  pub qualifiers : Qualifiers
  pub type : CType

abbrev pub plain : Qualifiers
plain = record { constant = false; volatile = false }

abbrev pub unqualified : CType → Qualified
unqualified t = record { qualifiers = plain; type = t }

-- 6.7.3: the qualifiers of both
abbrev pub both : Qualifiers → Qualifiers → Qualifiers
both p q = record { constant = p.constant || q.constant; volatile = p.volatile || q.volatile }

-- each qualifier of the first is one of the second
abbrev pub are_among : Qualifiers → Qualifiers → Bool
are_among p q = (not p.constant || q.constant) && (not p.volatile || q.volatile)

abbrev pub int : CType
int = Integer integers.Int

abbrev pub char : CType
char = Integer integers.Char

-- 6.5.3.4, 7.17: the type of a size, `unsigned int`
abbrev pub size_type : CType
size_type = Integer integers.UnsignedInt

abbrev pub is_void : CType → Bool
is_void Void = true
is_void _ = false

abbrev pub is_integer : CType → Bool
is_integer (Integer t) = true
is_integer _ = false

abbrev pub is_truth : CType → Bool
is_truth (Integer integers.Bool) = true
is_truth _ = false

abbrev pub is_pointer : CType → Bool
is_pointer (Pointer q t) = true
is_pointer _ = false

-- 6.2.5: arithmetic types and pointer types are scalar; there are no other arithmetic types than integer types
abbrev pub is_scalar : CType → Bool
is_scalar t = is_integer t || is_pointer t

abbrev pub is_array : CType → Bool
is_array (Array q t n) = true
is_array _ = false

abbrev pub is_function : CType → Bool
is_function (Function q t ps more) = true
is_function _ = false

abbrev pub is_function_pointer : CType → Bool
is_function_pointer (Pointer q t) = is_function t
is_function_pointer _ = false

-- a function pointer, or an array of them
abbrev pub holds_function_pointers : CType → Bool
holds_function_pointers (Array q t n) = holds_function_pointers t
holds_function_pointers t = is_function_pointer t

abbrev pub is_same_struct : CType → CType → Bool
is_same_struct (Struct s) (Struct t) = same_struct s t
is_same_struct _ _ = false

-- 6.3.2.1: the type of a value: an array is a pointer to its first element, a function a pointer to it
abbrev pub as_value : CType → CType
as_value (Array q t n) = Pointer q t
as_value (Function q t ps more) = Pointer plain (Function q t ps more)
as_value t = t

-- 6.7.3: a type with qualifiers put on it; those of an array are its elements'
abbrev pub elements_qualified : Qualifiers → CType → CType
elements_qualified q (Array p t n) = Array (if is_array t then p else both p q) (elements_qualified q t) n
elements_qualified q t = t

abbrev pub qualified : Qualifiers → Qualified → Qualified
qualified q t =
    record {
      qualifiers = if is_array t.type then t.qualifiers else both q t.qualifiers;
      type = elements_qualified q t.type;
    }
