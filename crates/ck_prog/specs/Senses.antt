-- What an expression tells the one around it: its type before any conversion, whether it is an lvalue (C99 6.3.2.1), a
-- constant expression (6.6) or a null pointer constant (6.3.2.3). Operators look into no operand's tree.
use Rattle.std.specs.Prelude.{Bool, true, false, ◌&&◌, ◌||◌, not, Option, Some, None, if◌then◌else◌, ℤ, pos}
use Rattle.std.specs.Ordering.{int_eq}
use Rattle.std.specs.Option.{option_map}
use Rattle.ck_types.specs.Types.{Qualifiers, CType}
use Rattle.ck_prog.specs.TypeClasses.{plain, as_value, is_array, is_function}

-- 6.6: whether it is an integer constant expression: no; yes but without a value, as `1/0`; yes and of this value
pub data Constancy : Type 0 where
  Varying : Constancy
  Valueless : Constancy
  Known : ℤ → Constancy

pub record Sense : Type 0 where
  -- none where C99 gives none
  pub type : Option CType
  pub qualifiers : Qualifiers
  -- it designates an object
  pub lvalue : Bool
  pub constancy : Constancy
  -- it is a null pointer constant
  pub null : Bool
  -- its value is an address constant or a number (6.6); or it designates an object whose address is one
  pub fixed : Bool
  -- it designates a part of an object of storage class register (6.7.1)
  pub register : Bool

abbrev pub is_known : Constancy → Bool
is_known (Known v) = true
is_known _ = false

abbrev pub is_zero : Constancy → Bool
is_zero (Known v) = int_eq v (pos 0)
is_zero _ = false

abbrev pub no_type : Sense
no_type =
    record {
      type = None;
      qualifiers = plain;
      lvalue = false;
      constancy = Varying;
      null = false;
      fixed = false;
      register = false;
    }

-- a value of a type that is no constant
abbrev pub value : CType → Sense
value t = record no_type { type = Some t }

abbrev pub value_if : Bool → CType → Sense
value_if b t = if b then value t else no_type

-- 6.3.2.3: an integer constant expression of value 0 is a null pointer constant
abbrev pub integer : CType → Constancy → Sense
integer t c = record (value t) { constancy = c; null = is_zero c; fixed = is_known c }

-- a value that may be an address constant
abbrev pub pointer : CType → Bool → Sense
pointer t fixed = record (value t) { fixed = fixed }

-- 6.3.2.1: the type of its value
abbrev pub value_type : Sense → Option CType
value_type s = option_map as_value s.type

abbrev pub is_own_address : Option CType → Bool
is_own_address None = false
is_own_address (Some t) = is_array t || is_function t

-- 6.6: its value is an address constant or a number: the value of an array or a function is its address, that of
-- another object is what is in it
abbrev pub is_fixed_value : Sense → Bool
is_fixed_value s = s.fixed && (not s.lvalue || is_own_address s.type)

-- what is made of a type, or of two, where there are
abbrev pub from_type : Option CType → (CType → Sense) → Sense
from_type None make = no_type
from_type (Some t) make = make t

abbrev pub from_types : Option CType → Option CType → (CType → CType → Sense) → Sense
from_types (Some t) (Some u) make = make t u
from_types _ _ make = no_type
