-- What a declarator makes of the type before it: pointers, arrays and functions (C99 6.7.5). Of a missing type nothing
-- is made.
use Rattle.std.specs.Prelude.{ℕ, Bool, false, ◌&&◌, ◌||◌, not, nat_le, List, [], ◌∷◌, Option, Some, None}
use Rattle.std.specs.Prelude.{if◌then◌else◌, pos}
use Rattle.ck_base.specs.declared.tokens.Token.{Token}
use Rattle.ck_grammar.specs.Trees.{MoreParams, NoMore}
use Rattle.ck_types.specs.Types.{Qualifiers, Pointer, Array, Function, Parameters, NoParameters, Parameter}
use Rattle.ck_prog.specs.Declarations.{Place, is_written}
use Rattle.ck_prog.specs.Senses.{Constancy, Known}
use Rattle.ck_prog.specs.Sizes.{layout, is_complete, is_small, most_elements}
use Rattle.ck_prog.specs.Tags.{adjusted}
use Rattle.ck_prog.specs.TypeClasses.{Qualified, plain, unqualified, is_array, is_function, is_void}

-- 6.7.5.1 -------------------------------------------------------------------------------------------------------------

abbrev pub pointer_to : Qualifiers → Option Qualified → Option Qualified
pointer_to q None = None
pointer_to q (Some t) = Some (record { qualifiers = q; type = Pointer t.qualifiers t.type })

-- 6.7.5.2 -------------------------------------------------------------------------------------------------------------

-- how many elements a size gives: a constant from 1 to the most
abbrev pub element_count : Constancy → Option ℕ
element_count (Known (pos n)) = if nat_le 1 n && nat_le n most_elements then Some n else None
element_count _ = None

-- elements are of a complete type
abbrev pub array_of : Place → Option ℕ → Option Qualified → Option Qualified
array_of p n None = None
array_of p n (Some t) =
    if is_complete p t.type then Some (unqualified (Array t.qualifiers t.type n)) else None

-- what is made, where it isn't too large
abbrev pub if_small_type : Place → Option Qualified → Option Qualified
if_small_type p None = None
if_small_type p (Some t) = if is_small (layout p t.type) then Some t else None

abbrev pub counted_array : Place → Option ℕ → Option Qualified → Option Qualified
counted_array p None t = None
counted_array p (Some n) t = if_small_type p (array_of p (Some n) t)

-- 6.7.5.3 -------------------------------------------------------------------------------------------------------------

-- the types of parameters, without qualifiers of their own, and whether `...` is at their end; none where one is
-- missing
abbrev pub Signature : Type 0
Signature = Option (Parameters × Bool)

abbrev pub no_parameters : Signature
no_parameters = Some (NoParameters, false)

abbrev pub with_type : Option Qualified → Signature → Signature
with_type (Some t) (Some ps) = Some (Parameter t.type ps.0, ps.1)
with_type _ _ = None

abbrev pub with_next_type : Option Qualified → Signature → Signature
with_next_type t others = with_type (adjusted t) others

abbrev pub is_only_void : Option Qualified → Bool
is_only_void None = false
is_only_void (Some t) = is_void t.type && not t.qualifiers.constant && not t.qualifiers.volatile

-- one of type `void` without a name, the only one, is no parameter
abbrev pub is_no_parameter : Option Token → Option Qualified → MoreParams → Bool
is_no_parameter None t NoMore = is_only_void t
is_no_parameter _ t _ = false

abbrev pub with_first_type : Option Token → Option Qualified → MoreParams → Signature → Signature
with_first_type name t more others = if is_no_parameter name t more then no_parameters else with_next_type t others

-- the result of a function is no array and no function
abbrev pub function_of : Signature → Option Qualified → Option Qualified
function_of None t = None
function_of (Some ps) None = None
function_of (Some ps) (Some t) =
    if is_array t.type || is_function t.type then None
    else Some (unqualified (Function t.qualifiers t.type ps.0 ps.1))

-- declarators ---------------------------------------------------------------------------------------------------------

-- what a part of a declarator says of the name
pub data Derivation : Type 0 where
  -- a pointer with these qualifiers to what the rest says
  PointerTo : Qualifiers → Derivation
  -- an array of unknown size, or of a size that is an expression of this constancy, of what the rest says
  OpenArray : Derivation
  SizedArray : Constancy → Derivation
  -- a function of these parameters with the result that the rest says
  FunctionOf : Signature → Derivation

-- at the place after the declarator
abbrev pub made_by : Place → Derivation → Option Qualified → Option Qualified
made_by p (PointerTo q) t = pointer_to q t
made_by p OpenArray t = array_of p None t
made_by p (SizedArray c) t = counted_array p (element_count c) t
made_by p (FunctionOf ps) t = function_of ps t

-- the type that is made of a base type; the first of these says what the name is, the last what the base type becomes
abbrev pub made : Place → List Derivation → Option Qualified → Option Qualified
made p [] t = t
made p (d ∷ ds) t = made_by p d (made p ds t)

-- elements of an incomplete type or of functions, or a result that is an array or a function
abbrev pub is_impossible_by : Place → Derivation → Option Qualified → Bool
is_impossible_by p OpenArray (Some t) = not (is_complete p t.type)
is_impossible_by p (SizedArray c) (Some t) = not (is_complete p t.type)
is_impossible_by p (FunctionOf ps) (Some t) = is_array t.type || is_function t.type
is_impossible_by p _ _ = false

abbrev pub is_impossible : Place → List Derivation → Option Qualified → Bool
is_impossible p [] t = false
is_impossible p (d ∷ ds) t = is_impossible p ds t || is_impossible_by p d (made p ds t)

-- 6.7.5.1: `*` and the qualifiers after it; `restrict` has no effect
abbrev pub with_qualifier : Place → Token → Qualifiers → Qualifiers
with_qualifier p t q =
    record { constant = q.constant || is_written p t "const"; volatile = q.volatile || is_written p t "volatile" }

abbrev pub pointers_after : Place → Qualifiers → List Token → List Derivation → List Derivation
pointers_after p q [] ds = PointerTo q ∷ ds
pointers_after p q (t ∷ ts) ds =
    if is_written p t "*" then pointers_after p plain ts (PointerTo q ∷ ds)
    else pointers_after p (with_qualifier p t q) ts ds

-- the last `*` says what the name is
abbrev pub pointers : Place → List Token → List Derivation
pointers p [] = []
pointers p (star ∷ ts) = pointers_after p plain ts []
