-- What an answer about the types of two numbers says, whichever structs the numbers of structs name.
use Rattle.std.specs.Prelude.{◌≡◌, ◌||◌, ℕ, Bool, List}
use Rattle.ck_compatible.specs.Compatible.{IsOneToOne}
use Rattle.ck_conversions.specs.Parts.{type_in}
use Rattle.ck_prog.specs.AssignmentSenses.{takes}
use Rattle.ck_prog.specs.BinarySenses.{are_void_and_object}
use Rattle.ck_types.specs.Types.{CType, StructIdentity, compatible}
use Rattle.ck_types.specs.declared.types.Node.{Node}
use Rattle.ck_types.specs.declared.types.TypeId.{TypeId}

-- the answer is what is asked of the plain types that two numbers stand for
abbrev pub Tells : List Node → TypeId → TypeId → (CType → CType → Bool) → Bool → Type 0
Tells ns a b question answer =
    (identity : ℕ → StructIdentity) → IsOneToOne identity
    → answer ≡ question (type_in identity ns a) (type_in identity ns b)

-- 6.5.9, 6.5.16.1: what two pointers point to is compatible, or the one is `void` and the other an object
abbrev pub alike : CType → CType → Bool
alike t u = compatible t u || are_void_and_object t u

-- 6.5.16.1: whether an object of a type takes a value of another, which may be a null pointer constant
abbrev pub takes_by : Bool → CType → CType → Bool
takes_by null to t = takes to null t
