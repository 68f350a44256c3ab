-- The types of the C subset as plain data, compatible types and composite types (C99 6.2.5, 6.2.7, 6.7.2 to 6.7.5). The
-- type of an enumeration is `int`.
use Rattle.std.specs.Prelude.{ℕ, Bool, true, false, ◌&&◌, ◌==◌, not, List, Option, Some, None}
use Rattle.std.specs.Str.{bytes_eq}
use Rattle.ck_types.specs.IntegerTypes.{rank, is_signed}
use Rattle.ck_types.specs.declared.integer_types.IntegerType.{IntegerType}

-- 6.7.3: qualifiers; `restrict` has no effect
pub record Qualifiers : Type 0 where
  pub constant : Bool
  pub volatile : Bool

-- A struct over all files: by its tag, else by the first typedef name of its declaration, else, in the body of another
-- struct, by that one, else by its place, a file and an offset there. A tag of an inner scope is by its place.
pub data StructIdentity : Type 0 where
  ByTag : List ℕ → StructIdentity
  ByTypedef : List ℕ → StructIdentity
  ByPlace : ℕ → ℕ → StructIdentity
  -- 6.7.2.1: in the body of this one, after so many of its members
  ByMember : StructIdentity → ℕ → StructIdentity
  -- 6.2.1: of this tag, which a parameter list at this place declares without a body
  ByParameter : List ℕ → ℕ → ℕ → StructIdentity

mutual
  pub data CType : Type 0 where
    Void : CType
    Integer : IntegerType → CType
    -- 6.7.5.1: a pointer to a type with qualifiers
    Pointer : Qualifiers → CType → CType
    -- 6.7.5.2: an array of a type with qualifiers, of so many elements or of unknown size
    Array : Qualifiers → CType → Option ℕ → CType
    Struct : StructIdentity → CType
    -- 6.7.5.3: a function: its result with qualifiers, its parameters, and whether `...` is at their end
    Function : Qualifiers → CType → Parameters → Bool → CType

  pub data Parameters : Type 0 where
    NoParameters : Parameters
    Parameter : CType → Parameters → Parameters

abbrev pub same_truth : Bool → Bool → Bool
same_truth true b = b
same_truth false b = not b

-- 6.2.5: two integer types are one where rank and sign are
abbrev pub same_integer : IntegerType → IntegerType → Bool
same_integer t u = rank t == rank u && same_truth (is_signed t) (is_signed u)

abbrev pub same_qualifiers : Qualifiers → Qualifiers → Bool
same_qualifiers p q = same_truth p.constant q.constant && same_truth p.volatile q.volatile

abbrev pub same_struct : StructIdentity → StructIdentity → Bool
same_struct (ByTag a) (ByTag b) = bytes_eq a b
same_struct (ByTypedef a) (ByTypedef b) = bytes_eq a b
same_struct (ByPlace file offset) (ByPlace other at) = file == other && offset == at
same_struct (ByMember s k) (ByMember t i) = same_struct s t && k == i
same_struct (ByParameter a file offset) (ByParameter b other at) = bytes_eq a b && file == other && offset == at
same_struct _ _ = false

-- 6.7.5.2: two sizes, of which one may be unknown
abbrev pub same_size : Option ℕ → Option ℕ → Bool
same_size (Some n) (Some m) = n == m
same_size _ _ = true

abbrev pub known_size : Option ℕ → Option ℕ → Option ℕ
known_size None m = m
known_size (Some n) m = Some n

-- 6.2.7: compatible types
abbrev mutual
  pub compatible : CType → CType → Bool
  compatible Void Void = true
  compatible (Integer t) (Integer u) = same_integer t u
  compatible (Pointer p a) (Pointer q b) = same_qualifiers p q && compatible a b
  compatible (Array p a n) (Array q b m) = same_qualifiers p q && compatible a b && same_size n m
  compatible (Struct s) (Struct t) = same_struct s t
  compatible (Function p a ps e) (Function q b qs f) =
      same_qualifiers p q && compatible a b && all_compatible ps qs && same_truth e f
  compatible _ _ = false

  pub all_compatible : Parameters → Parameters → Bool
  all_compatible NoParameters NoParameters = true
  all_compatible (Parameter a ps) (Parameter b qs) = compatible a b && all_compatible ps qs
  all_compatible _ _ = false

-- 6.2.7: the composite type of two compatible types
abbrev mutual
  pub composite : CType → CType → CType
  composite (Pointer p a) (Pointer q b) = Pointer p (composite a b)
  composite (Array p a n) (Array q b m) = Array p (composite a b) (known_size n m)
  composite (Function p a ps e) (Function q b qs f) = Function p (composite a b) (all_composite ps qs) e
  composite a _ = a

  pub all_composite : Parameters → Parameters → Parameters
  all_composite (Parameter a ps) (Parameter b qs) = Parameter (composite a b) (all_composite ps qs)
  all_composite ps _ = ps
