-- Which declarations the rows of a project's declarations stand for, where the numbers of types, names, structs and
-- members are read.
use Rattle.std.specs.Prelude.{ℕ, List, Option, Some, None}
use Rattle.ck_types.specs.Types.{CType, StructIdentity, ByTag, ByTypedef, ByPlace, ByMember, ByParameter}
use Rattle.ck_prog.specs.Declarations as plain
use Rattle.ck_prog.specs.Declarations.{Entry, Meaning, MemberOf}
use Rattle.ck_prog.specs.TypeClasses.{Qualified}
use Rattle.ck_tables.specs.Readings.{plain_qualifiers, plain_layout}
use Rattle.ck_tables.specs.declared.entries.EntryInfo.{EntryInfo}
use Rattle.ck_tables.specs.declared.entries.MeaningInfo.{MeaningInfo}
use Rattle.ck_tables.specs.declared.entries.MeaningInfo.TheVariants as meanings
use Rattle.ck_tables.specs.declared.entries.MemberInfo.{MemberInfo}
use Rattle.ck_tables.specs.declared.entries.StructName.{StructName}
use Rattle.ck_tables.specs.declared.entries.StructName.TheVariants as structs
use Rattle.ck_tables.specs.declared.facts.QualifiedType.{QualifiedType}
use Rattle.ck_types.specs.declared.types.TypeId.{TypeId}

-- what the numbers stand for that declarations name
pub record EntryReadings : Type 0 where
  pub type_of : ℕ → CType
  pub name_of : ℕ → List ℕ
  pub struct_of : ℕ → StructIdentity
  pub member_of : ℕ → MemberOf

-- where the structs of smaller numbers are these
abbrev pub plain_struct : (ℕ → List ℕ) → (ℕ → StructIdentity) → StructName → StructIdentity
plain_struct name_of struct_of (structs.Tag name) = ByTag (name_of name.0)
plain_struct name_of struct_of (structs.Typedef name) = ByTypedef (name_of name.0)
plain_struct name_of struct_of (structs.Place file offset) = ByPlace file offset
plain_struct name_of struct_of (structs.Member of before) = ByMember (struct_of of.0) before
plain_struct name_of struct_of (structs.Parameter tag file offset) = ByParameter (name_of tag.0) file offset

abbrev pub plain_made : (ℕ → CType) → Option QualifiedType → Option Qualified
plain_made type_of None = None
plain_made type_of (Some t) =
    Some (record { qualifiers = plain_qualifiers t.qualifiers; type = type_of t.type_id.0 })

abbrev pub plain_function : (ℕ → CType) → Option TypeId → Option CType
plain_function type_of None = None
plain_function type_of (Some t) = Some (type_of t.0)

abbrev pub plain_member : (ℕ → CType) → (ℕ → StructIdentity) → MemberInfo → MemberOf
plain_member type_of struct_of m =
    record {
      of = struct_of m.of.0;
      type = plain_made type_of m.made;
      offset = m.offset;
      front = plain_layout m.front;
      constant = m.constant;
    }

abbrev pub plain_meaning : EntryReadings → MeaningInfo → Meaning
plain_meaning r (meanings.Variable made linkage defining storage) =
    plain.Variable (plain_made r.type_of made) linkage defining storage
plain_meaning r (meanings.Function type_id linkage defining) =
    plain.FunctionNamed (plain_function r.type_of type_id) linkage defining
plain_meaning r (meanings.TypeName made) = plain.TypeNamed (plain_made r.type_of made)
plain_meaning r (meanings.Enumerator value) = plain.Enumerator value
plain_meaning r (meanings.StructTag of) = plain.StructTag (r.struct_of of.0)
plain_meaning r meanings.EnumTag = plain.EnumTag
plain_meaning r (meanings.Member member) = plain.Member (r.member_of member.0)
plain_meaning r (meanings.Completed of layout constant) =
    plain.Completed (r.struct_of of.0) (plain_layout layout) constant
plain_meaning r meanings.Label = plain.Label

abbrev pub plain_entry : EntryReadings → EntryInfo → Entry
plain_entry r e =
    record {
      file = e.file;
      scope = e.scope.items;
      name = r.name_of e.name.0;
      at = e.at;
      meaning = plain_meaning r e.meaning;
    }
